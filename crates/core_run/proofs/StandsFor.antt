-- Which disks and keepers stand for a list.
use Rattle.std.proofs.Common.{◌≡◌, ◌⊎◌, ℕ, zero, suc, ◌+◌, ◌*◌, ◌^◌, ◌<◌, ◌≤◌, Bool, true, false, cond, ◌&&◌, ◌||◌, nat_le, List, [], ◌∷◌, ◌++◌, map, filter, All, refl, sym, ◌∙◌, ap, subst, arith, append-nil, get_or}
use Rattle.std.specs.Prelude.{Some, None, find, is_some, min, max}
use Rattle.std.specs.FinMap.{contains_key}
use Rattle.std.specs.List.{list_all}
use Rattle.std.proofs.Math.Nat.{min-eq_left, max-eq_left, le-max_right}
use Rattle.std.proofs.lemmas.List.Elements.{All-nil, All-cons, All-head, All-tail, All-append, All-weaker, filter_passes}
use Rattle.std.proofs.lemmas.Bool.{leb-true}
use Rattle.std.proofs.lemmas.Nat.{mul-le}
use Rattle.agg_outside.specs.Files.{Files}
use Rattle.agg_outside.specs.Rows.{Held}
use Rattle.agg_model.specs.declared.change.Change.{Change}
use Rattle.agg_model.specs.declared.entity.Entity.{Entity}
use Rattle.agg_model.specs.declared.entity.Entity.TheVariants.{Accounts, Storage, Code, LogAddrs, LogTopics, TracesFrom, TracesTo}
use Rattle.agg_model.specs.declared.entity.Range.{Range}
use Rattle.agg_model.specs.declared.entity.FileKind.{FileKind}
use Rattle.agg_model.specs.declared.entity.FileKind.TheVariants.{Kv, Bt, Kvi, V, Vi, Ef, Efi}
use Rattle.agg_model.specs.declared.limits.TheConstants.{STEPS_MOST}
use Rattle.agg_model.specs.Arranged.{arranged}
use Rattle.agg_model.specs.Batch.{IsBatch, IsChange, HasNoRepeats, content_of}
use Rattle.agg_model.specs.ChangeList.{ChangeList, grown, next_of}
use Rattle.agg_model.specs.Entity.{is_domain_entity}
use Rattle.agg_model.proofs.GrownLaws.{grown-IsChangeList, next_of-above, AscendFrom-All}
use Rattle.merge_ranges.specs.declared.name.FileName.{FileName}
use Rattle.merge_ranges.specs.Cut.{sizes, is_aligned, end_of}
use Rattle.merge_ranges.specs.Kind.{is_index_kind}
use Rattle.merge_ranges.specs.Name.{has_kind, is_name, spelled}
use Rattle.merge_ranges.specs.CanonicalNames.{kinds, group_names, entity_names}
use Rattle.agg_core.specs.Files.{HasFile}
use Rattle.agg_core.specs.Consistent.{range_at, is_whole, reach, then_from, cover_from, cover, least_end, end_of_files, kept_cover, IsGoodRow, IsOpenable, IsConsistent}
use Rattle.core_run.specs.Consistent.{HasKeptRows, HasNoFile, no_rows, no_changes}
use Rattle.core_machine.proofs.GroupTexts.{named}
use Rattle.agg_core.proofs.Stays.{file_bytes-later}

-- ---- no file is there

module _ (files : Files) (none : HasNoFile files) where
  absent : (name : FileName) → is_name name ≡ true → contains_key files (spelled name) ≡ false
  absent name is = ap is_some (none name is)

  aligned-by : (e : Entity) (r : Range) (t : Bool) → is_aligned r ≡ true → ((k : FileKind) → (t || is_index_kind k) ≡ true → contains_key files (spelled (named e r k)) ≡ false)
      → list_all (λ n. contains_key files (spelled n)) (map (λ k. named e r k) (filter (λ k. t || is_index_kind k) kinds)) ≡ false
  unfolding is_index_kind
  aligned-by e r true al each = ap (λ b. b && list_all (λ n. contains_key files (spelled n)) (map (λ k. named e r k) (Bt ∷ Kvi ∷ V ∷ Vi ∷ Ef ∷ Efi ∷ []))) (each Kv refl)
  aligned-by e r false al each = ap (λ b. b && list_all (λ n. contains_key files (spelled n)) (map (λ k. named e r k) (Efi ∷ []))) (each Ef refl)

  both : (a b : Bool) → a ≡ true → b ≡ true → (a && b) ≡ true
  both true b h g = g
  both false b h g = h

  aligned : (e : Entity) (r : Range) → is_aligned r ≡ true → list_all (λ n. contains_key files (spelled n)) (group_names e r) ≡ false
  unfolding has_kind is_name
  aligned e r al = aligned-by e r (is_domain_entity e) al (λ k has. absent (named e r k) (both (is_aligned r) (is_domain_entity e || is_index_kind k) al has))

  not-whole-by : (e : Entity) (r : Range) (t : Bool) → is_aligned r ≡ t → (t && list_all (λ n. contains_key files (spelled n)) (group_names e r)) ≡ false
  not-whole-by e r true al = aligned e r al
  not-whole-by e r false al = refl

  not-whole : (e : Entity) (r : Range) → is_whole files e r ≡ false
  unfolding is_whole
  not-whole e r = not-whole-by e r (is_aligned r) refl

  no-reach : (e : Entity) (from : ℕ) → reach files e from ≡ None
  unfolding reach
  no-reach e from = λ i. find (λ size. not-whole e (range_at from size) i) sizes

  no-cover-from : (most : ℕ) (e : Entity) (from : ℕ) → cover_from most files e from ≡ []
  no-cover-from zero e from = refl
  no-cover-from (suc most) e from = ap (λ o. then_from o from (λ next. cover_from most files e next)) (no-reach e from)

  no-cover : (e : Entity) → cover files e ≡ []
  unfolding cover
  no-cover e = no-cover-from STEPS_MOST e 0

  at-nothing : (n : ℕ) → min 0 n ≡ 0
  at-nothing n = min-eq_left (omega arith)

  no-end : end_of_files files ≡ 0
  no-end =
      let rest = Storage ∷ Code ∷ LogAddrs ∷ LogTopics ∷ TracesFrom ∷ TracesTo ∷ [] in
      ap (λ l. min (end_of l) (least_end rest files)) (no-cover Accounts) ∙ at-nothing (least_end rest files)

  openable : (size : ℕ) → IsOpenable files no_rows size
  openable size = record {
    floor = λ e. omega arith;
    edge = λ e. subst (λ (l : List Range). All (λ r. (r.to ≤ end_of_files files) ⊎ (end_of_files files ≤ r.from)) l) (sym (no-cover e)) (All-nil (λ (r : Range). (r.to ≤ end_of_files files) ⊎ (end_of_files files ≤ r.from)));
    rows = All-nil (IsGoodRow size);
    apart = λ i j d below within. absurd (omega (arith, within));
  }

  no-bytes : (size : ℕ) (e : Entity) → All (HasFile (no_changes size) files) (entity_names e (kept_cover files e))
  no-bytes size e =
      let P : List Range → Type 0 = λ l. All (HasFile (no_changes size) files) (entity_names e (filter (λ r. nat_le r.to (end_of_files files)) l)) in
      subst P (sym (no-cover e)) (All-nil (HasFile (no_changes size) files))

  nothing-next : (size n : ℕ) → n ≡ 0 → 0 ≡ max 0 (n * size)
  nothing-next size n is = sym (ap (λ m. max 0 (m * size)) is ∙ max-eq_left (omega arith))

  nothing-within : (size : ℕ) → 0 ≤ 4096 * size
  nothing-within size = omega arith

  pub stands-empty : (size : ℕ) → 1 ≤ size → size ≤ 2 ^ 32 → IsConsistent files no_rows (no_changes size)
  unfolding arranged
  stands-empty size some within = record {
    valid = record {
      size_from_one = some;
      size_within = within;
      next_within = nothing-within size;
      below_next = All-nil (λ (c : Change). c.tx < 0);
      ascend = tt;
      no_repeats = tt;
      fit = All-nil IsChange;
    };
    openable = openable size;
    bytes = no-bytes size;
    rows = refl;
    next = nothing-next size (end_of_files files) no-end;
    content = omega arith;
  }

-- ---- after a batch

module _ (P : FileName → Type 0) where
  group-all-by : (e : Entity) (r : Range) (k : FileKind) (ks : List FileKind) (t : Bool) → ((l : FileKind) → P (named e r l)) → All P (map (λ l. named e r l) (filter (has_kind e) ks)) → All P (map (λ l. named e r l) (cond t (k ∷ filter (has_kind e) ks) (filter (has_kind e) ks)))
  group-all-by e r k ks true each rest = All-cons P (named e r k) (map (λ l. named e r l) (filter (has_kind e) ks)) (each k) rest
  group-all-by e r k ks false each rest = rest

  group-all : (e : Entity) (r : Range) (ks : List FileKind) → ((l : FileKind) → P (named e r l)) → All P (map (λ l. named e r l) (filter (has_kind e) ks))
  group-all e r [] each = All-nil P
  group-all e r (k ∷ ks) each = group-all-by e r k ks (has_kind e k) each (group-all e r ks each)

  over-all : (e : Entity) (rs : List Range) → All (λ r. (k : FileKind) → P (named e r k)) rs → All P (entity_names e rs)
  over-all e [] each = All-nil P
  over-all e (r ∷ rs) each =
      All-append P (group_names e r) (entity_names e rs) (group-all e r kinds (All-head (λ q. (k : FileKind) → P (named e q k)) r rs each)) (over-all e rs (All-tail (λ q. (k : FileKind) → P (named e q k)) r rs each))

le_chain : {a b c : ℕ} → a ≤ b → b ≤ c → a ≤ c
le_chain h g = omega (arith, h, g)

more : (n : ℕ) → n ≤ n + 1
more n = omega arith

next_of-append : (n : ℕ) (xs ds : List Change) → next_of n (xs ++ ds) ≡ next_of (next_of n xs) ds
next_of-append n [] ds = refl
next_of-append n (x ∷ xs) ds = next_of-append (x.tx + 1) xs ds

-- where the list was as long as its changes and files say, so is the longer one
next-later : (next end : ℕ) (changes batch : List Change) → next ≡ max (next_of 0 changes) end → end ≤ next_of next batch → next_of next batch ≡ max (next_of 0 (changes ++ batch)) end
next-later next end changes [] is above = is ∙ ap (λ l. max (next_of 0 l) end) (sym (append-nil changes))
next-later next end changes (c ∷ cs) is above =
    sym (ap (λ n. max n end) (next_of-append 0 changes (c ∷ cs)) ∙ max-eq_left above)

le_itself : (n : ℕ) → n ≤ n
le_itself n = omega arith

module _ (files : Files) (held now : Held) (list : ChangeList) (batch : List Change) (was : IsConsistent files held list) (may : IsBatch list.next (4096 * list.size) batch) (none : HasNoRepeats batch) where
  end-below : end_of_files files * list.size ≤ list.next
  end-below = subst (λ n. end_of_files files * list.size ≤ n) (sym was.next) (le-max_right (next_of 0 list.changes) (end_of_files files * list.size))

  abbrev IsBelow : FileName → Type 0
  IsBelow name = name.range.to * list.size ≤ list.next

  -- the files of the covers are over complete steps
  below : (e : Entity) → All IsBelow (entity_names e (kept_cover files e))
  below e =
      let end = end_of_files files in
      over-all IsBelow e (kept_cover files e)
      (All-weaker (λ (r : Range). nat_le r.to end ≡ true) (λ (r : Range). (k : FileKind) → r.to * list.size ≤ list.next)
      (λ r passes k. le_chain (mul-le r.to list.size end list.size (leb-true r.to end passes) (le_itself list.size)) end-below)
      (kept_cover files e) (filter_passes (λ (r : Range). nat_le r.to end) (cover files e)))

  late : All (λ (d : Change). list.next ≤ d.tx) batch
  late = AscendFrom-All list.next batch may.ascend

  bytes-later : (e : Entity) → All (HasFile (grown list batch) files) (entity_names e (kept_cover files e))
  bytes-later e = λ k d within.
      was.bytes e k d within ∙ ap Some (sym (file_bytes-later list batch (get_or (entity_names e (kept_cover files e)) k d) late (below e k d within)))

  pub stands-later : IsOpenable files now list.size → HasKeptRows files now (grown list batch) → content_of (list.changes ++ batch) ≤ 2 ^ 28 → IsConsistent files now (grown list batch)
  stands-later openable rows content = record {
    valid = grown-IsChangeList list batch was.valid may none;
    openable = openable;
    bytes = bytes-later;
    rows = rows;
    next =
        next-later list.next (end_of_files files * list.size) list.changes batch was.next
        (le_chain end-below (next_of-above list.next list.next batch (more list.next) may.ascend));
    content = content;
  }
