-- Laws of a batch that is added: what the rows say then, and what views see.
use Rattle.std.proofs.Common.{◌≡◌, ◌≢◌, ℕ, zero, suc, ◌+◌, ◌-◌, ◌*◌, ◌^◌, ◌<◌, ◌≤◌, nat_le, true, false, cond, List, [], ◌∷◌, ◌++◌, map, length, get_or, All, Option, Some, None, IfSome, IfNone, IsSomeAnd, refl, ap, subst, sym, ◌∙◌, arith}
use Rattle.std.specs.List.{slice_get, filter}
use Rattle.std.specs.Option.{ForSome, option_map}
use Rattle.std.proofs.lemmas.Bool.{leb-true, le-leb, lt-leb}
use Rattle.std.proofs.lemmas.Nat.{mul-le}
use Rattle.std.proofs.lemmas.Option.{slice_get_within}
use Rattle.std.proofs.lemmas.List.Elements.{All-nil, All-head, All-tail, All-append, All-map}
use Rattle.std.proofs.lemmas.List.Sorted.{All-permutation}
use Rattle.agg_outside.specs.declared.disk.Disk.{Ghosts as DiskGhosts}
use Rattle.agg_outside.specs.declared.rows.Row.{Row}
use Rattle.agg_outside.specs.Files.{Files}
use Rattle.agg_outside.specs.Rows.{Held, applied}
use Rattle.agg_model.specs.declared.change.Change.{Change}
use Rattle.agg_model.specs.declared.entity.Entity.{Entity}
use Rattle.agg_model.specs.declared.entity.FileKind.{FileKind}
use Rattle.agg_model.specs.declared.entity.Range.{Range}
use Rattle.agg_model.specs.Arranged.{arranged, arranged_from}
use Rattle.agg_model.specs.Batch.{AscendFrom, IsBatch, HasNoRepeats, content_of}
use Rattle.agg_model.specs.ChangeList.{ChangeList, next_of, grown, begins_from}
use Rattle.agg_model.specs.Entity.{is_domain_entity}
use Rattle.agg_model.specs.Place.{Place, place_of}
use Rattle.agg_model.specs.Merged.{merged}
use Rattle.agg_model.proofs.ArrangedLaws.{arranged-append, arranged_from-IsPermutation}
use Rattle.agg_model.proofs.ContentsLaws.{kv_contents-later, v_contents-later, ef_contents-later}
use Rattle.agg_model.proofs.MergedLaws.{merged-IsBatch, merged-All, merged-HasNoRepeats, merged-content}
use Rattle.agg_model.proofs.GrownLaws.{AscendFrom-All, next_of-above, next_of-within, below-next_of, grown-IsChangeList}
use Rattle.content_laws.specs.Parts.{Adjoin}
use Rattle.domain_core.specs.KvFile.{kv_tag, tagged_pairs}
use Rattle.history_core.specs.VFile.{v_tag, tagged_befores}
use Rattle.inverted_index.specs.EfFile.{ef_tag, tagged_lists}
use Rattle.merge_ranges.specs.declared.name.FileName.{FileName}
use Rattle.merge_ranges.specs.Name.{has_kind}
use Rattle.merge_ranges.specs.CanonicalNames.{kinds, group_names}
use Rattle.collate_step.specs.Groups.{GroupFiles, AreGroupsBelow, group_of}
use Rattle.row_epochs.specs.Seen.{seen, shown, view, SameUpTo}
use Rattle.row_epochs.specs.Changes.{IsNew, change_of, changes_seen, writes_of}
use Rattle.row_epochs.specs.Versions.{Versions}
use Rattle.agg_core.specs.Files.{HasExactly}
use Rattle.agg_core.proofs.Stays.{file_bytes-later}
use Rattle.group_files.specs.NewFiles.{names_for}
use Rattle.state_store.specs.declared.store.Store.{Store}
use Rattle.state_store.specs.declared.view.View.{View}
use Rattle.epoch_window.specs.Seen.{seen_from, told_from}
use Rattle.state_store.specs.Store.{IsStepBelow, AreBelow, SeesAll, IsStore, Holds, Sees, Commits, set_of, ArePlain}
use Rattle.state_store.proofs.PlainLaws.{plain_after}

-- ---- numbers

pub content_of-append : (cs ds : List Change) → content_of (cs ++ ds) ≡ content_of cs + content_of ds
content_of-append [] ds = omega arith
content_of-append (c ∷ cs) ds = omega (arith, content_of-append cs ds)

-- the last change gives the next number
next_of-at : (next : ℕ) (cs : List Change) (i : ℕ) (c : Change) → length cs ≡ suc i → slice_get cs i ≡ Some c → next_of next cs ≡ c.tx + 1
next_of-at next [] i c len e = absurd (omega arith)
next_of-at next (d ∷ []) zero c len e = cc
next_of-at next (d ∷ []) (suc i) c len e = absurd (omega arith)
next_of-at next (d ∷ f ∷ cs) zero c len e = absurd (omega arith)
next_of-at next (d ∷ f ∷ cs) (suc i) c len e = next_of-at (d.tx + 1) (f ∷ cs) i c (omega arith) e

pub next_of-last : (next : ℕ) (cs : List Change) (c : Change) → slice_get cs (length cs - 1) ≡ Some c → next_of next cs ≡ c.tx + 1
next_of-last next cs c e =
    let within = slice_get_within cs (length cs - 1) c e in
    next_of-at next cs (length cs - 1) c (omega (arith, within)) e

pub small_content : (pending batch : List Change) (limit : ℕ) → batch ≡ merged pending → content_of pending ≤ limit → limit ≤ 2 ^ 28 → content_of batch < 2 ^ 63
small_content pending batch limit e raw within = rw e (omega (arith, merged-content pending))

pub early_numbers : (next far : ℕ) (pending batch : List Change) → batch ≡ merged pending → IsBatch 0 far pending → far ≤ 2 ^ 63 → All (λ c. c.tx < 2 ^ 63) batch
early_numbers next far pending batch e fits within =
    rw e (λ k z below. early (merged-All (λ c. c.tx < far) pending fits.below_far k z below))
  where
    early : {n : ℕ} → n < far → n < 2 ^ 63
    early h = omega arith

-- ---- a batch that comes next

begins_from-AscendFrom : (next : ℕ) (cs : List Change) → AscendFrom 0 cs → begins_from next cs ≡ true → AscendFrom next cs
begins_from-AscendFrom next [] up begins = tt
begins_from-AscendFrom next (c ∷ cs) up begins = (leb-true next c.tx begins, up.1)

pub next_batch : (next far : ℕ) (cs : List Change) → IsBatch 0 far cs → begins_from next cs ≡ true → IsBatch next far (merged cs)
next_batch next far cs batch begins =
    merged-IsBatch next far cs (record { ascend = begins_from-AscendFrom next cs batch.ascend begins; below_far = batch.below_far; fit = batch.fit })

numbers_apart : (c d : Change) (n : ℕ) → c.tx < n → n ≤ d.tx → place_of c ≢ place_of d
unfolding place_of
numbers_apart c d n low high = λ same. let number : (p : Place) → ℕ = λ p. p.number in let e : c.tx ≡ d.tx = ap number same in absurd (omega (arith, e))

are_new : (next far : ℕ) (cs ds : List Change) → All (λ c. c.tx < next) cs → IsBatch next far ds → All (λ d. IsNew d cs) ds
are_new next far cs ds low batch = λ k z below i y at. numbers_apart _ _ next (low i y at) (AscendFrom-All next ds batch.ascend k z below)

-- its changes are new to what the present epoch sees
pub can_add : (hot : Versions) (next far : ℕ) (pending batch : List Change) → batch ≡ merged pending → AreBelow next hot → IsBatch next far (merged pending) → ForSome hot.told (λ h. All (λ c. IsNew c (changes_seen hot.epoch h.rows)) batch)
can_add hot next far pending batch is below fits = λ h told.
    subst (λ (cs : List Change). All (λ c. IsNew c (changes_seen hot.epoch h.rows)) cs) (sym is) (are_new next far (changes_seen hot.epoch h.rows) (merged pending) (below h told) fits)

-- ---- what the rows say then

pub record Ingested (old new : Versions) (batch : List Change) : Type 0 where
  pub epoch : new.epoch ≡ old.epoch + 1
  pub changes : IfSome old.told (λ h. IsSomeAnd new.told (λ k. changes_seen (old.epoch + 1) k.rows ≡ arranged_from (changes_seen old.epoch h.rows) batch))
  pub silent : IfNone old.told (new.told ≡ None)
  pub plain : ForSome old.told ArePlain → ForSome new.told ArePlain

pub ingested : (old new : Versions) (pending batch : List Change) → batch ≡ merged pending → new.epoch ≡ old.epoch + 1
    → IfSome old.told (λ h. IsSomeAnd new.told (λ k. changes_seen (old.epoch + 1) k.rows ≡ arranged_from (changes_seen old.epoch h.rows) batch)) → IfNone old.told (new.told ≡ None)
    → IfSome old.told (λ h. new.told ≡ Some (applied (writes_of (old.epoch + 1) batch) h)) → Ingested old new (merged pending)
ingested old new pending batch is epoch changes silent told = record {
  epoch = epoch;
  changes = subst (λ (cs : List Change). IfSome old.told (λ h. IsSomeAnd new.told (λ k. changes_seen (old.epoch + 1) k.rows ≡ arranged_from (changes_seen old.epoch h.rows) cs))) is changes;
  silent = silent;
  plain = plain_after old.told new.told (old.epoch + 1) batch told silent;
}

raised : (low high : ℕ) (cs : List Change) → low ≤ high → All (λ c. c.tx < low) cs → All (λ c. c.tx < high) cs
raised low high cs up below = λ k d at. above (below k d at)
  where
    above : {n : ℕ} → n < low → n < high
    above h = omega (arith, h, up)

all_below : (low high : ℕ) (cs ds : List Change) → low ≤ high → All (λ c. c.tx < low) cs → All (λ c. c.tx < high) ds → All (λ c. c.tx < high) (arranged_from cs ds)
all_below low high cs ds up first second =
    let P = λ (c : Change). c.tx < high in
    All-permutation P (cs ++ ds) (arranged_from cs ds) (arranged_from-IsPermutation cs ds) (All-append P cs ds (raised low high cs up first) second)

below-by : (a b : Option Held) (e f low high : ℕ) (batch : List Change) → f ≡ e + 1 → low ≤ high → All (λ c. c.tx < high) batch
    → IfSome a (λ h. IsSomeAnd b (λ k. changes_seen (e + 1) k.rows ≡ arranged_from (changes_seen e h.rows) batch)) → IfNone a (b ≡ None)
    → ForSome a (λ h. All (λ c. c.tx < low) (changes_seen e h.rows)) → ForSome b (λ h. All (λ c. c.tx < high) (changes_seen f h.rows))
below-by None b e f low high batch next up within changes silent below = λ h told. cc (silent, told)
below-by (Some h) None e f low high batch next up within changes silent below = λ k told. absurd changes
below-by (Some h) (Some k) e f low high batch next up within changes silent below = λ m told.
    let same : k ≡ m = some_is told in
    let P : ℕ → Type 0 = λ n. All (λ c. c.tx < high) (changes_seen n m.rows) in
    let Q : Held → Type 0 = λ o. All (λ c. c.tx < high) (changes_seen (e + 1) o.rows) in
    subst P (sym next) (subst Q same (subst (λ (cs : List Change). All (λ c. c.tx < high) cs) (sym changes) (all_below low high (changes_seen e h.rows) batch up (below h refl) within)))
  where
    some_is : {x y : Held} → Some x ≡ Some y → x ≡ y
    some_is e = cc

le_trans : {a b c : ℕ} → a ≤ b → b ≤ c → a ≤ c
le_trans h k = omega (arith, h, k)

pub sound_after : {D K : Type 0} (most : ℕ) (store : Store D K) (hot : Versions) (batch : List Change) (next content : ℕ) → IsStore most store → IsBatch store.next (4096 * store.size) batch → Ingested store.hot hot batch
    → next ≡ next_of store.next batch → content ≤ most → IsStore most (record store { hot = hot; next = next; content = content })
sound_after most store hot batch next content sound fits rows is_next small =
    let within : next_of store.next batch ≤ 4096 * store.size = next_of-within store.next (4096 * store.size) batch sound.next_within fits.below_far in
    let up : store.next ≤ next_of store.next batch = next_of-above store.next store.next batch (omega arith) fits.ascend in
    let P : ℕ → Type 0 = λ n. AreBelow n hot in
    record {
      size_from_one = sound.size_from_one;
      size_within = sound.size_within;
      next_within = omega (arith, within, is_next);
      content = small;
      complete = le_trans sound.complete (omega (arith, up, is_next));
      below = subst P (sym is_next) (below-by store.hot.told hot.told store.hot.epoch hot.epoch store.next (next_of store.next batch) batch rows.epoch up (below-next_of store.next store.next batch fits.ascend) rows.changes rows.silent sound.below);
    }

-- ---- the grown list

late : (list : ChangeList) (batch : List Change) (to : ℕ) → All (λ d. list.next ≤ d.tx) batch → to * list.size ≤ list.next → All (λ d. to * list.size ≤ d.tx) batch
late list batch to all complete = λ i z below. le_trans complete (all i z below)

group-later : (list : ChangeList) (batch : List Change) (e : Entity) (r : Range) → All (λ d. list.next ≤ d.tx) batch → r.to * list.size ≤ list.next → group_of (grown list batch) e r ≡ group_of list e r
group-later list batch e r all complete =
    let after = late list batch r.to all complete in
    λ i. record {
      entity = e;
      range = r;
      kv = cond (is_domain_entity e) (Some (tagged_pairs (kv_tag e list.size r.from r.to) (kv_contents-later list.size list.changes batch e r.from r.to after i))) None;
      v = cond (is_domain_entity e) (Some (tagged_befores (v_tag e list.size r.from r.to) (v_contents-later list.size list.changes batch e r.from r.to after i))) None;
      ef = tagged_lists (ef_tag e list.size r.from r.to) (ef_contents-later list.size list.changes batch e r.from r.to after i);
    }

times_up : (a b s : ℕ) → a ≤ b → a * s ≤ b * s
times_up a b s h = mul-le a s b s h (omega arith)

adjoin_up : (from : ℕ) (ranges : List Range) (to : ℕ) → Adjoin from ranges to → from ≤ to
adjoin_up from [] to same = omega (arith, same)
adjoin_up from (r ∷ rs) to cut = let rest = adjoin_up r.to rs to cut.1.1 in omega (arith, rest, cut.0, cut.1.0)

groups-later : (list : ChangeList) (batch : List Change) (e : Entity) (from : ℕ) (ranges : List Range) (to : ℕ) → All (λ d. list.next ≤ d.tx) batch → to * list.size ≤ list.next → Adjoin from ranges to
    → map (group_of list e) ranges ≡ map (group_of (grown list batch) e) ranges
groups-later list batch e from [] to all complete cut = refl
groups-later list batch e from (r ∷ rs) to all complete cut =
    let up : r.to * list.size ≤ to * list.size = times_up r.to to list.size (adjoin_up r.to rs to cut.1.1) in
    λ i. sym (group-later list batch e r all (le_trans up complete)) i ∷ groups-later list batch e r.to rs to all complete cut.1.1 i

pub are_groups-later : (list : ChangeList) (batch : List Change) (end : ℕ) (groups : List GroupFiles) → All (λ d. list.next ≤ d.tx) batch → end * list.size ≤ list.next → AreGroupsBelow list end groups → AreGroupsBelow (grown list batch) end groups
are_groups-later list batch end groups all complete below = λ e.
    let here = below e in
    (here.0, (here.1.0, here.1.1 ∙ groups-later list batch e 0 here.0 end all complete here.1.0))

-- the names of groups that end below a step are of files that do
pub names-within : (end : ℕ) (groups : List GroupFiles) → All (IsStepBelow end) groups → All (λ n. n.range.to ≤ end) (names_for groups)
names-within end [] all = All-nil (λ (n : FileName). n.range.to ≤ end)
names-within end (g ∷ gs) all =
    let P = λ (n : FileName). n.range.to ≤ end in
    All-append P (group_names g.entity g.range) (names_for gs)
    (All-map P (λ (k : FileKind). record { entity = g.entity; range = g.range; kind = k }) (filter (has_kind g.entity) kinds) (λ k d below. (All-head (IsStepBelow end) g gs all).1))
    (names-within end gs (All-tail (IsStepBelow end) g gs all))

exactly-later : (list : ChangeList) (batch : List Change) (end : ℕ) (names : List FileName) (f : Files) → All (λ d. list.next ≤ d.tx) batch → end * list.size ≤ list.next → All (λ n. n.range.to ≤ end) names → HasExactly list names f → HasExactly (grown list batch) names f
exactly-later list batch end names f all complete within has = record {
  stand = λ k d below. has.stand k d below ∙ ap Some (sym (file_bytes-later list batch (get_or names k d) all (le_trans (times_up (get_or names k d).range.to end list.size (within k d below)) complete)));
  only = has.only;
  no_temporary = has.no_temporary;
}

sees_all : (list : ChangeList) (old new : Versions) (batch : List Change) → Ingested old new batch → SeesAll old list → SeesAll new (grown list batch)
sees_all list old new batch rows sees = by old.told new.told sees rows.changes
  where
    by : (a b : Option Held) → IsSomeAnd a (λ h. changes_seen old.epoch h.rows ≡ arranged list.changes) → IfSome a (λ h. IsSomeAnd b (λ k. changes_seen (old.epoch + 1) k.rows ≡ arranged_from (changes_seen old.epoch h.rows) batch))
        → IsSomeAnd b (λ k. changes_seen new.epoch k.rows ≡ arranged (list.changes ++ batch))
    by None b before after = absurd before
    by (Some h) None before after = after
    by (Some h) (Some k) before after =
        ap (λ e. changes_seen e k.rows) rows.epoch ∙ after ∙ ap (λ cs. arranged_from cs batch) before ∙ sym (arranged-append list.changes batch)

pub grows_after : {D K : Type 0} (disk : DiskGhosts D) (store : Store D K) (list : ChangeList) (hot : Versions) (batch : List Change) (next content : ℕ) → Holds disk store list → IsBatch store.next (4096 * store.size) batch → HasNoRepeats batch → Ingested store.hot hot batch
    → next ≡ next_of store.next batch → content ≡ store.content + content_of batch → Holds disk (record store { hot = hot; next = next; content = content }) (grown list batch)
grows_after disk store list hot batch next content holds fits none rows is_next is_content =
    let fits_list : IsBatch list.next (4096 * list.size) batch = rw (← holds.next, ← holds.size) fits in
    let all : All (λ d. list.next ≤ d.tx) batch = AscendFrom-All list.next batch fits_list.ascend in
    record {
      valid = grown-IsChangeList list batch holds.valid fits_list none;
      rows = sees_all list store.hot hot batch rows holds.rows;
      plain = rows.plain holds.plain;
      next = is_next ∙ ap (λ n. next_of n batch) holds.next;
      content = is_content ∙ ap (λ n. n + content_of batch) holds.content ∙ sym (content_of-append list.changes batch);
      size = holds.size;
      complete = le_trans holds.complete (next_of-above list.next list.next batch (omega arith) fits_list.ascend);
      groups = are_groups-later list batch store.sets.current.end store.sets.current.groups all holds.complete holds.groups;
      single = holds.single;
      stand = λ f told. exactly-later list batch store.sets.current.end (names_for store.sets.current.groups) f all holds.complete (names-within store.sets.current.end store.sets.current.groups holds.single) (holds.stand f told);
    }

pub commits_after : {D K : Type 0} (disk : DiskGhosts D) (most : ℕ) (store : Store D K) (hot : Versions) (pending : List Change) (next content : ℕ) → IsBatch 0 (4096 * store.size) pending → begins_from store.next pending ≡ true → store.content + content_of (merged pending) ≤ most
    → Ingested store.hot hot (merged pending) → next ≡ next_of store.next (merged pending) → content ≡ store.content + content_of (merged pending)
    → (list : ChangeList) → Holds disk store list → Commits (Holds disk (record store { hot = hot; next = next; content = content })) most list pending (Some (record { changes = length (merged pending); next = next }))
commits_after disk most store hot pending next content batch begins small rows is_next counted list holds =
    let within : content_of list.changes + content_of (merged pending) ≤ most = rw (← holds.content) small in
    let begins_list : begins_from list.next pending ≡ true = rw (← holds.next) begins in
    record {
      could = sym (rw (begins_list, le-leb (content_of list.changes + content_of (merged pending)) most within));
      told = λ i. record { changes = length (merged pending); next = (is_next ∙ ap (λ n. next_of n (merged pending)) holds.next) i };
      grows = grows_after disk store list hot (merged pending) next content holds (next_batch store.next (4096 * store.size) pending batch begins) (merged-HasNoRepeats pending) rows is_next counted;
      same = tt;
    }

pub refuses_first : {D K : Type 0} (disk : DiskGhosts D) (most : ℕ) (store : Store D K) (pending : List Change) → begins_from store.next pending ≡ false → (list : ChangeList) → Holds disk store list → Commits (Holds disk store) most list pending None
refuses_first disk most store pending begins list holds =
    let begins_list : begins_from list.next pending ≡ false = rw (← holds.next) begins in
    record { could = sym (rw begins_list); told = tt; grows = tt; same = holds }

pub refuses_content : {D K : Type 0} (disk : DiskGhosts D) (most : ℕ) (store : Store D K) (pending : List Change) → begins_from store.next pending ≡ true → most < store.content + content_of (merged pending) → (list : ChangeList) → Holds disk store list → Commits (Holds disk store) most list pending None
refuses_content disk most store pending begins over list holds =
    let beyond : most < content_of list.changes + content_of (merged pending) = rw (← holds.content) over in
    let begins_list : begins_from list.next pending ≡ true = rw (← holds.next) begins in
    record { could = sym (rw (begins_list, lt-leb (content_of list.changes + content_of (merged pending)) most beyond)); told = tt; grows = tt; same = holds }

-- ---- what views see

unshown : (rows : List Row) → map change_of (map shown rows) ≡ map change_of rows
unfolding change_of
unshown [] = refl
unshown (row ∷ rows) = ap (λ cs. change_of row ∷ cs) (unshown rows)

seen_same : (epoch : ℕ) (old new : List Row) → view epoch new ≡ view epoch old → changes_seen epoch new ≡ changes_seen epoch old
seen_same epoch old new same = sym (unshown (seen epoch new)) ∙ ap (map change_of) same ∙ unshown (seen epoch old)

told_same : (a b : Option Held) (last epoch from : ℕ) → epoch ≤ last → IfSome a (λ h. IsSomeAnd b (λ k. SameUpTo last h.rows k.rows)) → IfNone a (b ≡ None) → option_map (seen_from epoch from) b ≡ option_map (seen_from epoch from) a
told_same None b last epoch from within same silent = ap (option_map (seen_from epoch from)) silent
told_same (Some h) None last epoch from within same silent = absurd same
told_same (Some h) (Some k) last epoch from within same silent = ap Some (ap (filter (λ (c : Change). nat_le from c.tx)) (seen_same epoch h.rows k.rows (same epoch within)))

pub sees_after : (old new : Versions) (size : ℕ) → new.epoch ≡ old.epoch + 1 → IfSome old.told (λ h. IsSomeAnd new.told (λ k. SameUpTo old.epoch h.rows k.rows)) → IfNone old.told (new.told ≡ None)
    → (v : View) (list : ChangeList) → Sees old size v list → Sees new size v list
sees_after old new size raised same silent v list sees = record {
  epoch = le_trans sees.epoch (omega (arith, raised));
  stands = record {
    are_changes = sees.stands.are_changes;
    size_is = sees.stands.size_is;
    files_are = sees.stands.files_are;
    told_is = told_same old.told new.told old.epoch v.epoch ((set_of v).end * list.size) sees.epoch same silent ∙ sees.stands.told_is;
    at_is = sees.stands.at_is;
  };
}

-- only faults were counted
pub sees_faults : (old new : Versions) (size : ℕ) → new ≡ record old { faults = new.faults } → (v : View) (list : ChangeList) → Sees old size v list → Sees new size v list
sees_faults old new size same v list sees = record {
  epoch = le_trans sees.epoch (omega (arith, ap (λ (h : Versions). h.epoch) same));
  stands = record {
    are_changes = sees.stands.are_changes;
    size_is = sees.stands.size_is;
    files_are = sees.stands.files_are;
    told_is = ap (λ (h : Versions). told_from v.epoch ((set_of v).end * list.size) h) same ∙ sees.stands.told_is;
    at_is = sees.stands.at_is;
  };
}
