-- Each entry that is possible keeps a machine sound, and so does each list of entries that are possible where they stand.
use Rattle.std.proofs.Common.{◌≡◌, ◌⊎◌, inl, inr, Bool, true, false, not, ◌||◌, List, [], ◌∷◌, ◌++◌, ℕ, ◌+◌, ◌-◌, ◌*◌, ◌/◌, ◌≤◌, ◌<◌, length, refl, sym, ◌∙◌, ap, subst, arith}
use Rattle.std.proofs.Math.Nat.{le-div_iff_mul-le, div-le_of_le-mul}
use Rattle.std.specs.Cmp.{first_so, second_so}
use Rattle.agg_model.specs.declared.entity.Entity.{Entity}
use Rattle.agg_model.specs.declared.entity.Range.{Range}
use Rattle.agg_model.specs.declared.entity.FileKind.TheVariants.{Ef}
use Rattle.merge_ranges.specs.Name.{spelled}
use Rattle.merge_ranges.specs.Cut.{is_aligned, IsCut, IsCutFrom, end_from}
use Rattle.core_machine.specs.declared.entry.Entry.{Entry}
use Rattle.core_machine.specs.declared.entry.Entry.TheVariants.{Ingest, Open, Close, Publish, Stray, Sweep, Settled, Work}
use Rattle.core_machine.specs.declared.machine.Machine.{Machine}
use Rattle.core_machine.specs.Texts.{has, SameNames, AreAmong, with_names, without_names, entity_texts}
use Rattle.core_machine.specs.Sound.{AreWholeGroups, IsSound}
use Rattle.core_machine.specs.Publishing.{has_group, parts_of, IsCollation, IsMerge, IsPublish}
use Rattle.core_machine.specs.Entries.{IsPossible, ArePossible, after, after_publish, replay}
use Rattle.core_machine.proofs.TextLaws.{has-with, has-without, form-with, form-without}
use Rattle.core_machine.proofs.GroupTexts.{named}
use Rattle.core_machine.proofs.Cuts.{stands-in, cut-back}
use Rattle.core_machine.proofs.Visible.{both, end-is, group-inside}
use Rattle.core_machine.proofs.KeptSimple.{kept-ingest, kept-open, kept-close, kept-stray, kept-sweep, rows-with}
use Rattle.core_machine.proofs.KeptCollation.{whole-collated}
use Rattle.core_machine.proofs.KeptMerge.{IsChain, parts-chain, all-in, whole-merged}

or-split : (a b : Bool) → (a || b) ≡ true → (a ≡ true) ⊎ (b ≡ true)
or-split true b h = inl refl
or-split false b h = inr h

or-true : (a : Bool) → (a || true) ≡ true
or-true true = refl
or-true false = refl

-- what a publish makes visible, and what stays visible, is present
among-publish : (visible present added gone : List (List ℕ)) → AreAmong visible present → AreAmong (with_names (without_names visible gone) added) (with_names present added)
among-publish visible present added gone all text h =
    has-with present added text ∙ by (or-split (has added text) (has (without_names visible gone) text) (sym (has-with (without_names visible gone) added text) ∙ h))
  where
    by : (has added text ≡ true) ⊎ (has (without_names visible gone) text ≡ true) → (has added text || has present text) ≡ true
    by (inl k) = ap (λ b. b || has present text) k
    by (inr k) =
        ap (λ b. has added text || b) (all text (first_so (has visible text) (not (has gone text)) (sym (has-without visible gone text) ∙ k)))
        ∙ or-true (has added text)

module _ (m : Machine) (added gone : List (List ℕ)) (sound : IsSound m) where
  published : (groups : AreWholeGroups (with_names (without_names m.visible gone) added)) → groups.end * m.size ≤ m.next → IsSound (after_publish m added gone)
  published groups complete = record {
    list = sound.list;
    apart = sound.apart;
    groups = groups;
    complete = complete;
    visible = among-publish m.visible m.present added gone sound.visible;
    rows = rows-with m.opened m.present added sound.rows;
    form = record {
      present = form-with m.present added sound.form.present;
      visible = form-with (without_names m.visible gone) added (form-without m.visible gone sound.form.visible);
      rows = sound.form.rows;
    };
  }

some-size : (m : Machine) → IsSound m → 0 < m.size
some-size m sound = omega (arith, sound.list.size_from_one)

within-steps : (m : Machine) (step : ℕ) → IsSound m → step + 1 ≤ m.next / m.size → step + 1 ≤ 4096
within-steps m step sound complete =
    let most : m.next / m.size ≤ 4096 = div-le_of_le-mul m.size (omega (arith, sound.list.next_within)) in
    omega (arith, most, complete)

collated : (m : Machine) (added : List (List ℕ)) → IsSound m → (c : IsCollation m.next m.size m.visible added []) → IsSound (after_publish m added [])
collated m added sound c =
    let w = whole-collated m.visible added sound.groups c.step (within-steps m c.step sound c.complete) (end-is m.visible sound.groups c.step c.at_end) c.are in
    published m added [] sound w.0 (subst (λ n. n * m.size ≤ m.next) (sym w.1) ((le-div_iff_mul-le (some-size m sound)).0 c.complete))

pub kept-collation : (m : Machine) (added replaced : List (List ℕ)) → IsSound m → IsCollation m.next m.size m.visible added replaced → IsSound (after_publish m added replaced)
kept-collation m added replaced sound c =
    subst (λ gone. IsSound (after_publish m added gone)) (sym c.nothing)
    (collated m added sound (record { step = c.step; at_end = c.at_end; complete = c.complete; are = c.are; nothing = refl }))

-- ---- a merge

pub group-among : (xs ys : List (List ℕ)) (e : Entity) (r : Range) → AreAmong xs ys → has_group xs e r ≡ true → has_group ys e r ≡ true
unfolding has_group
group-among xs ys e r among h =
    both (is_aligned r) (has ys (spelled (named e r Ef))) (first_so (is_aligned r) (has xs (spelled (named e r Ef))) h)
    (among (spelled (named e r Ef)) (second_so (is_aligned r) (has xs (spelled (named e r Ef))) h))

module _ (m : Machine) (added gone : List (List ℕ)) (sound : IsSound m) (e : Entity) (r : Range) (al : is_aligned r ≡ true) (seen : AreAmong gone m.visible)
    (are : SameNames added (entity_texts e (r ∷ []))) where
  merged-by : (ps : List Range) → IsChain gone e r.from ps → end_from r.from ps ≡ r.to → 2 ≤ length ps → SameNames gone (entity_texts e ps) → IsSound (after_publish m added gone)
  merged-by [] chain ends several out = absurd (few several)
    where
      few : 2 ≤ 0 → ⊥
      few h = omega (arith, h)
  merged-by (p ∷ ps) chain ends several out =
      let g = sound.groups in
      let all = all-in (p ∷ ps) (g.cuts e) (λ q there. group-inside m.visible g e q (group-among gone m.visible e q seen (chain.groups q there))) in
      let s = stands-in 0 (g.cuts e) p ps (g.cut e) (subst (λ n. IsCutFrom n (p ∷ ps)) (sym chain.cut.0) chain.cut) all in
      let whole : IsCut (s.front ++ ((p ∷ ps) ++ s.back)) = subst IsCut s.parts (g.cut e) in
      let start = sym (cut-back 0 s.front ((p ∷ ps) ++ s.back) whole).0 ∙ chain.cut.0 in
      let w = whole-merged m.visible added gone g e r s.front (p ∷ ps) s.back al s.parts chain.cut ends start are out in
      published m added gone sound w.0 (subst (λ n. n * m.size ≤ m.next) (sym w.1) sound.complete)

pub kept-merge : (m : Machine) (added replaced : List (List ℕ)) → IsSound m → IsMerge m.visible added replaced → IsSound (after_publish m added replaced)
unfolding parts_of
kept-merge m added replaced sound may =
    let r = may.range in
    merged-by m added replaced sound may.entity r may.aligned may.seen may.are (parts_of replaced may.entity r) (parts-chain replaced may.entity (r.to - r.from) r.from r.to) may.ends may.several may.gone

pub kept-publish : (m : Machine) (added replaced : List (List ℕ)) → IsSound m → IsPublish m.next m.size m.visible added replaced → IsSound (after_publish m added replaced)
kept-publish m added replaced sound (inl c) = kept-collation m added replaced sound c
kept-publish m added replaced sound (inr c) = kept-merge m added replaced sound c

-- ---- each entry, and lists of entries

pub kept : (m : Machine) (entry : Entry) → IsSound m → IsPossible m entry → IsSound (after m entry)
kept m (Ingest caller batch) sound may = kept-ingest m batch sound may
kept m (Open caller number names) sound may = kept-open m caller number names sound may
kept m (Close caller number) sound may = kept-close m caller number sound
kept m (Publish caller added replaced) sound may = kept-publish m added replaced sound may
kept m (Stray caller names) sound may = kept-stray m names sound
kept m (Sweep caller name) sound may = kept-sweep m name sound may
kept m (Settled caller names) sound may = sound
kept m (Work caller) sound may = sound

pub kept-all : (m : Machine) (entries : List Entry) → IsSound m → ArePossible m entries → IsSound (replay m entries)
kept-all m [] sound may = sound
kept-all m (entry ∷ entries) sound may = kept-all (after m entry) entries (kept m entry sound may.0) may.1

-- ---- lists of entries in parts

pub replay-append : (m : Machine) (xs ys : List Entry) → replay m (xs ++ ys) ≡ replay (replay m xs) ys
replay-append m [] ys = refl
replay-append m (x ∷ xs) ys = replay-append (after m x) xs ys

pub possible-append : (m : Machine) (xs ys : List Entry) → ArePossible m xs → ArePossible (replay m xs) ys → ArePossible m (xs ++ ys)
possible-append m [] ys first rest = rest
possible-append m (x ∷ xs) ys first rest = (first.0, possible-append (after m x) xs ys first.1 rest)

pub possible-front : (m : Machine) (xs ys : List Entry) → ArePossible m (xs ++ ys) → ArePossible m xs
possible-front m [] ys all = tt
possible-front m (x ∷ xs) ys all = (all.0, possible-front (after m x) xs ys all.1)
