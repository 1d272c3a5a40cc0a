-- The pairs of a step's sorted changes are the contents of its file.
use Rattle.std.specs.Prelude.{◌≡◌, ℕ, ◌*◌, ◌≤◌, ◌==◌, ◌&&◌, ◌||◌, nat_eq, nat_le, nat_lt, Bool, true, false, cond, List, [], ◌∷◌, map, All, Option, Some, None, IfSome, is_some, is_none, refl}
use Rattle.std.proofs.Common.{get_or, sym, ◌∙◌, ap, arith, subst, eq-eqb, le-ltb}
use Rattle.std.specs.declared.cmp.Ordering.{Ordering}
use Rattle.std.specs.declared.cmp.Ordering.TheVariants.{Less, Equal}
use Rattle.std.specs.Option.{option_or}
use Rattle.std.specs.List.{filter}
use Rattle.std.specs.Cmp.{tied_itself}
use Rattle.std.specs.Cmp.Lexicographic.{pointwise, nat_list_cmp_total, bytes_decides}
use Rattle.std.proofs.lemmas.List.Elements.{All-cons, All-head, All-tail, All-nil}
use Rattle.std.proofs.lemmas.List.Sorted.{All-permutation}
use Rattle.agg_model.specs.declared.entity.Entity.{Entity}
use Rattle.agg_model.specs.declared.change.Change.{Change}
use Rattle.agg_model.specs.declared.contents.Pair.{Pair}
use Rattle.agg_model.specs.Entity.{entity_number}
use Rattle.agg_model.specs.Place.{place_of, is_before, is_of}
use Rattle.agg_model.proofs.PlaceOrder.{place_of-is_of, is_before-place}
use Rattle.agg_model.specs.Batch.{AscendFrom}
use Rattle.agg_model.specs.ChangeList.{last_where, value_at, value_of}
use Rattle.agg_model.specs.Arranged.{put_in, arranged_from, arranged}
use Rattle.agg_model.proofs.ArrangedLaws.{IsInOrder, put_in-IsInOrder, put_in-IsPermutation, later, last_where-All, last_where-passes, last_where-put_in, last_where-put_in-other, option_or-none, option_or-assoc}
use Rattle.agg_model.proofs.GrownLaws.{AscendFrom-lower}
use Rattle.agg_model.specs.Contents.{is_within, is_of_within, changes_over, goes_on, keys_of, word_of, pair_at, kv_contents}
use Rattle.agg_model.proofs.ContentsLaws.{KeysRise, ends_below, changes_over-All, changes_over-KeysRise}
use Rattle.agg_model.proofs.CoverageLaws.{value_at-split}
use Rattle.agg_model.specs.Pairs.{IsBelow, hot_change, value_over}
use Rattle.agg_model.specs.LastChanges.{last_changes, pair_of, step_pairs}

le_chain : {a b c : ℕ} → a ≤ b → b ≤ c → a ≤ c
le_chain h g = omega arith

le_itself : (a : ℕ) → a ≤ a
le_itself a = omega arith

-- ---- sorting leaves the last change of a key

module _ (e : Entity) (k : List ℕ) where
  record IsEarlier (c d : Change) : Type 0 where
    low : d.tx ≤ c.tx
    same : is_of e k d ≡ true

  IsEarlier-both : (c : Change) (o : Option Change) → IfSome o (λ d. d.tx ≤ c.tx) → IfSome o (λ d. is_of e k d ≡ true) → IfSome o (IsEarlier c)
  IsEarlier-both c None low same = tt
  IsEarlier-both c (Some d) low same = record { low = low; same = same }

  not_before-earlier : (c d : Change) → is_of e k c ≡ true → IsEarlier c d → is_before (place_of c) (place_of d) ≡ false
  not_before-earlier c d is h =
      (λ i. is_before (place_of-is_of e k c is i) (place_of-is_of e k d h.same i)) ∙ is_before-place e k c.tx d.tx ∙ le-ltb c.tx d.tx h.low

  later-earlier : (c : Change) (o : Option Change) → is_of e k c ≡ true → IfSome o (IsEarlier c) → later c o ≡ Some c
  later-earlier c None is h = refl
  later-earlier c (Some d) is h = ap (λ t. cond t (Some d) (Some c)) (not_before-earlier c d is h)

  put_in-last-by : (c : Change) (ds : List Change) (t : Bool) → is_of e k c ≡ t → IsInOrder ds → All (λ d. d.tx ≤ c.tx) ds
      → last_where (is_of e k) (put_in c ds) ≡ option_or (cond t (Some c) None) (last_where (is_of e k) ds)
  put_in-last-by c ds true is order low =
      let p = is_of e k in
      last_where-put_in p c ds is order
      ∙ later-earlier c (last_where p ds) is
      (IsEarlier-both c (last_where p ds) (last_where-All p (λ d. d.tx ≤ c.tx) ds low) (last_where-passes p ds))
  put_in-last-by c ds false is order low = last_where-put_in-other (is_of e k) c ds is

  arranged_from-last : (acc cs : List Change) (least : ℕ) → IsInOrder acc → All (λ d. d.tx ≤ least) acc → AscendFrom least cs
      → last_where (is_of e k) (arranged_from acc cs) ≡ option_or (last_where (is_of e k) cs) (last_where (is_of e k) acc)
  arranged_from-last acc [] least order low up = refl
  arranged_from-last acc (c ∷ cs) least order low up =
      let p = is_of e k in
      let P = λ (d : Change). d.tx ≤ c.tx in
      let lower : All P acc = λ i z below. le_chain (low i z below) up.0 in
      arranged_from-last (put_in c acc) cs c.tx (put_in-IsInOrder c acc order)
      (All-permutation P (c ∷ acc) (put_in c acc) (put_in-IsPermutation c acc) (All-cons P c acc (le_itself c.tx) lower)) up.1
      ∙ ap (option_or (last_where p cs)) (put_in-last-by c acc (p c) refl order lower)
      ∙ sym (option_or-assoc (last_where p cs) (cond (p c) (Some c) None) (last_where p acc))

  pub arranged-last : (cs : List Change) → AscendFrom 0 cs → last_where (is_of e k) (arranged cs) ≡ last_where (is_of e k) cs
  unfolding arranged
  arranged-last cs up =
      arranged_from-last [] cs 0 tt (All-nil (λ (d : Change). d.tx ≤ 0)) up ∙ option_or-none (last_where (is_of e k) cs)

  within-last-by : (p : Change → Bool) (c : Change) (found : List Change) (last : Option Change) (one key two : Bool) → p c ≡ (one && key) → last_where p found ≡ last
      → last_where p (cond (one && two) (c ∷ found) found) ≡ option_or last (cond ((one && key) && two) (Some c) None)
  within-last-by p c found last true true true is rest = (λ i. option_or (rest i) (cond (is i) (Some c) None))
  within-last-by p c found last true false true is rest = (λ i. option_or (rest i) (cond (is i) (Some c) None))
  within-last-by p c found last true true false is rest = rest ∙ sym (option_or-none last)
  within-last-by p c found last true false false is rest = rest ∙ sym (option_or-none last)
  within-last-by p c found last false key two is rest = rest ∙ sym (option_or-none last)

  within-last : (from to : ℕ) (cs : List Change) → last_where (is_of e k) (filter (is_within e from to) cs) ≡ last_where (is_of_within e k from to) cs
  unfolding is_within is_of_within is_of
  within-last from to [] = refl
  within-last from to (c ∷ cs) =
      within-last-by (is_of e k) c (filter (is_within e from to) cs) (last_where (is_of_within e k from to) cs)
      (entity_number c.entity == entity_number e) (pointwise nat_eq c.key k) (nat_le from c.tx && nat_lt c.tx to) refl (within-last from to cs)

filter-AscendFrom-by : (p : Change → Bool) (least : ℕ) (c : Change) (found : List Change) (t : Bool) → least ≤ c.tx → AscendFrom c.tx found → AscendFrom least (cond t (c ∷ found) found)
filter-AscendFrom-by p least c found true low up = (low, up)
filter-AscendFrom-by p least c found false low up = AscendFrom-lower least c.tx found low up

filter-AscendFrom : (p : Change → Bool) (least : ℕ) (cs : List Change) → AscendFrom least cs → AscendFrom least (filter p cs)
filter-AscendFrom p least [] up = tt
filter-AscendFrom p least (c ∷ cs) up =
    filter-AscendFrom-by p least c (filter p cs) (p c) up.0 (filter-AscendFrom p c.tx cs up.1)

-- the last change of a key among the sorted changes of steps is its last change there
pub changes_over-last : (size : ℕ) (cs : List Change) (e : Entity) (a b : ℕ) (k : List ℕ) → AscendFrom 0 cs → last_where (is_of e k) (changes_over size cs e a b) ≡ hot_change cs e k (a * size) (b * size)
unfolding changes_over hot_change
changes_over-last size cs e a b k up =
    let p = is_within e (a * size) (b * size) in
    arranged-last e k (filter p cs) (filter-AscendFrom p 0 cs up) ∙ within-last e k (a * size) (b * size) cs

-- ---- the last changes are those

module _ (e : Entity) where
  is_of-itself : (c : Change) → entity_number c.entity ≡ entity_number e → is_of e c.key c ≡ true
  unfolding is_of
  is_of-itself c same =
      (λ i. eq-eqb (entity_number c.entity) (entity_number e) same i && (bytes_decides c.key c.key).1 refl i)

  not_of-by : (c d : Change) (t : Bool) → pointwise nat_eq d.key c.key ≡ t → IsBelow c.key d.key → ((entity_number d.entity == entity_number e) && t) ≡ false
  not_of-by c d true is below =
      absurd (no (tied_itself nat_list_cmp_total c.key) (subst (IsBelow c.key) ((bytes_decides d.key c.key).0 is) below))
    where
      no : {r : Ordering} → r ≡ Equal → r ≡ Less → ⊥
      no e f = cc
  not_of-by c d false is below = and_false (entity_number d.entity == entity_number e)
    where
      and_false : (t : Bool) → (t && false) ≡ false
      and_false true = refl
      and_false false = refl

  not_of : (c d : Change) → IsBelow c.key d.key → is_of e c.key d ≡ false
  unfolding is_of
  not_of c d below = not_of-by c d (pointwise nat_eq d.key c.key) refl below

  none_of : (p : Change → Bool) (cs : List Change) → All (λ d. p d ≡ false) cs → last_where p cs ≡ None
  none_of p [] none = refl
  none_of p (d ∷ ds) none =
      (λ i. option_or (none_of p ds (All-tail (λ d. p d ≡ false) d ds none) i) (cond (All-head (λ d. p d ≡ false) d ds none i) (Some d) None))

  abbrev IsLast : List Change → Change → Type 0
  IsLast rows c = last_where (is_of e c.key) rows ≡ Some c

  last_changes-last-by : (c : Change) (cs : List Change) (t : Bool) → goes_on c.key cs ≡ t → KeysRise (c ∷ cs) → entity_number c.entity ≡ entity_number e → All (IsLast cs) (last_changes cs)
      → All (IsLast (c ∷ cs)) (cond t (last_changes cs) (c ∷ last_changes cs))
  last_changes-last-by c cs true ends rise same rest =
      λ i z below. ap (λ o. option_or o (cond (is_of e (get_or (last_changes cs) i z).key c) (Some c) None)) (rest i z below)
  last_changes-last-by c cs false ends rise same rest =
      let p = is_of e c.key in
      All-cons (IsLast (c ∷ cs)) c (last_changes cs)
      (λ i. option_or (none_of p cs (λ j z below. not_of c (get_or cs j z) (ends_below c cs rise ends j z below)) i) (cond (is_of-itself c same i) (Some c) None))
      (λ i z below. ap (λ o. option_or o (cond (is_of e (get_or (last_changes cs) i z).key c) (Some c) None)) (rest i z below))

  last_changes-last : (cs : List Change) → KeysRise cs → All (λ c. entity_number c.entity ≡ entity_number e) cs → All (IsLast cs) (last_changes cs)
  last_changes-last [] rise same = All-nil (IsLast [])
  last_changes-last (c ∷ cs) rise same =
      let P = λ (c : Change). entity_number c.entity ≡ entity_number e in
      last_changes-last-by c cs (goes_on c.key cs) refl rise (All-head P c cs same)
      (last_changes-last cs rise.1 (All-tail P c cs same))

-- ---- the pairs of a step

module _ (cs : List Change) (e : Entity) (n : ℕ) where
  abbrev leaves_value : List ℕ → Bool
  leaves_value k = is_some (value_at cs e k n)

  abbrev kept : Bool → List (List ℕ) → List (List ℕ)
  kept first ks = cond first (filter leaves_value ks) ks

  -- what the change of a key leaves is the key's value at n
  abbrev Leaves : Change → Type 0
  Leaves c = value_at cs e c.key n ≡ value_of c

  kept_first-by : (k : List ℕ) (o : Option (List ℕ)) (ks : List (List ℕ)) (pairs : List Pair) → value_at cs e k n ≡ o → map (pair_at cs e n) (filter leaves_value ks) ≡ pairs
      → map (pair_at cs e n) (cond (is_some (value_at cs e k n)) (k ∷ filter leaves_value ks) (filter leaves_value ks)) ≡ cond (is_none o) pairs (record { key = k; value = word_of o } ∷ pairs)
  kept_first-by k None ks pairs is rest =
      ap (λ o. map (pair_at cs e n) (cond (is_some o) (k ∷ filter leaves_value ks) (filter leaves_value ks))) is ∙ rest
  kept_first-by k (Some w) ks pairs is rest =
      ap (λ o. map (pair_at cs e n) (cond (is_some o) (k ∷ filter leaves_value ks) (filter leaves_value ks))) is
      ∙ (λ i. record { key = k; value = word_of (is i) } ∷ rest i)

  step-by : (first : Bool) (c : Change) (ks : List (List ℕ)) (pairs : List Pair) → Leaves c → map (pair_at cs e n) (kept first ks) ≡ pairs
      → map (pair_at cs e n) (kept first (c.key ∷ ks)) ≡ cond (first && is_none (value_of c)) pairs (pair_of c ∷ pairs)
  step-by true c ks pairs is rest = kept_first-by c.key (value_of c) ks pairs is rest
  step-by false c ks pairs is rest = (λ i. record { key = c.key; value = word_of (is i) } ∷ rest i)

  pairs-by : (step : ℕ) (c : Change) (rows : List Change) (t : Bool) → goes_on c.key rows ≡ t → All Leaves (cond t (last_changes rows) (c ∷ last_changes rows)) → (All Leaves (last_changes rows) → map (pair_at cs e n) (kept (step == 0) (keys_of rows)) ≡ step_pairs step rows)
      → map (pair_at cs e n) (kept (step == 0) (cond t (keys_of rows) (c.key ∷ keys_of rows))) ≡ cond (t || ((step == 0) && is_none (value_of c))) (step_pairs step rows) (pair_of c ∷ step_pairs step rows)
  pairs-by step c rows true ends leave rest = rest leave
  pairs-by step c rows false ends leave rest =
      step-by (step == 0) c (keys_of rows) (step_pairs step rows) (All-head Leaves c (last_changes rows) leave)
      (rest (All-tail Leaves c (last_changes rows) leave))

  pairs : (step : ℕ) (rows : List Change) → All Leaves (last_changes rows) → map (pair_at cs e n) (kept (step == 0) (keys_of rows)) ≡ step_pairs step rows
  pairs step [] leave = empty (step == 0)
    where
      empty : (t : Bool) → map (pair_at cs e n) (kept t []) ≡ []
      empty true = refl
      empty false = refl
  pairs step (c ∷ rows) leave = pairs-by step c rows (goes_on c.key rows) refl leave (pairs step rows)

-- the sorted changes of steps alone give the contents of the `.kv` file
pub kv_contents-step_pairs : (size : ℕ) (cs : List Change) (e : Entity) (a b : ℕ) → a * size ≤ b * size → AscendFrom 0 cs → kv_contents size cs e a b ≡ step_pairs a (changes_over size cs e a b)
unfolding kv_contents
kv_contents-step_pairs size cs e a b order up =
    let rows = changes_over size cs e a b in
    let last = last_changes-last e rows (changes_over-KeysRise size cs e a b) (λ i z below. (changes_over-All size cs e a b i z below).entity) in
    pairs cs e (b * size) a rows
    (λ i z below.
    let c = get_or (last_changes rows) i z in
    value_at-split cs e c.key (a * size) (b * size) order up
    ∙ ap (value_over (value_at cs e c.key (a * size))) (sym (changes_over-last size cs e a b c.key up) ∙ last i z below))
