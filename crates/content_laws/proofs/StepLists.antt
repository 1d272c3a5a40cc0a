-- The sorted changes of steps give the numbers of each key.
use Rattle.std.specs.Prelude.{◌≡◌, ℕ, ◌*◌, ◌≤◌, ◌==◌, ◌&&◌, nat_eq, nat_le, nat_lt, Bool, true, false, cond, List, [], ◌∷◌, ◌++◌, map, All, refl}
use Rattle.std.proofs.Common.{sym, ◌∙◌, ap, arith, append_assoc, append-nil, le-ltb}
use Rattle.std.specs.List.{filter}
use Rattle.std.specs.Cmp.Lexicographic.{pointwise}
use Rattle.std.proofs.lemmas.List.Elements.{All-cons, All-head, All-tail, All-nil, All-append, filter_passes}
use Rattle.agg_model.specs.declared.entity.Entity.{Entity}
use Rattle.agg_model.specs.declared.change.Change.{Change}
use Rattle.agg_model.specs.declared.contents.Times.{Times}
use Rattle.agg_model.specs.Entity.{entity_number}
use Rattle.agg_model.specs.Place.{place_of, is_before, is_of}
use Rattle.agg_model.specs.Batch.{AscendFrom}
use Rattle.agg_model.specs.Arranged.{put_in, arranged_from, arranged}
use Rattle.agg_model.specs.Contents.{is_within, is_of_within, changes_over, keys_of, times, ef_contents}
use Rattle.agg_model.proofs.GrownLaws.{AscendFrom-lower}
use Rattle.agg_model.proofs.PlaceOrder.{place_of-is_of, is_before-place}
use Rattle.agg_model.proofs.ContentsLaws.{filter-arranged}
use Rattle.content_laws.specs.Steps.{lists_among}

-- ---- changes of one key in the order of their numbers are sorted

put_in-last : (c : Change) (ds : List Change) → All (λ d. is_before (place_of c) (place_of d) ≡ false) ds → put_in c ds ≡ ds ++ c ∷ []
put_in-last c [] all = refl
put_in-last c (d ∷ ds) all =
    λ i. cond (All-head (λ d. is_before (place_of c) (place_of d) ≡ false) d ds all i) (c ∷ d ∷ ds) (d ∷ put_in-last c ds (All-tail (λ d. is_before (place_of c) (place_of d) ≡ false) d ds all) i)

module _ (e : Entity) (k : List ℕ) where
  record IsLower (n : ℕ) (d : Change) : Type 0 where
    same : is_of e k d ≡ true
    low : d.tx ≤ n

  not_before : (c d : Change) → is_of e k c ≡ true → IsLower c.tx d → is_before (place_of c) (place_of d) ≡ false
  not_before c d is h =
      (λ i. is_before (place_of-is_of e k c is i) (place_of-is_of e k d h.same i)) ∙ is_before-place e k c.tx d.tx ∙ le-ltb c.tx d.tx h.low

  raised : (n m : ℕ) (d : Change) → n ≤ m → IsLower n d → IsLower m d
  raised n m d h low = record { same = low.same; low = chain h low.low }
    where
      chain : {x y z : ℕ} → y ≤ z → x ≤ y → x ≤ z
      chain h g = omega arith

  sorted_from : (acc cs : List Change) (least : ℕ) → All (IsLower least) acc → All (λ c. is_of e k c ≡ true) cs → AscendFrom least cs → arranged_from acc cs ≡ acc ++ cs
  sorted_from acc [] least low same up = sym (append-nil acc)
  sorted_from acc (c ∷ cs) least low same up =
      let here = All-head (λ c. is_of e k c ≡ true) c cs same in
      let lower : All (IsLower c.tx) acc = λ i z below. raised least c.tx _ up.0 (low i z below) in
      ap (λ xs. arranged_from xs cs) (put_in-last c acc (λ i z below. not_before c _ here (lower i z below)))
      ∙ sorted_from (acc ++ c ∷ []) cs c.tx
      (All-append (IsLower c.tx) acc (c ∷ []) lower (All-cons (IsLower c.tx) c [] (record { same = here; low = itself c.tx }) (All-nil (IsLower c.tx))))
      (All-tail (λ c. is_of e k c ≡ true) c cs same) up.1
      ∙ append_assoc acc (c ∷ []) cs
    where
      itself : (n : ℕ) → n ≤ n
      itself n = omega arith

  pub sorted : (cs : List Change) → All (λ c. is_of e k c ≡ true) cs → AscendFrom 0 cs → arranged cs ≡ cs
  unfolding arranged
  sorted cs same up = sorted_from [] cs 0 (All-nil (IsLower 0)) same up

filter-up-by : (p : Change → Bool) (least : ℕ) (c : Change) (found : List Change) (t : Bool) → least ≤ c.tx → AscendFrom c.tx found → AscendFrom least (cond t (c ∷ found) found)
filter-up-by p least c found true low up = (low, up)
filter-up-by p least c found false low up = AscendFrom-lower least c.tx found low up

pub filter-up : (p : Change → Bool) (least : ℕ) (cs : List Change) → AscendFrom least cs → AscendFrom least (filter p cs)
filter-up p least [] up = tt
filter-up p least (c ∷ cs) up = filter-up-by p least c (filter p cs) (p c) up.0 (filter-up p c.tx cs up.1)

module _ (e : Entity) (k : List ℕ) (from to : ℕ) where
  twice-by : (c : Change) (found : List Change) (one key two : Bool) → pointwise nat_eq c.key k ≡ key
      → filter (λ c. pointwise nat_eq c.key k) (cond (one && two) (c ∷ found) found) ≡ cond ((one && key) && two) (c ∷ filter (λ c. pointwise nat_eq c.key k) found) (filter (λ c. pointwise nat_eq c.key k) found)
  twice-by c found true true true is = ap (λ t. cond t (c ∷ filter (λ c. pointwise nat_eq c.key k) found) (filter (λ c. pointwise nat_eq c.key k) found)) is
  twice-by c found true false true is = ap (λ t. cond t (c ∷ filter (λ c. pointwise nat_eq c.key k) found) (filter (λ c. pointwise nat_eq c.key k) found)) is
  twice-by c found true true false is = refl
  twice-by c found true false false is = refl
  twice-by c found false key two is = refl

  -- of the changes within, those of the key
  twice : (cs : List Change) → filter (λ c. pointwise nat_eq c.key k) (filter (is_within e from to) cs) ≡ filter (is_of_within e k from to) cs
  unfolding is_within is_of_within is_of
  twice [] = refl
  twice (c ∷ cs) =
      twice-by c (filter (is_within e from to) cs) (entity_number c.entity == entity_number e) (pointwise nat_eq c.key k) (nat_le from c.tx && nat_lt c.tx to) refl
      ∙ (λ i. cond (((entity_number c.entity == entity_number e) && pointwise nat_eq c.key k) && (nat_le from c.tx && nat_lt c.tx to)) (c ∷ twice cs i) (twice cs i))

  first-so : (t u : Bool) → (t && u) ≡ true → t ≡ true
  first-so true u h = refl
  first-so false u h = h

  is_of-within : (c : Change) → is_of_within e k from to c ≡ true → is_of e k c ≡ true
  unfolding is_of_within
  is_of-within c h = first-so (is_of e k c) (nat_le from c.tx && nat_lt c.tx to) h

  -- the numbers of a key in a window are those among the sorted changes there
  pub times-sorted : (cs : List Change) → AscendFrom 0 cs → times cs e k from to ≡ map (λ c. c.tx) (filter (λ c. pointwise nat_eq c.key k) (arranged (filter (is_within e from to) cs)))
  unfolding times
  times-sorted cs up =
      let mine = filter (is_of_within e k from to) cs in
      ap (map (λ (c : Change). c.tx))
      (sym (filter-arranged (λ c. pointwise nat_eq c.key k) (filter (is_within e from to) cs)
      ∙ ap arranged (twice cs)
      ∙ sorted e k mine (λ i z below. is_of-within _ (filter_passes (is_of_within e k from to) cs i z below)) (filter-up (is_of_within e k from to) 0 cs up)))

-- the sorted changes of steps alone give the lists
pub ef-among : (size : ℕ) (cs : List Change) (e : Entity) (a b : ℕ) → AscendFrom 0 cs → ef_contents size cs e a b ≡ lists_among (changes_over size cs e a b)
unfolding ef_contents changes_over
ef-among size cs e a b up =
    λ i. map (λ k. let list : Times = record { key = k; items = times-sorted e k (a * size) (b * size) cs up i } in list) (keys_of (arranged (filter (is_within e (a * size) (b * size)) cs)))
