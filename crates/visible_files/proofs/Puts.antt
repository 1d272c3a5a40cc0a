-- Groups put to their places, beside their ids.
use Rattle.std.proofs.Common.{◌≡◌, ℕ, zero, suc, ◌≤◌, ◌<◌, Bool, true, false, cond, not, ◌&&◌, ◌||◌, nat_lt, List, [], ◌∷◌, length, get_or, filter, map, refl, sym, ◌∙◌, ap, subst, arith}
use Rattle.std.specs.List.{insert, list_any}
use Rattle.visible_files.specs.declared.ids.GroupId.{GroupId}
use Rattle.visible_files.specs.Ids.{place, places, Rises, Ascends, IsLowerBound, placed, all_placed, replaced_by, is_covered, same_id, contains_id, covers, Replaces}
use Rattle.visible_files.proofs.Orders.{placed-insert, rises-placed, rises-filter, rises_from_ascends}
use Rattle.visible_files.proofs.Equalities.{or_swap, or_assoc, any-map, any-same, any-filter, any-but}
use Rattle.visible_files.proofs.Cuts.{same_id-true}
use Rattle.visible_files.proofs.Pins.{and-any}
use Rattle.std.proofs.lemmas.Bool.{false≢true}

get_or-map : {X Y : Type 0} (f : X → Y) (xs : List X) (i : ℕ) (d : X) → get_or (map f xs) i (f d) ≡ f (get_or xs i d)
get_or-map f [] i d = refl
get_or-map f (x ∷ xs) zero d = refl
get_or-map f (x ∷ xs) (suc i) d = get_or-map f xs i d

length-map' : {X Y : Type 0} (f : X → Y) (xs : List X) → length (map f xs) ≡ length xs
length-map' f [] = refl
length-map' f (x ∷ xs) = ap suc (length-map' f xs)

pub bound-map : {X Y : Type 0} (key : Y → ℕ) (f : X → Y) (xs : List X) (k n : ℕ) → IsLowerBound key (map f xs) k n → IsLowerBound (λ x. key (f x)) xs k n
bound-map key f xs k n b = record {
  within = (let w : n ≤ length (map f xs) = b.within in omega (arith, length-map' f xs));
  before = λ i d h. subst (λ y. key y < k) (get_or-map f xs i d) (b.before i (f d) h);
  rest = λ i d h w. subst (λ y. k ≤ key y) (get_or-map f xs i d) (b.rest i (f d) h (omega (arith, length-map' f xs)));
}

pub map-insert : {X Y : Type 0} (f : X → Y) (n : ℕ) (x : X) (xs : List X) → map f (insert xs n x) ≡ insert (map f xs) n (f x)
map-insert f zero x [] = refl
map-insert f zero x (y ∷ ys) = refl
map-insert f (suc n) x [] = refl
map-insert f (suc n) x (y ∷ ys) = ap (λ l. f y ∷ l) (map-insert f n x ys)

module _ {A G : Type 0} (value : A → G) (id_of : G → GroupId) where
  pub put-groups : (xs new : List A) (ids slice : List GroupId) (a : A) (id : GroupId) (at : ℕ) → ids ≡ map id_of (map value xs) → slice ≡ ids → id ≡ id_of (value a) → IsLowerBound place slice (place id) at
      → new ≡ insert xs at a → map value new ≡ placed id_of (value a) (map value xs)
  put-groups xs new ids slice a id at same seen is b made =
      let b' = subst (λ l. IsLowerBound place l (place id) at) (seen ∙ same) b in
      let b'' = subst (λ i. IsLowerBound place (map id_of (map value xs)) (place i) at) is b' in
      ap (map value) made ∙ map-insert value at a xs ∙ sym (placed-insert id_of (value a) (map value xs) at (bound-map place id_of (map value xs) (place (id_of (value a))) at b''))

  pub put-ids : (xs new : List A) (ids new_ids : List GroupId) (a : A) (id : GroupId) (at : ℕ) → ids ≡ map id_of (map value xs) → id ≡ id_of (value a)
      → new ≡ insert xs at a → new_ids ≡ insert ids at id → new_ids ≡ map id_of (map value new)
  put-ids xs new ids new_ids a id at same is made made_ids =
      made_ids ∙ (λ k. insert (same k) at (is k)) ∙ sym (map-insert id_of at (value a) (map value xs)) ∙ ap (map id_of) (sym (map-insert value at a xs)) ∙ ap (λ l. map id_of (map value l)) (sym made)

  placed-map : (g : G) (ys : List G) → map id_of (placed id_of g ys) ≡ placed (λ (i : GroupId). i) (id_of g) (map id_of ys)
  placed-map g [] = refl
  placed-map g (y ∷ ys) = by (nat_lt (place (id_of y)) (place (id_of g))) (placed-map g ys)
    where
      by : (t : Bool) → map id_of (placed id_of g ys) ≡ placed (λ (i : GroupId). i) (id_of g) (map id_of ys) → map id_of (cond t (y ∷ placed id_of g ys) (g ∷ y ∷ ys)) ≡ cond t (id_of y ∷ placed (λ (i : GroupId). i) (id_of g) (map id_of ys)) (id_of g ∷ id_of y ∷ map id_of ys)
      by true e = ap (λ l. id_of y ∷ l) e
      by false e = refl

pub put-order : (ids slice new : List GroupId) (id : GroupId) (at : ℕ) → slice ≡ ids → Rises 0 (places ids) → IsLowerBound place slice (place id) at → new ≡ insert ids at id → Rises 0 (places new)
put-order ids slice new id at seen up b made =
    let b' = subst (λ l. IsLowerBound place l (place id) at) seen b in
    let e = made ∙ sym (placed-insert (λ (i : GroupId). i) id ids at b') in
    subst (λ l. Rises 0 (places l)) (sym e) (rises-placed (λ (i : GroupId). i) id 0 ids up (omega arith))

-- ---- tests over what is placed

module _ {X : Type 0} (id_of : X → GroupId) (p : X → Bool) where
  any-placed-by : (x y : X) (ys : List X) (t : Bool) → list_any p (placed id_of x ys) ≡ (p x || list_any p ys) → list_any p (cond t (y ∷ placed id_of x ys) (x ∷ y ∷ ys)) ≡ (p x || (p y || list_any p ys))
  any-placed-by x y ys true h = ap (λ b. p y || b) h ∙ or_swap (p y) (p x) (list_any p ys)
  any-placed-by x y ys false h = refl

  pub any-placed : (x : X) (ys : List X) → list_any p (placed id_of x ys) ≡ (p x || list_any p ys)
  any-placed x [] = refl
  any-placed x (y ∷ ys) = any-placed-by x y ys (nat_lt (place (id_of y)) (place (id_of x))) (any-placed x ys)

  pub any-all_placed : (xs ys : List X) → list_any p (all_placed id_of xs ys) ≡ (list_any p xs || list_any p ys)
  any-all_placed [] ys = refl
  any-all_placed (x ∷ xs) ys =
      any-all_placed xs (placed id_of x ys) ∙ ap (λ b. list_any p xs || b) (any-placed x ys)
      ∙ or_swap (list_any p xs) (p x) (list_any p ys) ∙ sym (or_assoc (p x) (list_any p xs) (list_any p ys))

places-map : {X : Type 0} (id_of : X → GroupId) (xs : List X) → places (map id_of xs) ≡ map (λ x. place (id_of x)) xs
places-map id_of [] = refl
places-map id_of (x ∷ xs) = ap (λ l. place (id_of x) ∷ l) (places-map id_of xs)

-- what is left of groups in order is in order
pub filtered-order : {X : Type 0} (id_of : X → GroupId) (p : X → Bool) (xs ys : List X) (ids : List GroupId) → ids ≡ map id_of xs → Ascends 0 (places ids) → ys ≡ filter p xs → Rises 0 (places (map id_of ys))
filtered-order id_of p xs ys ids same up is =
    let from = subst (λ l. Rises 0 l) (ap places same ∙ places-map id_of xs) (rises_from_ascends 0 (places ids) up) in
    subst (λ l. Rises 0 (places (map id_of l))) (sym is) (subst (λ l. Rises 0 l) (sym (places-map id_of (filter p xs))) (rises-filter (λ x. place (id_of x)) p 0 xs from))

-- ---- what the added groups replace

module _ {G : Type 0} (id_of : G → GroupId) (S A : List G) where
  pub any-made : (p : GroupId → Bool) → list_any p (map id_of (replaced_by id_of S A)) ≡ (list_any p (map id_of A) || list_any (λ x. p (id_of x)) (filter (λ x. not (is_covered (map id_of A) (id_of x))) S))
  any-made p =
      any-map p id_of (replaced_by id_of S A)
      ∙ any-all_placed id_of (λ x. p (id_of x)) A (filter (λ x. not (is_covered (map id_of A) (id_of x))) S)
      ∙ ap (λ b. b || list_any (λ x. p (id_of x)) (filter (λ x. not (is_covered (map id_of A) (id_of x))) S)) (sym (any-map p id_of A))

  pub kept-is : (id : GroupId) → list_any (λ x. same_id (id_of x) id) (filter (λ x. not (is_covered (map id_of A) (id_of x))) S) ≡ (contains_id (map id_of S) id && not (is_covered (map id_of A) id))
  kept-is id =
      any-filter (λ x. same_id (id_of x) id) (λ x. not (is_covered (map id_of A) (id_of x))) S
      ∙ any-same (λ x. not (is_covered (map id_of A) (id_of x)) && same_id (id_of x) id) (λ x. same_id (id_of x) id && not (is_covered (map id_of A) id)) (λ x. by x (same_id (id_of x) id) refl) S
      ∙ and-any (λ x. same_id (id_of x) id) (not (is_covered (map id_of A) id)) S
      ∙ ap (λ b. b && not (is_covered (map id_of A) id)) (sym (any-map (λ x. same_id x id) id_of S))
    where
      none : (b : Bool) → (b && false) ≡ false
      none true = refl
      none false = refl

      all : (b : Bool) → (b && true) ≡ b
      all true = refl
      all false = refl

      by : (x : G) (t : Bool) → same_id (id_of x) id ≡ t → (not (is_covered (map id_of A) (id_of x)) && t) ≡ (t && not (is_covered (map id_of A) id))
      by x true e = all (not (is_covered (map id_of A) (id_of x))) ∙ ap (λ i. not (is_covered (map id_of A) i)) (same_id-true (id_of x) id e)
      by x false e = none (not (is_covered (map id_of A) (id_of x)))

  inside-by : (id : GroupId) (c k r : Bool) → contains_id (map id_of A) id ≡ c → is_covered (map id_of A) id ≡ k → (c || (true && not k)) ≡ false → (list_any (λ a. covers a id && not (same_id a id)) (map id_of A) || r) ≡ true
  inside-by id true k r ec ek h = absurd (false≢true (sym h))
  inside-by id false true r ec ek h = ap (λ b. b || r) (any-but (λ a. covers a id) (λ a. same_id a id) (map id_of A) ek ec)
  inside-by id false false r ec ek h = absurd (false≢true (sym h))

  pub replaces-made : Replaces (map id_of S) (map id_of (replaced_by id_of S A))
  replaces-made id here gone =
      let e : (contains_id (map id_of A) id || (true && not (is_covered (map id_of A) id))) ≡ false =
      ap (λ b. contains_id (map id_of A) id || (b && not (is_covered (map id_of A) id))) (sym here)
      ∙ ap (λ b. contains_id (map id_of A) id || b) (sym (kept-is id)) ∙ sym (any-made (λ x. same_id x id)) ∙ gone in
      any-made (λ a. covers a id && not (same_id a id)) ∙ inside-by id (contains_id (map id_of A) id) (is_covered (map id_of A) id) _ refl refl e
