-- Added groups are new, and what they cover is what goes.
use Rattle.std.proofs.Common.{◌≡◌, ◌⊎◌, inl, inr, ℕ, suc, ◌+◌, ◌≤◌, ◌<◌, Bool, true, false, cond, not, ◌&&◌, ◌||◌, nat_lt, List, [], ◌∷◌, ◌++◌, length, get_or, filter, map, All, refl, sym, ◌∙◌, ap, subst, arith}
use Rattle.std.proofs.lemmas.Bool.{false≢true, ltb-false, le-ltb}
use Rattle.std.specs.List.{list_any}
use Rattle.agg_model.specs.declared.entity.Range.{Range}
use Rattle.merge_ranges.specs.Cut.{IsCut, IsCutFrom, end_from, end_of, same_range, contains_range, IsUnionIn}
use Rattle.merge_ranges.proofs.CutLaws.{end_from-above}
use Rattle.visible_files.specs.declared.ids.GroupId.{GroupId}
use Rattle.visible_files.specs.Ids.{place, places, Rises, placed, all_placed, in_order, replaced_by, is_covered, same_id, contains_id, ranges_of, AreCuts, IsSet, ExtendsOrMerges, added_ids, gone_ids}
use Rattle.visible_files.proofs.Equalities.{or-true, any-append, first_of}
use Rattle.visible_files.proofs.Orders.{rises_lower, rises-placed}
use Rattle.visible_files.proofs.Cuts.{alone, aligned-some, contained-aligned, contains-range, same_range-true, same_id-true, same_id-itself}
use Rattle.visible_files.proofs.Puts.{any-made, kept-is, filtered-order}

-- ---- a range that ends a cut, or is a union in it, isn't in it

below-by : (r g : Range) (rs : List Range) (t : Bool) → same_range r g ≡ t → r.to ≤ end_from r.to rs → (list_any (λ q. same_range q g) rs ≡ true → g.to ≤ end_from r.to rs)
    → (t || list_any (λ q. same_range q g) rs) ≡ true → g.to ≤ end_from r.to rs
below-by r g rs true e up rest any = subst (λ (q : Range). q.to ≤ end_from r.to rs) (same_range-true r g e) up
below-by r g rs false e up rest any = rest any

-- what a cut contains ends where the cut ends, or before
below : (a : ℕ) (cut : List Range) (g : Range) → IsCutFrom a cut → contains_range cut g ≡ true → g.to ≤ end_from a cut
below a [] g h any = absurd (false≢true any)
below a (r ∷ rs) g h any = below-by r g rs (same_range r g) refl (end_from-above r.to rs h.2) (below r.to rs g h.2) any

next-by : (cut : List Range) (g : Range) (t : Bool) → contains_range cut g ≡ t → IsCut cut → g.from ≡ end_of cut → t ≡ false
next-by cut g true e h from =
    let some : g.from < g.to = aligned-some g (contained-aligned 0 cut g h e) in
    let ends : g.to ≤ end_of cut = below 0 cut g h e in
    absurd (omega arith)
next-by cut g false e h from = refl

part-first : (front mid back : List Range) (m : Range) → contains_range (front ++ ((m ∷ mid) ++ back)) m ≡ true
part-first front mid back m =
    any-append (λ q. same_range q m) front ((m ∷ mid) ++ back)
    ∙ ap (λ b. contains_range front m || (b || contains_range (mid ++ back) m)) (one m) ∙ or-true (contains_range front m)
  where
    one : (r : Range) → same_range r r ≡ true
    one r = grind arith

union-by : (cut front mid back : List Range) (g : Range) → contains_range cut g ≡ true → IsCut cut → cut ≡ front ++ (mid ++ back) → IsCutFrom g.from mid → end_from g.from mid ≡ g.to → 2 ≤ length mid → ⊥
union-by cut front [] back g e h parts chain ends several = omega arith
union-by cut front (m ∷ []) back g e h parts chain ends several = omega arith
union-by cut front (m ∷ n ∷ ms) back g e h parts chain ends several =
    let starts : m.from ≡ g.from = chain.0 in
    let next : n.from ≡ m.to = chain.2.0 in
    let some : n.from < n.to = aligned-some n chain.2.1 in
    let up : n.to ≤ end_from n.to ms = end_from-above n.to ms chain.2.2 in
    let within : m.to < g.to = omega (arith, ends) in
    let there : contains_range cut m ≡ true = ap (λ l. contains_range l m) parts ∙ part-first front (n ∷ ms) back m in
    let same : g.to ≡ m.to = ap (λ (q : Range). q.to) (alone 0 cut g m h (omega arith) (omega arith) e there) in
    omega arith

fresh-range : (cut : List Range) (g : Range) (t : Bool) → contains_range cut g ≡ t → IsCut cut → (g.from ≡ end_of cut) ⊎ IsUnionIn cut g → t ≡ false
fresh-range cut g t e h (inl from) = next-by cut g t e h from
fresh-range cut g true e h (inr u) = absurd (union-by cut u.front u.mid u.back g e h u.parts u.chain u.ends u.several)
fresh-range cut g false e h (inr u) = refl

fresh-by : (ids : List GroupId) (end : ℕ) (id : GroupId) (t : Bool) → contains_id ids id ≡ t → AreCuts ids end → ExtendsOrMerges ids id → t ≡ false
fresh-by ids end id true e cuts h =
    absurd (false≢true (sym (fresh-range (ranges_of id.entity ids) id.range (contains_range (ranges_of id.entity ids) id.range) refl (cuts.cut id.entity) h) ∙ contains-range ids id e))
fresh-by ids end id false e cuts h = refl

-- an added group isn't one of the set
fresh : (ids : List GroupId) (end : ℕ) (id : GroupId) → AreCuts ids end → ExtendsOrMerges ids id → contains_id ids id ≡ false
fresh ids end id cuts h = fresh-by ids end id (contains_id ids id) refl cuts h

-- ---- tests over what is placed

place-first : (x : GroupId) (zs : List GroupId) (low : ℕ) → Rises low (places zs) → place x ≤ low → placed (λ (i : GroupId). i) x zs ≡ x ∷ zs
place-first x [] low up le = refl
place-first x (z ∷ zs) low up le =
    let a : low ≤ place z = up.0 in
    ap (λ t. cond t (z ∷ placed (λ (i : GroupId). i) x zs) (x ∷ z ∷ zs)) (le-ltb (place z) (place x) (omega arith))

module _ (p : GroupId → Bool) where
  filter-rises-by : (low : ℕ) (x : GroupId) (xs : List GroupId) (t : Bool) → low ≤ place x → Rises (place x) (places (filter p xs)) → Rises low (places (cond t (x ∷ filter p xs) (filter p xs)))
  filter-rises-by low x xs true le rest = (le, rest)
  filter-rises-by low x xs false le rest = rises_lower (place x) low (places (filter p xs)) rest le

  filter-rises : (low : ℕ) (xs : List GroupId) → Rises low (places xs) → Rises low (places (filter p xs))
  filter-rises low [] h = tt
  filter-rises low (x ∷ xs) h = filter-rises-by low x xs (p x) h.0 (filter-rises (place x) xs h.1)

  move : (x y : GroupId) (ys : List GroupId) (t u : Bool) → nat_lt (place y) (place x) ≡ t → t ≡ true → filter p (placed (λ (i : GroupId). i) x ys) ≡ placed (λ (i : GroupId). i) x (filter p ys)
      → cond u (y ∷ filter p (placed (λ (i : GroupId). i) x ys)) (filter p (placed (λ (i : GroupId). i) x ys)) ≡ placed (λ (i : GroupId). i) x (cond u (y ∷ filter p ys) (filter p ys))
  move x y ys t true e is h = ap (λ l. y ∷ l) h ∙ sym (ap (λ b. cond b (y ∷ placed (λ (i : GroupId). i) x (filter p ys)) (x ∷ y ∷ filter p ys)) (e ∙ is))
  move x y ys t false e is h = h

  filter-placed-by : (x y : GroupId) (ys : List GroupId) (t : Bool) → nat_lt (place y) (place x) ≡ t → p x ≡ true → Rises (place y) (places (y ∷ ys)) → filter p (placed (λ (i : GroupId). i) x ys) ≡ placed (λ (i : GroupId). i) x (filter p ys)
      → filter p (cond t (y ∷ placed (λ (i : GroupId). i) x ys) (x ∷ y ∷ ys)) ≡ placed (λ (i : GroupId). i) x (filter p (y ∷ ys))
  filter-placed-by x y ys true e pass up h = move x y ys true (p y) e refl h
  filter-placed-by x y ys false e pass up h =
      ap (λ b. cond b (x ∷ filter p (y ∷ ys)) (filter p (y ∷ ys))) pass
      ∙ sym (place-first x (filter p (y ∷ ys)) (place y) (filter-rises (place y) (y ∷ ys) up) (ltb-false (place y) (place x) e))

  filter-placed : (x : GroupId) (ys : List GroupId) (low : ℕ) → p x ≡ true → Rises low (places ys) → filter p (placed (λ (i : GroupId). i) x ys) ≡ placed (λ (i : GroupId). i) x (filter p ys)
  filter-placed x [] low pass up = ap (λ b. cond b (x ∷ []) []) pass
  filter-placed x (y ∷ ys) low pass up =
      filter-placed-by x y ys (nat_lt (place y) (place x)) refl pass (let le : place y ≤ place y = omega arith in (le, up.1)) (filter-placed x ys (place y) pass up.1)

  filter-all_placed : (xs ys : List GroupId) → All (λ x. p x ≡ true) xs → Rises 0 (places ys) → filter p (all_placed (λ (i : GroupId). i) xs ys) ≡ all_placed (λ (i : GroupId). i) xs (filter p ys)
  filter-all_placed [] ys pass up = refl
  filter-all_placed (x ∷ xs) ys pass up =
      filter-all_placed xs (placed (λ (i : GroupId). i) x ys) (λ k d lt. pass (suc k) d (omega arith)) (rises-placed (λ (i : GroupId). i) x 0 ys up (omega arith))
      ∙ ap (all_placed (λ (i : GroupId). i) xs) (filter-placed x ys 0 (pass 0 x (omega arith)) up)

module _ {G : Type 0} (id_of : G → GroupId) where
  placed-ids : (g : G) (ys : List G) → map id_of (placed id_of g ys) ≡ placed (λ (i : GroupId). i) (id_of g) (map id_of ys)
  placed-ids g [] = refl
  placed-ids g (y ∷ ys) = by (nat_lt (place (id_of y)) (place (id_of g))) (placed-ids g ys)
    where
      by : (t : Bool) → map id_of (placed id_of g ys) ≡ placed (λ (i : GroupId). i) (id_of g) (map id_of ys) → map id_of (cond t (y ∷ placed id_of g ys) (g ∷ y ∷ ys)) ≡ cond t (id_of y ∷ placed (λ (i : GroupId). i) (id_of g) (map id_of ys)) (id_of g ∷ id_of y ∷ map id_of ys)
      by true e = ap (λ l. id_of y ∷ l) e
      by false e = refl

  pub all_placed-ids : (xs ys : List G) → map id_of (all_placed id_of xs ys) ≡ all_placed (λ (i : GroupId). i) (map id_of xs) (map id_of ys)
  all_placed-ids [] ys = refl
  all_placed-ids (x ∷ xs) ys = all_placed-ids xs (placed id_of x ys) ∙ ap (all_placed (λ (i : GroupId). i) (map id_of xs)) (placed-ids x ys)

length-placed : (x : GroupId) (ys : List GroupId) → length (placed (λ (i : GroupId). i) x ys) ≡ suc (length ys)
length-placed x [] = refl
length-placed x (y ∷ ys) = by (nat_lt (place y) (place x)) (length-placed x ys)
  where
    by : (t : Bool) → length (placed (λ (i : GroupId). i) x ys) ≡ suc (length ys) → length (cond t (y ∷ placed (λ (i : GroupId). i) x ys) (x ∷ y ∷ ys)) ≡ suc (suc (length ys))
    by true e = ap suc e
    by false e = refl

length-all_placed : (xs ys : List GroupId) (n : ℕ) → n ≡ length ys → length (all_placed (λ (i : GroupId). i) xs ys) ≡ length xs + n
length-all_placed [] ys n e = plus n (length ys) (sym e)
  where
    plus : (n m : ℕ) → m ≡ n → m ≡ 0 + n
    plus n m e = omega arith
length-all_placed (x ∷ xs) ys n e =
    let rest = length-all_placed xs (placed (λ (i : GroupId). i) x ys) (suc n) (ap suc e ∙ sym (length-placed x ys)) in
    omega (arith, rest)

pub length-map : {X Y : Type 0} (f : X → Y) (xs : List X) → length (map f xs) ≡ length xs
length-map f [] = refl
length-map f (x ∷ xs) = ap suc (length-map f xs)

-- ---- filters by what a list contains

none-new : (ids zs : List GroupId) → ((id : GroupId) → contains_id zs id ≡ true → contains_id ids id ≡ true) → filter (λ id. not (contains_id ids id)) zs ≡ []
none-new ids [] h = refl
none-new ids (z ∷ zs) h =
    ap (λ b. cond (not b) (z ∷ filter (λ id. not (contains_id ids id)) zs) (filter (λ id. not (contains_id ids id)) zs)) (h z (ap (λ b. b || contains_id zs z) (same_id-itself z)))
    ∙ none-new ids zs (λ id is. h id (ap (λ b. same_id z id || b) is ∙ or-true (same_id z id)))

filter-within : (p q : GroupId → Bool) (zs : List GroupId) → ((id : GroupId) → contains_id zs id ≡ true → p id ≡ q id) → filter p zs ≡ filter q zs
filter-within p q [] h = refl
filter-within p q (z ∷ zs) h =
    head (filter-within p q zs (λ id is. h id (ap (λ b. same_id z id || b) is ∙ or-true (same_id z id)))) (h z (ap (λ b. b || contains_id zs z) (same_id-itself z)))
  where
    head : filter p zs ≡ filter q zs → p z ≡ q z → cond (p z) (z ∷ filter p zs) (filter p zs) ≡ cond (q z) (z ∷ filter q zs) (filter q zs)
    head rest here = λ i. cond (here i) (z ∷ rest i) (rest i)

-- ---- what a next set adds and lacks

module _ (ids : List GroupId) (end : ℕ) (cuts : AreCuts ids end) where
  all-fresh : (xs : List GroupId) → All (ExtendsOrMerges ids) xs → All (λ id. not (contains_id ids id) ≡ true) xs
  all-fresh xs h = λ k d lt. ap not (fresh ids end (get_or xs k d) cuts (h k d lt))

  none-by : (x : GroupId) (xs : List GroupId) (id : GroupId) (t : Bool) → same_id x id ≡ t → ExtendsOrMerges ids x → contains_id ids id ≡ true → contains_id xs id ≡ false → (t || contains_id xs id) ≡ false
  none-by x xs id true e h is rest = absurd (false≢true (sym (fresh ids end x cuts h) ∙ ap (contains_id ids) (same_id-true x id e) ∙ is))
  none-by x xs id false e h is rest = rest

  none-added : (xs : List GroupId) (id : GroupId) → All (ExtendsOrMerges ids) xs → contains_id ids id ≡ true → contains_id xs id ≡ false
  none-added [] id h is = refl
  none-added (x ∷ xs) id h is = none-by x xs id (same_id x id) refl (h 0 x (omega arith)) is (none-added xs id (λ k d lt. h (suc k) d (omega arith)) is)

module _ {G : Type 0} (id_of : G → GroupId) (S A : List G) (end : ℕ) (set : IsSet (map id_of S) end) (each : All (ExtendsOrMerges (map id_of S)) (map id_of A)) where
  kept : List G
  kept = filter (λ x. not (is_covered (map id_of A) (id_of x))) S

  kept-in : (id : GroupId) → contains_id (map id_of kept) id ≡ true → contains_id (map id_of S) id ≡ true
  unfolding kept
  kept-in id h =
      first_of (contains_id (map id_of S) id) (not (is_covered (map id_of A) id))
      (sym (kept-is id_of S A id) ∙ sym (any-ids id kept) ∙ h)
    where
      any-ids : (id : GroupId) (xs : List G) → contains_id (map id_of xs) id ≡ list_any (λ x. same_id (id_of x) id) xs
      any-ids id [] = refl
      any-ids id (x ∷ xs) = ap (λ b. same_id (id_of x) id || b) (any-ids id xs)

  pub added-are : added_ids (map id_of S) (map id_of (replaced_by id_of S A)) ≡ map id_of (in_order id_of A)
  unfolding kept
  added-are =
      ap (filter (λ id. not (contains_id (map id_of S) id))) (all_placed-ids id_of A kept)
      ∙ filter-all_placed (λ id. not (contains_id (map id_of S) id)) (map id_of A) (map id_of kept) (all-fresh (map id_of S) end set.cuts (map id_of A) each)
      (filtered-order id_of (λ x. not (is_covered (map id_of A) (id_of x))) S kept (map id_of S) refl set.order refl)
      ∙ ap (all_placed (λ (i : GroupId). i) (map id_of A)) (none-new (map id_of S) (map id_of kept) kept-in)
      ∙ sym (all_placed-ids id_of A [])

  pub added-count : length (added_ids (map id_of S) (map id_of (replaced_by id_of S A))) ≡ length A
  added-count =
      ap length (added-are ∙ all_placed-ids id_of A [])
      ∙ length-all_placed (map id_of A) [] 0 refl ∙ zero-more (length (map id_of A)) ∙ length-map id_of A
    where
      zero-more : (n : ℕ) → n + 0 ≡ n
      zero-more n = omega arith

  gone-by : (id : GroupId) (a b c : Bool) → a ≡ false → b ≡ true → not (a || (b && not c)) ≡ c
  gone-by id a b true ea eb = ap not ((λ i. ea i || (eb i && false)))
  gone-by id a b false ea eb = ap not ((λ i. ea i || (eb i && true)))

  pub gone-are : gone_ids (map id_of S) (map id_of (replaced_by id_of S A)) ≡ filter (is_covered (map id_of A)) (map id_of S)
  gone-are =
      filter-within (λ id. not (contains_id (map id_of (replaced_by id_of S A)) id)) (is_covered (map id_of A)) (map id_of S)
      (λ id is.
      ap not (any-made id_of S A (λ x. same_id x id) ∙ ap (λ b. contains_id (map id_of A) id || b) (kept-is id_of S A id))
      ∙ gone-by id (contains_id (map id_of A) id) (contains_id (map id_of S) id) (is_covered (map id_of A) id) (none-added (map id_of S) end set.cuts (map id_of A) id each is) is)

-- ---- as a call has them

module _ {G : Type 0} (id_of : G → GroupId) (S A : List G) (ids next : List GroupId) (end : ℕ) (same : ids ≡ map id_of S) (set : IsSet ids end) (each : All (ExtendsOrMerges ids) (map id_of A)) (made : next ≡ map id_of (replaced_by id_of S A)) where
  set' : IsSet (map id_of S) end
  set' = subst (λ (l : List GroupId). IsSet l end) same set

  each' : All (ExtendsOrMerges (map id_of S)) (map id_of A)
  each' = subst (λ (l : List GroupId). All (ExtendsOrMerges l) (map id_of A)) same each

  pub next-added : added_ids ids next ≡ map id_of (in_order id_of A)
  next-added = (λ i. added_ids (same i) (made i)) ∙ added-are id_of S A end set' each'

  pub next-count : length (added_ids ids next) ≡ length A
  next-count = (λ i. length (added_ids (same i) (made i))) ∙ added-count id_of S A end set' each'

  pub next-gone : gone_ids ids next ≡ filter (is_covered (map id_of A)) ids
  next-gone = (λ i. gone_ids (same i) (made i)) ∙ gone-are id_of S A end set' each' ∙ ap (filter (is_covered (map id_of A))) (sym same)

-- what there is room for, by the number of groups

pub ids-long : {A G : Type 0} (value : A → G) (id_of : G → GroupId) (slice : List A) (groups : List G) (ids : List GroupId) → map value slice ≡ groups → ids ≡ map id_of groups → length ids ≡ length slice
ids-long value id_of slice groups ids made same = ap length same ∙ length-map id_of groups ∙ ap length (sym made) ∙ length-map value slice

filter-fewer : {X : Type 0} (p : X → Bool) (xs : List X) → length (filter p xs) ≤ length xs
filter-fewer p [] = omega arith
filter-fewer p (x ∷ xs) = by (p x) (filter-fewer p xs)
  where
    by : (t : Bool) → length (filter p xs) ≤ length xs → length (cond t (x ∷ filter p xs) (filter p xs)) ≤ suc (length xs)
    by true le = omega arith
    by false le = omega arith

pub fewer : {X : Type 0} (p : X → Bool) (xs ys : List X) → ys ≡ filter p xs → length ys ≤ length xs
fewer p xs ys e = subst (λ l. length l ≤ length xs) (sym e) (filter-fewer p xs)

pub one-long : {X : Type 0} (xs : List X) (x : X) → xs ≡ x ∷ [] → length xs ≡ 1
one-long xs x e = ap length e
