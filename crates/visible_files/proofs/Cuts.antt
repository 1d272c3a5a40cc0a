-- Groups of which each entity's ranges are a cut.
use Rattle.std.proofs.Common.{◌≡◌, ℕ, zero, suc, ◌-◌, ◌%◌, ◌≤◌, ◌<◌, Bool, true, false, cond, ◌==◌, ◌&&◌, ◌||◌, nat_le, List, [], ◌∷◌, refl, sym, ◌∙◌, ap, subst, arith, eqb-true, eq-eqb}
use Rattle.std.proofs.lemmas.Bool.{false≢true, leb-true, le-leb, eqb-false}
use Rattle.std.specs.List.{list_any}
use Rattle.agg_model.specs.Entity.{entity_number}
use Rattle.agg_model.proofs.EntityLaws.{entity_number-injective}
use Rattle.agg_model.specs.declared.entity.Entity.{Entity}
use Rattle.agg_model.specs.declared.entity.Range.{Range}
use Rattle.merge_ranges.specs.Cut.{is_size, is_aligned, IsCutFrom, same_range, contains_range}
use Rattle.visible_files.specs.declared.ids.GroupId.{GroupId}
use Rattle.visible_files.specs.Ids.{same_entity, same_id, place, places, Ascends, Rises, contains_id, ranges_of, AreCuts, covers}
use Rattle.visible_files.proofs.Equalities.{first_of, second_of, both}

positive : (n : ℕ) → is_size n ≡ true → 0 < n
positive zero h = absurd (false≢true h)
positive (suc n) h = omega arith

pub aligned-some : (r : Range) → is_aligned r ≡ true → r.from < r.to
unfolding is_aligned
aligned-some r h =
    let two = is_size (r.to - r.from) && (r.from % (r.to - r.from) == 0) in
    let pos : 0 < r.to - r.from = positive (r.to - r.from) (first_of (is_size (r.to - r.from)) (r.from % (r.to - r.from) == 0) (first_of two (nat_le r.to 4096) h)) in
    omega arith

pub aligned-within : (r : Range) → is_aligned r ≡ true → r.to ≤ 4096
unfolding is_aligned
aligned-within r h =
    let two = is_size (r.to - r.from) && (r.from % (r.to - r.from) == 0) in
    leb-true r.to 4096 (second_of two (nat_le r.to 4096) h)

pub same_range-true : (r q : Range) → same_range r q ≡ true → r ≡ q
same_range-true r q e =
    let from : r.from ≡ q.from = eqb-true r.from q.from (first_of (r.from == q.from) (r.to == q.to) e) in
    let to : r.to ≡ q.to = eqb-true r.to q.to (second_of (r.from == q.from) (r.to == q.to) e) in
    λ i. record { from = from i; to = to i }

pub same_entity-true : (a b : Entity) → same_entity a b ≡ true → a ≡ b
same_entity-true a b h = entity_number-injective a b (eqb-true (entity_number a) (entity_number b) h)

pub same_entity-itself : (a : Entity) → same_entity a a ≡ true
same_entity-itself a = eq-eqb (entity_number a) (entity_number a) refl

pub same_id-true : (a b : GroupId) → same_id a b ≡ true → a ≡ b
unfolding same_id
same_id-true a b h =
    let two = same_entity a.entity b.entity && (a.range.from == b.range.from) in
    let e : a.entity ≡ b.entity = same_entity-true a.entity b.entity (first_of (same_entity a.entity b.entity) (a.range.from == b.range.from) (first_of two (a.range.to == b.range.to) h)) in
    let from : a.range.from ≡ b.range.from = eqb-true a.range.from b.range.from (second_of (same_entity a.entity b.entity) (a.range.from == b.range.from) (first_of two (a.range.to == b.range.to) h)) in
    let to : a.range.to ≡ b.range.to = eqb-true a.range.to b.range.to (second_of two (a.range.to == b.range.to) h) in
    λ i. record { entity = e i; range = record { from = from i; to = to i } }

pub same_id-itself : (a : GroupId) → same_id a a ≡ true
unfolding same_id
same_id-itself a = both (same_entity a.entity a.entity && (a.range.from == a.range.from)) (a.range.to == a.range.to) (both (same_entity a.entity a.entity) (a.range.from == a.range.from) (same_entity-itself a.entity) (eq-eqb a.range.from a.range.from refl)) (eq-eqb a.range.to a.range.to refl)

pub covers-parts : (a b : GroupId) → covers a b ≡ true → (a.entity ≡ b.entity) × (a.range.from ≤ b.range.from) × (b.range.to ≤ a.range.to)
unfolding covers
covers-parts a b h =
    let two = same_entity a.entity b.entity && nat_le a.range.from b.range.from in (
      same_entity-true a.entity b.entity (first_of (same_entity a.entity b.entity) (nat_le a.range.from b.range.from) (first_of two (nat_le b.range.to a.range.to) h)),
      leb-true a.range.from b.range.from (second_of (same_entity a.entity b.entity) (nat_le a.range.from b.range.from) (first_of two (nat_le b.range.to a.range.to) h)),
      leb-true b.range.to a.range.to (second_of two (nat_le b.range.to a.range.to) h),
    )

pub covers-from : (a b : GroupId) → a.entity ≡ b.entity → a.range.from ≤ b.range.from → b.range.to ≤ a.range.to → covers a b ≡ true
unfolding covers
covers-from a b e f t =
    both (same_entity a.entity b.entity && nat_le a.range.from b.range.from) (nat_le b.range.to a.range.to)
    (both (same_entity a.entity b.entity) (nat_le a.range.from b.range.from) (eq-eqb (entity_number a.entity) (entity_number b.entity) (ap entity_number e)) (le-leb a.range.from b.range.from f))
    (le-leb b.range.to a.range.to t)

le_chain : {a b c : ℕ} → a ≤ b → b ≤ c → a ≤ c
le_chain h g = omega arith

le_both : {a b : ℕ} → a ≤ b → b ≤ a → a ≡ b
le_both h g = omega arith

pub covers-chain : (a b c : GroupId) → covers a b ≡ true → covers b c ≡ true → covers a c ≡ true
covers-chain a b c ab bc =
    let p = covers-parts a b ab in
    let q = covers-parts b c bc in
    covers-from a c (p.0 ∙ q.0) (le_chain p.1 q.1) (le_chain q.2 p.2)

pub covers-both : (a b : GroupId) → covers a b ≡ true → covers b a ≡ true → a ≡ b
covers-both a b ab ba =
    let p = covers-parts a b ab in
    let q = covers-parts b a ba in
    let from : a.range.from ≡ b.range.from = le_both p.1 q.1 in
    let to : a.range.to ≡ b.range.to = le_both q.2 p.2 in
    λ i. record { entity = p.0 i; range = record { from = from i; to = to i } }

-- ---- what a cut contains

above-by : (a : ℕ) (r g : Range) (rs : List Range) (t : Bool) → same_range r g ≡ t → r.from ≡ a → a ≤ r.to → (list_any (λ q. same_range q g) rs ≡ true → r.to ≤ g.from) → (t || list_any (λ q. same_range q g) rs) ≡ true → a ≤ g.from
above-by a r g rs true e starts up rest any =
    let from : r.from ≡ g.from = ap (λ (q : Range). q.from) (same_range-true r g e) in
    omega arith
above-by a r g rs false e starts up rest any = le_chain up (rest any)

-- what a cut contains begins where the cut begins, or later
above : (a : ℕ) (cut : List Range) (g : Range) → IsCutFrom a cut → contains_range cut g ≡ true → a ≤ g.from
above a [] g h any = absurd (false≢true any)
above a (r ∷ rs) g h any =
    let some = aligned-some r h.1 in
    let starts : r.from ≡ a = h.0 in
    above-by a r g rs (same_range r g) refl starts (let s : r.from < r.to = some in omega arith) (above r.to rs g h.2) any

within-by : (r g : Range) (rs : List Range) (t : Bool) → same_range r g ≡ t → is_aligned r ≡ true → (list_any (λ q. same_range q g) rs ≡ true → is_aligned g ≡ true) → (t || list_any (λ q. same_range q g) rs) ≡ true → is_aligned g ≡ true
within-by r g rs true e here rest any = subst (λ q. is_aligned q ≡ true) (same_range-true r g e) here
within-by r g rs false e here rest any = rest any

pub contained-aligned : (a : ℕ) (cut : List Range) (g : Range) → IsCutFrom a cut → contains_range cut g ≡ true → is_aligned g ≡ true
contained-aligned a [] g h any = absurd (false≢true any)
contained-aligned a (r ∷ rs) g h any = within-by r g rs (same_range r g) refl h.1 (contained-aligned r.to rs g h.2) any

alone-by : (a : ℕ) (r v s : Range) (rs : List Range) (t u : Bool) → same_range r v ≡ t → same_range r s ≡ u → IsCutFrom a (r ∷ rs) → v.from ≤ s.from → s.to ≤ v.to
    → (list_any (λ q. same_range q v) rs ≡ true → list_any (λ q. same_range q s) rs ≡ true → v ≡ s)
    → (t || list_any (λ q. same_range q v) rs) ≡ true → (u || list_any (λ q. same_range q s) rs) ≡ true → v ≡ s
alone-by a r v s rs true true e f h from to rest hv hs = sym (same_range-true r v e) ∙ same_range-true r s f
alone-by a r v s rs true false e f h from to rest hv hs =
    let up : r.to ≤ s.from = above r.to rs s h.2 hs in
    let some : s.from < s.to = aligned-some s (contained-aligned r.to rs s h.2 hs) in
    let ends : r.to ≡ v.to = ap (λ (q : Range). q.to) (same_range-true r v e) in
    absurd (omega arith)
alone-by a r v s rs false true e f h from to rest hv hs =
    let up : r.to ≤ v.from = above r.to rs v h.2 hv in
    let some : r.from < r.to = aligned-some r h.1 in
    let starts : r.from ≡ s.from = ap (λ (q : Range). q.from) (same_range-true r s f) in
    absurd (omega arith)
alone-by a r v s rs false false e f h from to rest hv hs = rest hv hs

-- of the ranges of a cut none is inside another
pub alone : (a : ℕ) (cut : List Range) (v s : Range) → IsCutFrom a cut → v.from ≤ s.from → s.to ≤ v.to → contains_range cut v ≡ true → contains_range cut s ≡ true → v ≡ s
alone a [] v s h from to hv hs = absurd (false≢true hv)
alone a (r ∷ rs) v s h from to hv hs = alone-by a r v s rs (same_range r v) (same_range r s) refl refl h from to (alone r.to rs v s h.2 from to) hv hs

-- ---- the ranges of an entity

contains-range-by : (r v : Range) (rs : List Range) (s : Bool) (c : Bool) → ((c ≡ true) → contains_range rs v ≡ true) → ((s && (r.from == v.from) && (r.to == v.to)) || c) ≡ true → contains_range (cond s (r ∷ rs) rs) v ≡ true
contains-range-by r v rs true c rest h = by (same_range r v) h
  where
    by : (t : Bool) → (t || c) ≡ true → (t || contains_range rs v) ≡ true
    by true h = refl
    by false h = rest h
contains-range-by r v rs false c rest h = rest h

pub contains-range : (ids : List GroupId) (v : GroupId) → contains_id ids v ≡ true → contains_range (ranges_of v.entity ids) v.range ≡ true
unfolding same_id
contains-range [] v h = absurd (false≢true h)
contains-range (x ∷ xs) v h = contains-range-by x.range v.range (ranges_of v.entity xs) (same_entity x.entity v.entity) (contains_id xs v) (contains-range xs v) h

-- of groups whose ranges are cuts none covers another
pub covers-alone : (ids : List GroupId) (end : ℕ) (v s : GroupId) → AreCuts ids end → contains_id ids v ≡ true → contains_id ids s ≡ true → covers v s ≡ true → v ≡ s
covers-alone ids end v s cuts hv hs h =
    let parts = covers-parts v s h in
    let mine : contains_range (ranges_of v.entity ids) s.range ≡ true = subst (λ e. contains_range (ranges_of e ids) s.range ≡ true) (sym parts.0) (contains-range ids s hs) in
    let same : v.range ≡ s.range = alone 0 (ranges_of v.entity ids) v.range s.range (cuts.cut v.entity) parts.1 parts.2 (contains-range ids v hv) mine in
    λ i. record { entity = parts.0 i; range = same i }

-- ---- groups that are in order, and whose ranges are cuts, ascend

pub record IsHead (a : ℕ) (x : GroupId) : Type 0 where
  pub from : x.range.from ≡ a
  pub aligned : is_aligned x.range ≡ true

head : (f : Entity → ℕ) (x : GroupId) (xs : List GroupId) → ((e : Entity) → IsCutFrom (f e) (ranges_of e (x ∷ xs))) → IsHead (f x.entity) x
head f x xs h =
    let P : Bool → Type 0 = λ t. IsCutFrom (f x.entity) (cond t (x.range ∷ ranges_of x.entity xs) (ranges_of x.entity xs)) in
    let here = subst P (same_entity-itself x.entity) (h x.entity) in
    record { from = here.0; aligned = here.1 }

tail-by : (a : ℕ) (r : Range) (rs : List Range) (t : Bool) → IsCutFrom a (cond t (r ∷ rs) rs) → IsCutFrom (cond t r.to a) rs
tail-by a r rs true h = h.2
tail-by a r rs false h = h

abbrev next_from : (Entity → ℕ) → GroupId → Entity → ℕ
next_from f x e = cond (same_entity x.entity e) x.range.to (f e)

tail : (f : Entity → ℕ) (x : GroupId) (xs : List GroupId) → ((e : Entity) → IsCutFrom (f e) (ranges_of e (x ∷ xs))) → (e : Entity) → IsCutFrom (next_from f x e) (ranges_of e xs)
tail f x xs h e = tail-by (f e) x.range (ranges_of e xs) (same_entity x.entity e) (h e)

step-by : (x y : GroupId) (a : ℕ) (t : Bool) → same_entity x.entity y.entity ≡ t → is_aligned x.range ≡ true → IsHead (cond t x.range.to a) y → place x ≤ place y → suc (place x) ≤ place y
unfolding place
step-by x y a true e al hd le =
    let same : entity_number x.entity ≡ entity_number y.entity = eqb-true (entity_number x.entity) (entity_number y.entity) e in
    let from : y.range.from ≡ x.range.to = hd.from in
    let some : x.range.from < x.range.to = aligned-some x.range al in
    let within : x.range.to ≤ 4096 = aligned-within x.range al in
    omega arith
step-by x y a false e al hd le =
    let other : entity_number x.entity ≡ entity_number y.entity → ⊥ = eqb-false (entity_number x.entity) (entity_number y.entity) e in
    let xs : x.range.from < x.range.to = aligned-some x.range al in
    let xw : x.range.to ≤ 4096 = aligned-within x.range al in
    let ys : y.range.from < y.range.to = aligned-some y.range hd.aligned in
    let yw : y.range.to ≤ 4096 = aligned-within y.range hd.aligned in
    omega arith

strict : (f : Entity → ℕ) (x : GroupId) (xs : List GroupId) → is_aligned x.range ≡ true → ((e : Entity) → IsCutFrom (next_from f x e) (ranges_of e xs)) → Rises (place x) (places xs) → Rises (suc (place x)) (places xs)
strict f x [] al h up = tt
strict f x (y ∷ ys) al h up = (step-by x y (f y.entity) (same_entity x.entity y.entity) refl al (head (next_from f x) y ys h) up.0, up.1)

pub cuts-ascend : (f : Entity → ℕ) (low : ℕ) (ids : List GroupId) → ((e : Entity) → IsCutFrom (f e) (ranges_of e ids)) → Rises low (places ids) → Ascends low (places ids)
cuts-ascend f low [] h up = tt
cuts-ascend f low (x ∷ xs) h up =
    (up.0, cuts-ascend (next_from f x) (suc (place x)) xs (tail f x xs h) (strict f x xs ((head f x xs h).aligned) (tail f x xs h) up.1))
