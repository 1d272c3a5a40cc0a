-- Laws of the order of places.
use Rattle.std.specs.Prelude.{◌≡◌, ◌≢◌, ℕ, true, false, List, cond, nat_lt, ◌==◌, ◌&&◌, refl}
use Rattle.std.proofs.Common.{sym, ◌∙◌, ap, eqb-true}
use Rattle.std.specs.declared.cmp.Ordering.{Ordering}
use Rattle.std.specs.declared.cmp.Ordering.TheVariants.{Less, Equal, Greater}
use Rattle.std.specs.Ordering.{nat_cmp, ordering_then, ordering_reverse, is_lt, is_gt, is_eq}
use Rattle.std.specs.Cmp.{nat_cmp_total, tied_itself, upto, unsigned_tied, first_so, second_so}
use Rattle.std.specs.Cmp.Lexicographic.{slice_cmp, nat_list_cmp_total, texts_ties, bytes_decides}
use Rattle.std.specs.FinMap.{nat_cmp-IsAntisymmetric, slice_cmp-IsAntisymmetric}
use Rattle.agg_model.specs.Entity.{entity_number}
use Rattle.agg_model.specs.Place.{Place, place, place_of, place_cmp, place_cmp_total, is_before, is_same_place, is_of}
use Rattle.agg_model.specs.declared.entity.Entity.{Entity}
use Rattle.agg_model.specs.declared.change.Change.{Change}

-- ---- parts of an answer of the order

then-Equal-first : (r s : Ordering) → ordering_then r s ≡ Equal → r ≡ Equal
then-Equal-first Less s e = cc
then-Equal-first Equal s e = refl
then-Equal-first Greater s e = cc

then-Equal-second : (r s : Ordering) → ordering_then r s ≡ Equal → s ≡ Equal
then-Equal-second Less s e = cc
then-Equal-second Equal s e = e
then-Equal-second Greater s e = cc

is_eq-true : (r : Ordering) → is_eq r ≡ true → r ≡ Equal
is_eq-true Less e = cc
is_eq-true Equal e = refl
is_eq-true Greater e = cc

is_lt-true : (r : Ordering) → is_lt r ≡ true → r ≡ Less
is_lt-true Less e = refl
is_lt-true Equal e = cc
is_lt-true Greater e = cc

is_lt-reverse : (r : Ordering) → is_lt (ordering_reverse r) ≡ is_gt r
is_lt-reverse Less = refl
is_lt-reverse Equal = refl
is_lt-reverse Greater = refl

gt-not_lt : (r : Ordering) → is_lt r ≡ true → is_gt r ≡ false
gt-not_lt Less e = refl
gt-not_lt Equal e = refl
gt-not_lt Greater e = cc

gt-else : (r : Ordering) → is_lt r ≡ false → (r ≢ Equal) → is_gt r ≡ true
gt-else Less e n = cc
gt-else Equal e n = absurd (n refl)
gt-else Greater e n = refl

-- the last part of an order counts only where the first two find no difference
is_lt-apart : (r s t u : Ordering) → (is_eq r && is_eq s) ≡ false → is_lt (ordering_then r (ordering_then s t)) ≡ is_lt (ordering_then r (ordering_then s u))
is_lt-apart Less s t u h = refl
is_lt-apart Equal Less t u h = refl
is_lt-apart Equal Equal t u h = cc
is_lt-apart Equal Greater t u h = refl
is_lt-apart Greater s t u h = refl

is_lt-nat_cmp : (a b : ℕ) → is_lt (nat_cmp a b) ≡ nat_lt a b
is_lt-nat_cmp a b =
    elim (nat_lt a b) as (λ t. is_lt (cond t Less (cond (a == b) Equal Greater)) ≡ t) [
      | true ↦ refl
      | false ↦ elim (a == b) as (λ u. is_lt (cond u Equal Greater) ≡ false) [ true ↦ refl | false ↦ refl ]
    ]

-- ---- places

-- the order tells different places apart
pub place_cmp-Equal : (p q : Place) → place_cmp p q ≡ Equal → p ≡ q
unfolding place_cmp
place_cmp-Equal p q e =
    let rest = then-Equal-second (nat_cmp p.entity q.entity) _ e in
    let entities : p.entity ≡ q.entity = nat_cmp-IsAntisymmetric _ _ (then-Equal-first (nat_cmp p.entity q.entity) _ e) in
    let keys : p.key ≡ q.key =
    slice_cmp-IsAntisymmetric nat_cmp-IsAntisymmetric _ _ (then-Equal-first (slice_cmp nat_cmp p.key q.key) _ rest) in
    let numbers : p.number ≡ q.number =
    nat_cmp-IsAntisymmetric _ _ (then-Equal-second (slice_cmp nat_cmp p.key q.key) _ rest) in
    λ i. record { entity = entities i; key = keys i; number = numbers i }

pub is_same_place-true : (p q : Place) → is_same_place p q ≡ true → p ≡ q
unfolding is_same_place
is_same_place-true p q e = place_cmp-Equal p q (is_eq-true (place_cmp p q) e)

pub is_same_place-itself : (p : Place) → is_same_place p p ≡ true
unfolding is_same_place
is_same_place-itself p = ap is_eq (tied_itself place_cmp_total p)

is_eq-reverse : (r : Ordering) → is_eq (ordering_reverse r) ≡ is_eq r
is_eq-reverse Less = refl
is_eq-reverse Equal = refl
is_eq-reverse Greater = refl

pub is_same_place-back : (p q : Place) → is_same_place p q ≡ is_same_place q p
unfolding is_same_place
is_same_place-back p q = ap is_eq (place_cmp_total.antisymm p q) ∙ is_eq-reverse (place_cmp q p)

-- is_gt is the order the other way round
pub is_gt-place_cmp : (p q : Place) → is_gt (place_cmp p q) ≡ is_before q p
unfolding is_before
is_gt-place_cmp p q =
    sym (is_lt-reverse (place_cmp p q)) ∙ ap is_lt (sym (place_cmp_total.antisymm q p))

pub is_before-itself : (p : Place) → is_before p p ≡ false
unfolding is_before
is_before-itself p = ap is_lt (tied_itself place_cmp_total p)

pub is_before-back : (p q : Place) → is_before p q ≡ true → is_before q p ≡ false
unfolding is_before
is_before-back p q e = sym (is_gt-place_cmp p q) ∙ gt-not_lt (place_cmp p q) e

-- of two different places one is before the other
pub is_before-else : (p q : Place) → is_before p q ≡ false → p ≢ q → is_before q p ≡ true
unfolding is_before
is_before-else p q e n =
    sym (is_gt-place_cmp p q) ∙ gt-else (place_cmp p q) e (λ same. n (place_cmp-Equal p q same))

pub is_before-chain : (p q r : Place) → is_before p q ≡ true → is_before q r ≡ true → is_before p r ≡ true
unfolding is_before
is_before-chain p q r e f = ap is_lt (place_cmp_total.trans p q r (is_lt-true (place_cmp p q) e) (is_lt-true (place_cmp q r) f))

-- what is not before chains too
pub not_before-chain : (p q r : Place) → is_before q p ≡ false → is_before r q ≡ false → is_before r p ≡ false
not_before-chain p q r e f =
    sym (is_gt-place_cmp p r)
    ∙ upto place_cmp_total p q r (is_gt-place_cmp p q ∙ e) (is_gt-place_cmp q r ∙ f)

-- ---- the places of one entity and key

pub is_before-place : (e : Entity) (k : List ℕ) (a b : ℕ) → is_before (place e k a) (place e k b) ≡ nat_lt a b
unfolding is_before place place_cmp
is_before-place e k a b =
    rw (tied_itself nat_cmp_total (entity_number e), tied_itself nat_list_cmp_total k) (is_lt-nat_cmp a b)

pub place_of-is_of : (e : Entity) (k : List ℕ) (c : Change) → is_of e k c ≡ true → place_of c ≡ place e k c.tx
unfolding is_of place_of place
place_of-is_of e k c h =
    let entities : entity_number c.entity ≡ entity_number e = eqb-true _ _ (first_so _ _ h) in
    let keys : c.key ≡ k = (bytes_decides c.key k).0 (second_so (entity_number c.entity == entity_number e) _ h) in
    λ i. record { entity = entities i; key = keys i; number = c.tx }

-- a change of another entity or key is before all numbers of this one or before none
pub is_before-other : (e : Entity) (k : List ℕ) (c : Change) (n m : ℕ) → is_of e k c ≡ false → is_before (place_of c) (place e k n) ≡ is_before (place_of c) (place e k m)
unfolding is_of is_before place_of place place_cmp
is_before-other e k c n m h =
    let apart : (is_eq (nat_cmp (entity_number c.entity) (entity_number e)) && is_eq (slice_cmp nat_cmp c.key k)) ≡ false =
    (λ i. unsigned_tied (entity_number c.entity) (entity_number e) i && sym (texts_ties c.key k) i) ∙ h in
    is_lt-apart (nat_cmp (entity_number c.entity) (entity_number e)) (slice_cmp nat_cmp c.key k) (nat_cmp c.tx n) (nat_cmp c.tx m) apart
