-- Laws of one file of a map, and of names that are apart.
use Rattle.std.proofs.Common.{◌≡◌, ◌≢◌, ℕ, Bool, true, false, cond, List, Some, None, refl, ap, ◌∙◌}
use Rattle.std.specs.declared.cmp.Ordering.{Ordering}
use Rattle.std.specs.declared.cmp.Ordering.TheVariants.{Less, Equal, Greater}
use Rattle.std.specs.Ordering.{nat_cmp, is_eq, eq_by_cmp}
use Rattle.std.specs.Cmp.{tied_itself}
use Rattle.std.specs.Cmp.Lexicographic.{slice_cmp, nat_list_cmp_total}
use Rattle.std.specs.FinMap.{get, insert, remove, get-insert, get-remove, IsAntisymmetric, nat_cmp-IsAntisymmetric, slice_cmp-IsAntisymmetric}
use Rattle.agg_outside.specs.Files.{Files}

pub one_name : IsAntisymmetric (slice_cmp nat_cmp)
one_name = slice_cmp-IsAntisymmetric nat_cmp-IsAntisymmetric

pub eq_is : (r : Ordering) → is_eq r ≡ true → r ≡ Equal
eq_is Less h = cc h
eq_is Equal h = refl
eq_is Greater h = cc h

pub itself : (name : List ℕ) → eq_by_cmp (slice_cmp nat_cmp) name name ≡ true
itself name = ap is_eq (tied_itself nat_list_cmp_total name)

apart-by : (a b : List ℕ) (t : Bool) → eq_by_cmp (slice_cmp nat_cmp) a b ≡ t → a ≢ b → t ≡ false
apart-by a b true e differ = absurd (differ (one_name a b (eq_is (slice_cmp nat_cmp a b) e)))
apart-by a b false e differ = refl

pub apart : (a b : List ℕ) → a ≢ b → eq_by_cmp (slice_cmp nat_cmp) a b ≡ false
apart a b differ = apart-by a b (eq_by_cmp (slice_cmp nat_cmp) a b) refl differ

-- two names are one, or apart
pub decided : {P : Type 0} (a b : List ℕ) → (a ≡ b → P) → (a ≢ b → P) → P
decided a b same other = by a b (eq_by_cmp (slice_cmp nat_cmp) a b) refl same other
  where
    by : {P : Type 0} (a b : List ℕ) (t : Bool) → eq_by_cmp (slice_cmp nat_cmp) a b ≡ t → (a ≡ b → P) → (a ≢ b → P) → P
    by a b true e same other = same (one_name a b (eq_is (slice_cmp nat_cmp a b) e))
    by a b false e same other = other (λ one. absurd (tied one))
      where
        tied : a ≡ b → ⊥
        tied one = cc (e, ap (λ (q : List ℕ). eq_by_cmp (slice_cmp nat_cmp) q b) one, itself b)

pub inserted : (f : Files) (name bytes : List ℕ) → get (insert f name bytes) name ≡ Some bytes
inserted f name bytes =
    get-insert nat_list_cmp_total f name bytes name ∙ ap (λ t. cond t (Some bytes) (get f name)) (itself name)

pub beside_insert : (f : Files) (name bytes other : List ℕ) → other ≢ name → get (insert f name bytes) other ≡ get f other
beside_insert f name bytes other differ =
    get-insert nat_list_cmp_total f name bytes other ∙ ap (λ t. cond t (Some bytes) (get f other)) (apart other name differ)

pub removed : (f : Files) (name : List ℕ) → get (remove f name) name ≡ None
removed f name = get-remove nat_list_cmp_total f name name ∙ ap (λ t. cond t None (get f name)) (itself name)

pub beside_remove : (f : Files) (name other : List ℕ) → other ≢ name → get (remove f name) other ≡ get f other
beside_remove f name other differ =
    get-remove nat_list_cmp_total f name other ∙ ap (λ t. cond t None (get f other)) (apart other name differ)
