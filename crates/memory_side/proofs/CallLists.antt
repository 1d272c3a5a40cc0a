-- A number among numbers that ascend, found by halving.
use Rattle.std.proofs.Common.{◌≡◌, ℕ, zero, suc, ◌+◌, ◌<◌, ◌≤◌, ◌==◌, Bool, true, false, List, length, get_or, Result, Ok, Err, is_ok, nat_lt, cond, inl, inr, refl, sym, subst, arith}
use Rattle.std.proofs.lemmas.Bool.{cases_lt, ltb-false, eq-eqb}
use Rattle.std.proofs.lemmas.Bool.Decides.{eqb_tells}
use Rattle.std.proofs.Math.Nat.{eq-or-lt_of_le}
use Rattle.std.specs.declared.cmp.Ordering.TheVariants.{Less, Equal, Greater}
use Rattle.std.proofs.lemmas.List.Sorted.{searched}
use Rattle.std.proofs.lemmas.List.Folds.{list_any_at, list_any_none}
use Rattle.std.proofs.lemmas.List.Elements.{All-from_get_or}
use Rattle.std.specs.List.{list_any}
use Rattle.std.specs.List.Sorted.{IsSorted, IsBinarySearchResult}
use Rattle.std.specs.Ordering.{nat_cmp, is_lt}

step : (a b : ℕ) (t : Bool) → nat_lt a b ≡ t → is_lt (cond t Less (cond (a == b) Equal Greater)) ≡ false → b ≤ a
step a b true e h = cc h
step a b false e h = ltb-false a b e

-- no item is below one before it
rises : (xs : List ℕ) → IsSorted nat_cmp xs → (j i : ℕ) → i ≤ j → j < length xs → get_or xs i 0 ≤ get_or xs j 0
rises xs s zero i h w = let e : i ≡ 0 = omega arith in rw e (omega arith)
rises xs s (suc j) i h w = elim (eq-or-lt_of_le h) [
  | inl same ↦ rw same (omega arith)
  | inr below ↦
      let rest : get_or xs i 0 ≤ get_or xs j 0 = rises xs s j i (omega arith) (omega arith) in
      let more : j + 1 ≡ suc j = omega arith in
      let sorted : is_lt (nat_cmp (get_or xs (suc j) 0) (get_or xs j 0)) ≡ false =
      subst (λ (k : ℕ). is_lt (nat_cmp (get_or xs k 0) (get_or xs j 0)) ≡ false) more (s j 0 (omega arith) (omega arith)) in
      let last : get_or xs j 0 ≤ get_or xs (suc j) 0 = step (get_or xs (suc j) 0) (get_or xs j 0) (nat_lt (get_or xs (suc j) 0) (get_or xs j 0)) refl sorted in
      omega arith
]

eqb-apart : (a b : ℕ) → (a ≡ b → ⊥) → (a == b) ≡ false
eqb-apart a b n = elim (eqb_tells a b) [
  | inl same ↦ absurd (n same.1)
  | inr other ↦ other.0
]

apart : (xs : List ℕ) (x place : ℕ) → ((k : ℕ) → k < place → get_or xs k 0 < x) → ((k : ℕ) → place ≤ k → k < length xs → x < get_or xs k 0) → (k : ℕ) → k < length xs → (get_or xs k 0 == x) ≡ false
apart xs x place below above k w = elim (cases_lt k place) [
  | inl before ↦ let h = below k before in eqb-apart _ _ (λ e. omega (arith, e))
  | inr after ↦ let h = above k after w in eqb-apart _ _ (λ e. omega (arith, e))
]

pub found_is : (xs : List ℕ) (x : ℕ) (r : Result ℕ ℕ) → IsSorted nat_cmp xs → IsBinarySearchResult (λ y. nat_cmp y x) xs r → is_ok r ≡ list_any (λ other. other == x) xs
found_is xs x (Ok i) s found =
    let at = searched xs x (Ok i) found (λ i j h w. rises xs s j i h w) in
    sym (list_any_at (λ (other : ℕ). other == x) xs i 0 at.0 (eq-eqb _ _ at.1))
found_is xs x (Err i) s found =
    let at = searched xs x (Err i) found (λ i j h w. rises xs s j i h w) in
    sym (list_any_none (λ (other : ℕ). other == x) xs (All-from_get_or (λ (other : ℕ). (other == x) ≡ false) xs 0 (apart xs x i at.1 at.2)))
