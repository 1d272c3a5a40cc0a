-- The first number that isn't below another.
use Rattle.std.proofs.Common.{◌≡◌, ℕ, zero, suc, ◌<◌, ◌≤◌, cond, nat_le, List, [], ◌∷◌, length, get_or, Some, None, refl, ap, ◌∙◌, arith}
use Rattle.std.specs.Prelude.{find}
use Rattle.std.proofs.lemmas.Bool.{le-leb, lt-leb}

pub find-first : (n : ℕ) (xs : List ℕ) (i : ℕ) → i < length xs → n ≤ get_or xs i 0 → ((k : ℕ) → k < i → get_or xs k 0 < n) → find (nat_le n) xs ≡ Some (get_or xs i 0)
find-first n [] i within here before = absurd (omega arith)
find-first n (x ∷ xs) zero within here before = ap (λ t. cond t (Some x) (find (nat_le n) xs)) (le-leb n x here)
find-first n (x ∷ xs) (suc i) within here before =
    ap (λ t. cond t (Some x) (find (nat_le n) xs)) (lt-leb n x (before 0 (omega arith)))
    ∙ find-first n xs i (omega arith) here (λ k lt. before (suc k) (omega arith))

pub find-none : (n : ℕ) (xs : List ℕ) → ((k : ℕ) → k < length xs → get_or xs k 0 < n) → find (nat_le n) xs ≡ None
find-none n [] all = refl
find-none n (x ∷ xs) all =
    ap (λ t. cond t (Some x) (find (nat_le n) xs)) (lt-leb n x (all 0 (omega arith)))
    ∙ find-none n xs (λ k lt. all (suc k) (omega arith))
