-- Where two texts differ first.
use Rattle.std.specs.Prelude.{◌≡◌, ◌≢◌, ℕ, suc, ◌≤◌, ◌==◌, if◌then◌else◌, List, [], ◌∷◌, length, take, slice_get, Option, Some, None}
use Rattle.std.specs.Option.{option_map}

-- the length of what they begin with alike, unless they are equal
abbrev pub first_difference : List ℕ → List ℕ → Option ℕ
first_difference [] [] = None
first_difference [] (y ∷ ys) = Some 0
first_difference (x ∷ xs) [] = Some 0
first_difference (x ∷ xs) (y ∷ ys) = if x == y then option_map suc (first_difference xs ys) else Some 0

-- they are alike before i, and at i they differ or one of them ends
pub record IsDifference (xs ys : List ℕ) (i : ℕ) : Type 0 where
  pub alike : take i xs ≡ take i ys
  pub in_first : i ≤ length xs
  pub in_second : i ≤ length ys
  pub differs : slice_get xs i ≢ slice_get ys i
