-- What doors tell of their links.
use Rattle.std.specs.Prelude.{◌≡◌, ◌+◌, ◌⊎◌, ℕ, List, [], ◌∷◌, Option, Some, None}

-- a link that was closed
pub record Closed : Type 0 where
  -- the faults of its source, and of its sink
  pub source_faults : ℕ
  pub sink_faults : ℕ
  -- the bytes that were left, and those that were written, where the two tell them
  pub left : Option (List ℕ)
  pub written : Option (List ℕ)

-- the link given out has the first of the inputs that were left, and an empty output
abbrev pub IsFirst : List (List ℕ) → Option (List (List ℕ)) → Option (List ℕ) → Option (List ℕ) → Type 0
IsFirst [] left input output = ⊥
IsFirst (first ∷ rest) left input output = (left ≡ Some rest) × (input ≡ Some first) × (output ≡ Some [])

-- the number that was listened for was given out, or it is told that no link is left
abbrev pub IsExhausted : ℕ → ℕ → Option (List (List ℕ)) → Type 0
IsExhausted given links left = (given ≡ links) ⊎ (left ≡ Some [])

-- one more given out where a link was, else as many
abbrev pub given_after : {A : Type 0} → ℕ → Option A → ℕ
given_after given None = given
given_after given (Some link) = given + 1
