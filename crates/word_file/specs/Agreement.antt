-- A text that is followed through bytes, field by field.
use Rattle.std.specs.Prelude.{◌≡◌, ℕ, ◌≤◌, List, ◌++◌, length, take, Some}
use Rattle.word_file.specs.Difference.{first_difference}

-- after `at` the bytes go on with the text, which ends at `end`
pub record GoesOn (bytes text : List ℕ) (at end : ℕ) : Type 0 where
  pub within : end ≤ length bytes
  pub agrees : take end bytes ≡ take at bytes ++ text

-- they don't: whatever comes after the text, the first difference is at `place`
abbrev pub PartsAt : List ℕ → List ℕ → ℕ → ℕ → Type 0
PartsAt bytes text at place = (rest : List ℕ) → first_difference bytes (take at bytes ++ (text ++ rest)) ≡ Some place
