-- How far a text was written.
use Rattle.std.specs.Prelude.{◌≡◌, ◌≤◌, ℕ, List, ◌++◌, length, take, Option, Some}

-- the first `count` bytes of the text were written behind what stood there
pub record BeginsToPut (before text : List ℕ) (now : Option (List ℕ)) : Type 0 where
  pub count : ℕ
  pub within : count ≤ length text
  pub written : now ≡ Some (before ++ take count text)
