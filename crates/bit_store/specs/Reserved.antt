-- Bits that grow within room.
use Rattle.std.specs.Prelude.{ℕ, Bool, List}

-- bits, and how many there can be without more memory
pub record Reserved : Type 0 where
  pub bits : List Bool
  pub room : ℕ
