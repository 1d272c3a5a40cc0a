-- Rice codes.
use Rattle.std.specs.Prelude.{◌≡◌, ℕ, ◌/◌, ◌^◌, Bool, true, false, List, ◌∷◌, ◌++◌, length, take, drop, replicate}
use Rattle.bit_store.specs.Bits.{low_bits}

-- the code of a number: value >> r bits 0, one bit 1, and then the low r bits
abbrev pub rice_code : ℕ → ℕ → List Bool
rice_code r value = replicate (value / 2 ^ r) false ++ true ∷ low_bits r value

-- the bits have this code at a place
abbrev pub StandsAt : List Bool → ℕ → List Bool → Type 0
StandsAt bits at code = take (length code) (drop at bits) ≡ code

-- bits, and the place where the next code is read
pub record Reading : Type 0 where
  pub bits : List Bool
  pub at : ℕ
