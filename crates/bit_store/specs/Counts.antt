-- A text as a number, for the steps of a writer.
use Rattle.std.specs.Prelude.{◌≡◌, ℕ, ◌/◌, ◌%◌, ◌^◌, ◌<◌, List, count_ones}
use Rattle.bit_store.specs.Bits.{number_of, bits_of}

-- the number whose binary digits are the bits of a text
abbrev pub number_in : List ℕ → ℕ
number_in bytes = number_of (bits_of bytes)

-- p is the place of the k-th 1 of a number of 64 bits, counted from 0
pub record IsPlaceIn (word k p : ℕ) : Type 0 where
  pub within : p < 64
  pub one : word / 2 ^ p % 2 ≡ 1
  pub before : count_ones (word % 2 ^ p) ≡ k
