-- Lists of numbers of eight bytes, one after the other.
use Rattle.std.specs.Prelude.{ℕ, zero, suc, ◌<◌, ◌^◌, List, [], ◌∷◌, drop}
use Rattle.std.specs.List.{flat_map, AllByRecursion}
use Rattle.std.specs.Int.{w64, to_be_bytes, from_be_bytes}

-- their bytes
unfoldable pub number_bytes : List ℕ → List ℕ
number_bytes numbers = flat_map (to_be_bytes w64) numbers

-- n numbers at the front of bytes
unfoldable pub numbers_at : ℕ → List ℕ → List ℕ
numbers_at zero bytes = []
numbers_at (suc n) bytes = from_be_bytes w64 bytes ∷ numbers_at n (drop 8 bytes)

-- each has eight bytes
abbrev pub AreNumbers : List ℕ → Type 0
AreNumbers numbers = AllByRecursion (λ n. n < 2 ^ 64) numbers
