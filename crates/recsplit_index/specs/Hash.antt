-- The hash of a key. Its sums and products are modulo 2 ^ 64.
use Rattle.std.specs.Prelude.{ℕ, zero, suc, ◌+◌, ◌*◌, ◌/◌, ◌%◌, ◌^◌, List, length, drop}
use Rattle.std.specs.Int.{div_ceil, w64, from_be_bytes}
use Rattle.std.specs.Int.Bits.{bit_xor}

abbrev pub golden : ℕ
golden = 0x9e37_79b9_7f4a_7c15

-- x xor (x >> s)
abbrev pub folded : ℕ → ℕ → ℕ
folded s x = bit_xor x (x / 2 ^ s)

unfoldable pub mix : ℕ → ℕ
mix x = folded 31 (folded 27 (folded 30 x * 0xbf58_476d_1ce4_e5b9 % 2 ^ 64) * 0x94d0_49bb_1331_11eb % 2 ^ 64)

-- the hash after one more piece, a number
unfoldable pub taken_in : ℕ → ℕ → ℕ
taken_in hash piece = mix ((bit_xor hash piece + golden) % 2 ^ 64)

-- the hash after pieces of eight bytes, each the number of its bytes; what the last lacks is 0
unfoldable pub hash_from : ℕ → ℕ → List ℕ → ℕ
hash_from zero hash bytes = hash
hash_from (suc pieces) hash bytes = hash_from pieces (taken_in hash (from_be_bytes w64 bytes)) (drop 8 bytes)

-- the hash of a key under a salt
unfoldable pub key_hash : ℕ → List ℕ → ℕ
key_hash salt key = hash_from (div_ceil (length key) 8) (mix ((salt * golden + length key) % 2 ^ 64)) key

-- the floor of hash * places / 2 ^ 64
unfoldable pub scaled : ℕ → ℕ → ℕ
scaled hash places = hash * places / 2 ^ 64

-- the position of a key of this hash in a node of this depth, under a seed, below `places`
unfoldable pub position : ℕ → ℕ → ℕ → ℕ → ℕ
position depth seed places hash = scaled (mix ((hash + golden * (2 ^ 20 * (depth + 1) + seed)) % 2 ^ 64)) places
