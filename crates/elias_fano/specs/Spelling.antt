-- The Elias-Fano text of a list of numbers.
use Rattle.std.specs.Prelude.{◌≡◌, ℕ, zero, suc, ◌+◌, ◌-◌, ◌*◌, ◌/◌, ◌%◌, ◌^◌, ◌<◌, ◌==◌, nat_lt, nat_le, Bool, if◌then◌else◌, List, ◌++◌, length, map, slice_index}
use Rattle.std.specs.List.{list_any, enumerate_from, range_with_len}
use Rattle.std.specs.List.Sorted.{IsNonDecreasing}
use Rattle.std.specs.Int.{w64, to_be_bytes}
use Rattle.bit_store.specs.Bits.{text_of}

-- what has a text: numbers of 64 bits that do not descend, at least one, and a count of 64 bits
pub record IsListable (items : List ℕ) : Type 0 where
  pub some : 0 < length items
  pub few : length items < 2 ^ 64
  pub small : slice_index items (length items - 1) < 2 ^ 64
  pub ascends : IsNonDecreasing items

-- how often a number can be halved before 1 is left, at most so often
unfoldable pub halvings : ℕ → ℕ → ℕ
halvings zero n = 0
halvings (suc most) n = if nat_lt n 2 then 0 else (1 + halvings most (n / 2))

-- how many low bits of each item stand apart, for so many items up to the last
abbrev pub low_width : ℕ → ℕ → ℕ
low_width count last = if nat_le last count then 0 else halvings 64 (last / count)

abbrev pub last_of : List ℕ → ℕ
last_of items = slice_index items (length items - 1)

-- the field of item i stands at i * l: bit j is bit j % l of item j / l
abbrev pub lower_bit : ℕ → List ℕ → ℕ → Bool
lower_bit l items j = slice_index items (j / l) / 2 ^ (j % l) % 2 == 1

unfoldable pub lower_bits : ℕ → List ℕ → List Bool
lower_bits l items = map (lower_bit l items) (range_with_len 0 (length items * l))

-- bit (v >> l) + i is 1 for item i with value v, and no other
abbrev pub upper_bit : ℕ → List ℕ → ℕ → Bool
upper_bit l items j = list_any (λ item. (item.1 / 2 ^ l + item.0) == j) (enumerate_from 0 items)

abbrev pub upper_len : ℕ → ℕ → ℕ → ℕ
upper_len l count last = last / 2 ^ l + count

unfoldable pub upper_bits : ℕ → List ℕ → List Bool
upper_bits l items = map (upper_bit l items) (range_with_len 0 (upper_len l (length items) (last_of items)))

-- the upper part of the text of a list
abbrev pub upper_of : List ℕ → List Bool
upper_of items = upper_bits (low_width (length items) (last_of items)) items

-- the text with a given number of low bits
abbrev pub spelled : ℕ → List ℕ → List ℕ
spelled l items = to_be_bytes w64 (length items) ++ (to_be_bytes w64 (last_of items) ++ (text_of (lower_bits l items) ++ text_of (upper_bits l items)))

unfoldable pub spelling : List ℕ → List ℕ
spelling items = spelled (low_width (length items) (last_of items)) items

-- the text of some list
abbrev pub IsSpelled : List ℕ → Type 0
IsSpelled bytes = (items : List ℕ) × (IsListable items × (bytes ≡ spelling items))
