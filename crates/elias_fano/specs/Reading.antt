-- What a text of a list says, and what is wrong with it first.
use Rattle.std.specs.Prelude.{◌≡◌, ℕ, zero, suc, ◌+◌, ◌-◌, ◌*◌, ◌^◌, ◌<◌, ◌≤◌, ◌==◌, nat_lt, Bool, true, false, if◌then◌else◌, List, [], ◌∷◌, length, map, take, drop, Option, Some, None}
use Rattle.std.specs.List.{range_with_len, position_from}
use Rattle.std.specs.Option.{option_or, option_map}
use Rattle.std.specs.List.Sorted.{IsNonDecreasing}
use Rattle.std.specs.Int.{w64, from_be_bytes}
use Rattle.bit_store.specs.Bits.{number_of, bits_of, bytes_for, ones_of}
use Rattle.elias_fano.specs.Spelling.{low_width, last_of, upper_len}
use Rattle.elias_fano.specs.declared.parts.Parts.{Parts}
use Rattle.elias_fano.specs.declared.header.Header.{Header}
use Rattle.elias_fano.specs.declared.error.EfError.{EfError}
use Rattle.elias_fano.specs.declared.error.EfError.TheVariants.{Short, Zero, Extra, Unused, Count, Descends, Last}

-- the place of the k-th 1, from 0
unfoldable pub place_of_one : List Bool → ℕ → ℕ
place_of_one [] k = 0
place_of_one (false ∷ bits) k = suc (place_of_one bits k)
place_of_one (true ∷ bits) zero = 0
place_of_one (true ∷ bits) (suc k) = suc (place_of_one bits k)

-- item i: its upper part is the place of the i-th 1, minus i, and its lower part is field i
abbrev pub item_at : Parts → ℕ → ℕ
item_at p i = (place_of_one p.upper i - i) * 2 ^ p.width + number_of (take p.width (drop (i * p.width) p.lower))

unfoldable pub items_of : Parts → List ℕ
items_of p = map (item_at p) (range_with_len 0 p.count)

-- every item can be read and is a number of 64 bits
pub record IsSound (p : Parts) : Type 0 where
  pub lower : length p.lower ≡ p.count * p.width
  pub fits : p.count * p.width < 2 ^ 64
  pub narrow : p.width < 64
  pub room : length p.upper < 2 ^ 64
  pub ones : ones_of p.upper ≡ p.count
  pub small : (i : ℕ) → i < p.count → item_at p i < 2 ^ 64

-- and the items do not descend
pub record IsListed (p : Parts) : Type 0 where
  pub sound : IsSound p
  pub ascends : IsNonDecreasing (items_of p)

-- the items of the parts from a place on are left to be read, and their first 1 stands at bit or behind
pub record IsOnward (p : Parts) (place bit : ℕ) : Type 0 where
  pub sound : IsSound p
  pub within : place ≤ p.count
  pub inside : bit ≤ length p.upper
  pub before : ones_of (take bit p.upper) ≡ place

-- ---- the header, and where the parts lie

abbrev pub count_in : List ℕ → ℕ
count_in bytes = from_be_bytes w64 (take 8 bytes)

abbrev pub last_in : List ℕ → ℕ
last_in bytes = from_be_bytes w64 (take 8 (drop 8 bytes))

abbrev pub width_in : List ℕ → ℕ
width_in bytes = low_width (count_in bytes) (last_in bytes)

-- the number of bits of the two parts
abbrev pub lower_len_in : List ℕ → ℕ
lower_len_in bytes = count_in bytes * width_in bytes

abbrev pub upper_len_in : List ℕ → ℕ
upper_len_in bytes = upper_len (width_in bytes) (count_in bytes) (last_in bytes)

-- the byte where the upper part starts
abbrev pub upper_start_in : List ℕ → ℕ
upper_start_in bytes = 16 + bytes_for (lower_len_in bytes)

-- the number of bytes that the header asks
abbrev pub asked_in : List ℕ → ℕ
asked_in bytes = upper_start_in bytes + bytes_for (upper_len_in bytes)

abbrev pub parts_in : List ℕ → Parts
parts_in bytes = record {
  count = count_in bytes;
  width = width_in bytes;
  lower = take (lower_len_in bytes) (bits_of (drop 16 bytes));
  upper = take (upper_len_in bytes) (bits_of (drop (upper_start_in bytes) bytes));
}

-- ---- what is wrong

-- the first 1 from one place up to another
abbrev pub first_one : List Bool → ℕ → ℕ → Option ℕ
first_one bits from to = position_from (λ bit. bit) from (take (to - from) (drop from bits))

-- the first 1 outside the two parts, counted over the whole text
abbrev pub unused_one : List ℕ → Option ℕ
unused_one bytes =
    option_or (first_one (bits_of bytes) (128 + lower_len_in bytes) (8 * upper_start_in bytes))
    (first_one (bits_of bytes) (8 * upper_start_in bytes + upper_len_in bytes) (8 * asked_in bytes))

-- the first item, from place i on, that is below the one before
unfoldable pub first_descent : ℕ → ℕ → List ℕ → Option ℕ
first_descent before i [] = None
first_descent before i (item ∷ items) = if nat_lt item before then Some i else first_descent item (i + 1) items

-- what is wrong with the items and their ones
abbrev pub item_fault : ℕ → Parts → Option EfError
item_fault last p =
    if ones_of p.upper == p.count then
    option_or (option_map (λ i. Descends i) (first_descent 0 0 (items_of p))) (if last_of (items_of p) == last then None else Some (Last last (last_of (items_of p))))
    else Some (Count p.count (ones_of p.upper))

-- what is wrong first
unfoldable pub fault_in : List ℕ → Option EfError
fault_in bytes =
    if nat_lt (length bytes) 16 then Some (Short (length bytes))
    else if count_in bytes == 0 then Some Zero
    else if nat_lt (length bytes) (asked_in bytes) then Some (Short (length bytes))
    else if nat_lt (asked_in bytes) (length bytes) then Some (Extra (asked_in bytes))
    else option_or (option_map (λ bit. Unused bit) (unused_one bytes)) (item_fault (last_in bytes) (parts_in bytes))

-- what a header says of bytes that are as long as it asks
pub record IsHeader (bytes : List ℕ) (h : Header) : Type 0 where
  pub count : h.count ≡ count_in bytes
  pub last : h.last ≡ last_in bytes
  pub width : h.width ≡ width_in bytes
  pub lower_len : h.lower_len ≡ lower_len_in bytes
  pub upper_len : h.upper_len ≡ upper_len_in bytes
  pub start : h.start ≡ upper_start_in bytes
  pub some : 0 < count_in bytes
  pub narrow : width_in bytes < 64
  pub size : length bytes ≡ asked_in bytes

-- nothing is wrong
pub record IsFine (bytes : List ℕ) : Type 0 where
  pub some : 0 < count_in bytes
  pub narrow : width_in bytes < 64
  pub size : length bytes ≡ asked_in bytes
  pub unused : unused_one bytes ≡ None
  pub items : item_fault (last_in bytes) (parts_in bytes) ≡ None
