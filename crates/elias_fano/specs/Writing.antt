-- A text of a list while it is written.
use Rattle.std.specs.Prelude.{◌≡◌, ℕ, ◌+◌, ◌*◌, ◌/◌, ◌^◌, ◌<◌, ◌≤◌, Bool, List, ◌++◌, length, drop}
use Rattle.std.specs.List.Sorted.{IsNonDecreasing}
use Rattle.std.specs.Int.{w64, to_be_bytes}
use Rattle.bit_store.specs.Bits.{bits_of, bytes_for}
use Rattle.bit_store.specs.Reserved.{Reserved}
use Rattle.elias_fano.specs.Spelling.{last_of, low_width, lower_bits, upper_bits, upper_len}
use Rattle.elias_fano.specs.Reading.{items_of}

-- how many items the list will have, its last one, and the items so far
pub record Writing : Type 0 where
  pub count : ℕ
  pub last : ℕ
  pub items : List ℕ

-- the header
abbrev pub head_of : ℕ → ℕ → List ℕ
head_of count last = to_be_bytes w64 count ++ to_be_bytes w64 last

-- the first n items, whose low parts stand behind a header
abbrev pub items_in : ℕ → ℕ → List Bool → List Bool → List ℕ
items_in n width lower upper = items_of (record { count = n; width = width; lower = drop 128 lower; upper = upper })

-- the room of a whole text
abbrev pub room_for : ℕ → ℕ → ℕ → ℕ
room_for width count last = 128 + 8 * bytes_for (count * width) + 8 * bytes_for (upper_len width count last)

-- the two parts have these items, out of so many up to the last, and room for the others
pub record IsWriting (count last width placed high : ℕ) (lower upper : Reserved) (items : List ℕ) : Type 0 where
  pub some : 0 < count
  pub few : count < 2 ^ 32
  pub small : last < 2 ^ 64
  pub width_is : width ≡ low_width count last
  pub narrow : width < 64
  pub placed_is : placed ≡ length items
  pub fits : placed ≤ count
  pub ascends : IsNonDecreasing items
  pub most : last_of items ≤ last
  pub high_is : high ≡ last_of items / 2 ^ width
  pub lower_is : lower.bits ≡ bits_of (head_of count last) ++ lower_bits width items
  pub upper_is : upper.bits ≡ upper_bits width items
  pub lower_room : lower.room ≡ room_for width count last
  pub upper_room : upper.room ≡ upper_len width count last
