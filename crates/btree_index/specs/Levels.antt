-- The levels over a list of offsets, and their spelling.
use Rattle.std.specs.Prelude.{◌≡◌, ℕ, zero, suc, ◌+◌, ◌-◌, ◌*◌, ◌^◌, nat_le, ◌==◌, if◌then◌else◌, List, [], ◌++◌, length, map, drop, slice_index}
use Rattle.std.specs.List.{range_with_len}
use Rattle.std.specs.Int.{div_ceil, w32, w64, to_be_bytes}
use Rattle.file_numbers.specs.Lists.{number_bytes, numbers_at, AreNumbers}

-- how many of the places 0, 16^j, 2 * 16^j and so on are below n
unfoldable pub entries : ℕ → ℕ → ℕ
entries n j = div_ceil n (16 ^ j)

-- the offsets at these places
unfoldable pub level : List ℕ → ℕ → List ℕ
level offsets j = map (λ k. slice_index offsets (k * 16 ^ j)) (range_with_len 0 (entries (length offsets) j))

-- the first level from j on with at most 16 entries, as level 15 is over fewer than 2^64 keys
unfoldable pub top_from : ℕ → ℕ → ℕ → ℕ
top_from zero j n = j
top_from (suc more) j n = if nat_le (entries n j) 16 then j else top_from more (j + 1) n

-- how many levels there are: up to the first with at most 16 entries, and none over no keys
unfoldable pub levels : ℕ → ℕ
levels n = if n == 0 then 0 else top_from 15 0 n + 1

-- the levels below j, the highest first
unfoldable pub levels_below : List ℕ → ℕ → List ℕ
levels_below offsets zero = []
levels_below offsets (suc j) = number_bytes (level offsets j) ++ levels_below offsets j

-- `AGB1`, the number of levels, and the number of keys
unfoldable pub header : ℕ → List ℕ
header n = to_be_bytes w32 0x4147_4231 ++ to_be_bytes w32 (levels n) ++ to_be_bytes w64 n

-- the header and the levels
unfoldable pub spelling : List ℕ → List ℕ
spelling offsets = header (length offsets) ++ levels_below offsets (levels (length offsets))

-- the lowest level, which lists all and stands last
unfoldable pub offsets_in : ℕ → List ℕ → List ℕ
offsets_in count bytes = numbers_at count (drop (length bytes - 8 * count) bytes)

-- the bytes are the spelling of what is seen in them
pub record IsHeld (count : ℕ) (bytes : List ℕ) : Type 0 where
  pub counted : count ≡ length (offsets_in count bytes)
  pub fits : AreNumbers (offsets_in count bytes)
  pub spelled : bytes ≡ spelling (offsets_in count bytes)
