-- Lists of bits, least significant first, and the texts that hold them.
use Rattle.std.specs.Prelude.{◌≡◌, ℕ, zero, suc, ◌+◌, ◌*◌, ◌/◌, ◌%◌, ◌^◌, ◌<◌, ◌==◌, Bool, true, false, List, [], ◌∷◌, ◌++◌, length, take, drop, get_or}

-- a bit as a digit
abbrev pub digit : Bool → ℕ
digit true = 1
digit false = 0

-- the number with these binary digits, the least first
unfoldable pub number_of : List Bool → ℕ
number_of [] = 0
number_of (bit ∷ bits) = digit bit + 2 * number_of bits

-- the lowest digits of a number, the least first
unfoldable pub low_bits : ℕ → ℕ → List Bool
low_bits zero value = []
low_bits (suc width) value = (value % 2 == 1) ∷ low_bits width (value / 2)

-- the bits of a text: bit i stands in byte i / 8 with weight 2 ^ (i % 8)
unfoldable pub bits_of : List ℕ → List Bool
bits_of [] = []
bits_of (byte ∷ bytes) = low_bits 8 byte ++ bits_of bytes

-- so many bytes, each of the next eight bits, the missing ones 0
unfoldable pub bytes_from : ℕ → List Bool → List ℕ
bytes_from zero bits = []
bytes_from (suc count) bits = number_of (take 8 bits) ∷ bytes_from count (drop 8 bits)

-- how many bytes so many bits take
abbrev pub bytes_for : ℕ → ℕ
bytes_for bits = (bits + 7) / 8

-- the text of a list of bits; unused bits of its last byte are 0
abbrev pub text_of : List Bool → List ℕ
text_of bits = bytes_from (bytes_for (length bits)) bits

-- how many of the bits are 1
unfoldable pub ones_of : List Bool → ℕ
ones_of [] = 0
ones_of (bit ∷ bits) = digit bit + ones_of bits

-- bit i is a 1
abbrev pub IsOneAt : List Bool → ℕ → Type 0
IsOneAt bits i = (i < length bits) × (get_or bits i false ≡ true)

-- bit i is a 0
abbrev pub IsZeroAt : List Bool → ℕ → Type 0
IsZeroAt bits i = (i < length bits) × (get_or bits i false ≡ false)

-- the bytes hold so many bits: no byte more, and what follows the bits is 0
pub record IsHeld (len : ℕ) (bytes : List ℕ) : Type 0 where
  pub count : length bytes ≡ bytes_for len
  pub rest : number_of (bits_of bytes) < 2 ^ len
