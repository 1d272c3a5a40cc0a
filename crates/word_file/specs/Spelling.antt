-- How a tag and a list of words are spelled, and where each word stands.
use Rattle.std.specs.Prelude.{◌≡◌, ℕ, ◌+◌, ◌<◌, ◌^◌, nat_lt, if◌then◌else◌, List, [], ◌∷◌, ◌++◌, length, take, Option, Some, None}
use Rattle.std.specs.List.{flat_map, AllByRecursion}
use Rattle.std.specs.Int.{w16, w32, w64, to_be_bytes}
use Rattle.word_file.specs.declared.tag.Tag.{Tag}

-- a word file as its readers see it
pub record TaggedWords : Type 0 where
  pub tag : Tag
  pub words : List (List ℕ)

-- the 40 bytes before the words: `AGW1`, the tag, and the number of words
unfoldable pub header : Tag → ℕ → List ℕ
header t count =
    to_be_bytes w32 0x4147_5731 ++ t.entity ∷ t.kind ∷ [] ++ to_be_bytes w16 t.version ++ to_be_bytes w64 t.step ++ to_be_bytes w64 t.from
    ++ to_be_bytes w64 t.to
    ++ to_be_bytes w64 count

-- a word: its length in four bytes, and its bytes
unfoldable pub word_bytes : List ℕ → List ℕ
word_bytes word = to_be_bytes w32 (length word) ++ word

-- the words one after another
unfoldable pub body : List (List ℕ) → List ℕ
body words = flat_map word_bytes words

-- the one spelling of a tag and a list of words
unfoldable pub spelling : TaggedWords → List ℕ
spelling f = header f.tag (length f.words) ++ body f.words

-- each word's length has four bytes
abbrev pub AreShort : List (List ℕ) → Type 0
AreShort words = AllByRecursion (λ word. length word < 2 ^ 32) words

-- each number of the tag has its bytes
pub record IsTag (t : Tag) : Type 0 where
  pub entity : t.entity < 2 ^ 8
  pub kind : t.kind < 2 ^ 8
  pub version : t.version < 2 ^ 16
  pub step : t.step < 2 ^ 64
  pub from : t.from < 2 ^ 64
  pub to : t.to < 2 ^ 64

-- what has a spelling that is read again
pub record Fits (f : TaggedWords) : Type 0 where
  pub tag : IsTag f.tag
  pub count : length f.words < 2 ^ 64
  pub words : AreShort f.words

-- the offset after the last word
unfoldable pub end_of : List (List ℕ) → ℕ
end_of words = 40 + length (body words)

-- the offset of the word at place i, which is where the words before it end
unfoldable pub offset_at : List (List ℕ) → ℕ → ℕ
offset_at words i = end_of (take i words)

-- the word at place i starts at this offset
pub record IsPlace (words : List (List ℕ)) (at i : ℕ) : Type 0 where
  pub within : i < length words
  pub offset : at ≡ offset_at words i

-- a word starts at this offset
abbrev pub StartsAt : List (List ℕ) → ℕ → Type 0
StartsAt words at = (i : ℕ) × IsPlace words at i

-- the offset of the word at place i, where there is one
abbrev pub offset_of : List (List ℕ) → ℕ → Option ℕ
offset_of words i = if nat_lt i (length words) then Some (offset_at words i) else None
