-- The words of a line, and what a word may mean.
use Rattle.std.specs.Prelude.{ℕ, ◌^◌, ◌==◌, Bool, true, false, ◌&&◌, nat_lt, nat_le, if◌then◌else◌, List, [], ◌∷◌, length, codes, Option, Some, None}
use Rattle.std.specs.List.{slice_split}
use Rattle.std.specs.Option.{option_map}
use Rattle.std.specs.Result.{result_ok}
use Rattle.std.specs.Str.{bytes_eq, all_ascii_digits}
use Rattle.std.specs.Str.Parse.{digits_value}
use Rattle.std.specs.Borrow.{Bor}
use Rattle.hex.specs.Hex.{decode_of}
use Rattle.hex.specs.declared.error.FromHexError.{FromHexError}
use Rattle.hex.specs.declared.error.FromHexError.TheVariants.{InvalidHexCharacter, OddLength, InvalidStringLength, OutOfMemory}
use Rattle.line_words.specs.declared.request.LineError.{LineError}
use Rattle.line_words.specs.declared.request.LineError.TheVariants.{Syntax, Memory}
use Rattle.line_words.specs.declared.words.TheConstants.{PAGE_MOST}
use Rattle.agg_model.specs.declared.entity.Entity.{Entity}
use Rattle.agg_model.specs.declared.entity.Entity.TheVariants.{Accounts, Storage, Code, LogAddrs, LogTopics, TracesFrom, TracesTo}
use Rattle.agg_model.specs.Entity.{entity_name}
use Rattle.agg_model.specs.BatchRefusals.{is_outside}

-- the line cut at each space (32): a space that is doubled or stands at an end leaves an empty word
unfoldable pub words_of : List ℕ → List (List ℕ)
words_of line = slice_split (λ b. b == 32) line

-- the words of what is left of a line, where anything is
abbrev pub words_left : Option (Bor (List ℕ)) → List (List ℕ)
words_left None = []
words_left (Some text) = words_of text.now

-- 1 to 19 decimal digits
abbrev pub is_numeral : List ℕ → Bool
is_numeral word = nat_le 1 (length word) && nat_le (length word) 19 && all_ascii_digits word

-- a number is at most 2 ^ 63 - 1, and may have leading zeros
unfoldable pub number_of : List ℕ → Option ℕ
number_of word = if is_numeral word && nat_lt (digits_value 10 word) (2 ^ 63) then Some (digits_value 10 word) else None

-- `-` is no bytes; else two hex digits, in either case, are a byte, and there is one byte at least
unfoldable pub bytes_of_word : List ℕ → Option (List ℕ)
bytes_of_word word =
    if bytes_eq word (codes "-") then Some []
    else if length word == 0 then None
    else result_ok (decode_of word)

-- why a word isn't decoded
abbrev pub hex_error : FromHexError → LineError
hex_error (InvalidHexCharacter c i) = Syntax
hex_error OddLength = Syntax
hex_error InvalidStringLength = Syntax
hex_error OutOfMemory = Memory

-- the first of the entities that the word names
abbrev pub named_among : List Entity → List ℕ → Option Entity
named_among [] word = None
named_among (e ∷ es) word = if bytes_eq word (entity_name e) then Some e else named_among es word

-- an entity is named byte for byte
unfoldable pub entity_of_word : List ℕ → Option Entity
entity_of_word word =
    named_among (Accounts ∷ Storage ∷ Code ∷ LogAddrs ∷ LogTopics ∷ TracesFrom ∷ TracesTo ∷ []) word

-- `-` is an open end; else the word has its meaning
unfoldable pub open_or : {A : Type 0} → (List ℕ → Option A) → List ℕ → Option (Option A)
open_or meaning word = if bytes_eq word (codes "-") then Some None else option_map Some (meaning word)

-- an end that is a number, or open
abbrev pub number_end_of : List ℕ → Option (Option ℕ)
number_end_of word = open_or number_of word

-- an end that is a key, or open
abbrev pub key_end_of : List ℕ → Option (Option (List ℕ))
key_end_of word = open_or bytes_of_word word

-- how many rows or numbers a page has at most
abbrev pub within_page : Option ℕ → Option ℕ
within_page None = None
within_page (Some n) = if is_outside PAGE_MOST n then None else Some n

unfoldable pub limit_of_word : List ℕ → Option ℕ
limit_of_word word = within_page (number_of word)

-- whether numbers descend
unfoldable pub is_descending_of : List ℕ → Option Bool
is_descending_of word =
    if bytes_eq word (codes "asc") then Some false
    else if bytes_eq word (codes "desc") then Some true
    else None
