-- What the bytes of a file say, and why they may be no word file.
use Rattle.std.specs.Prelude.{◌≡◌, ◌++◌, ℕ, zero, suc, ◌+◌, Bool, nat_lt, nat_le, ◌==◌, if◌then◌else◌, List, [], ◌∷◌, length, take, drop, slice_index, Result, Ok, Err}
use Rattle.std.specs.Int.{w16, w32, w64, from_be_bytes}
use Rattle.word_file.specs.declared.tag.Tag.{Tag}
use Rattle.word_file.specs.declared.error.WordError.{WordError}
use Rattle.word_file.specs.declared.error.WordError.TheVariants.{Short, Magic, Count}
use Rattle.word_file.specs.Spelling.{TaggedWords, Fits, IsTag, AreShort, header, body, spelling, end_of}

-- the tag and the number of words in a header
unfoldable pub tag_in : List ℕ → Tag
tag_in bytes = record {
  entity = slice_index bytes 4;
  kind = slice_index bytes 5;
  version = from_be_bytes w16 (drop 6 bytes);
  step = from_be_bytes w64 (drop 8 bytes);
  from = from_be_bytes w64 (drop 16 bytes);
  to = from_be_bytes w64 (drop 24 bytes);
}

abbrev pub count_in : List ℕ → ℕ
count_in bytes = from_be_bytes w64 (drop 32 bytes)

-- what the first four bytes say of a word's length, and whether a whole word stands at the front
abbrev pub said_length : List ℕ → ℕ
said_length bytes = from_be_bytes w32 bytes

abbrev pub has_word : List ℕ → Bool
has_word bytes = nat_le (4 + said_length bytes) (length bytes)

-- the whole words at the front, and what is left after them
pub record Cut : Type 0 where
  pub words : List (List ℕ)
  pub rest : List ℕ

abbrev pub with_word : List ℕ → Cut → Cut
with_word word c = record { words = word ∷ c.words; rest = c.rest }

-- at most n words
unfoldable pub cut : ℕ → List ℕ → Cut
cut zero bytes = record { words = []; rest = bytes }
cut (suc n) bytes =
    if has_word bytes then with_word (take (said_length bytes) (drop 4 bytes)) (cut n (drop (4 + said_length bytes) bytes))
    else record { words = []; rest = bytes }

-- all of them, since each has four bytes at least
unfoldable pub whole_words : List ℕ → Cut
whole_words bytes = cut (length bytes) bytes

-- the words after a header
unfoldable pub words_in : List ℕ → List (List ℕ)
words_in bytes = (whole_words (drop 40 bytes)).words

-- how many words there are, where nothing is left; else the word at the end of the whole ones is short
abbrev pub counted : Cut → Result ℕ WordError
counted c = if nat_lt 0 (length c.rest) then Err (Short (end_of c.words)) else Ok (length c.words)

-- the number of words that is said is the number that is found
abbrev pub agreed : ℕ → Result ℕ WordError → Result ℕ WordError
agreed said (Err e) = Err e
agreed said (Ok found) = if said == found then Ok found else Err (Count said found)

-- the number of words, or the first refusal: the header is there, it begins with `AGW1`, each word is
-- whole, and there are as many as it says
unfoldable pub checked_count : List ℕ → Result ℕ WordError
checked_count bytes =
    if nat_lt (length bytes) 40 then Err (Short (length bytes))
    else if from_be_bytes w32 bytes == 0x4147_5731 then agreed (count_in bytes) (counted (whole_words (drop 40 bytes)))
    else Err Magic

-- a tag and words
abbrev pub tagged : Tag → List (List ℕ) → TaggedWords
tagged tag words = record { tag = tag; words = words }

-- the file that the bytes spell, or the first refusal
abbrev pub file_in : List ℕ → Result ℕ WordError → Result TaggedWords WordError
file_in bytes (Err e) = Err e
file_in bytes (Ok count) = Ok (tagged (tag_in bytes) (words_in bytes))

unfoldable pub checked : List ℕ → Result TaggedWords WordError
checked bytes = file_in bytes (checked_count bytes)

-- the bytes are the spelling of what is seen in them
pub record IsHeld (tag : Tag) (count : ℕ) (bytes : List ℕ) : Type 0 where
  pub fits : Fits (tagged tag (words_in bytes))
  pub spelled : bytes ≡ spelling (tagged tag (words_in bytes))
  pub counted : count ≡ length (words_in bytes)

-- the same of a file that is being written: its header doesn't say the number yet
pub record IsBegun (tag : Tag) (count : ℕ) (bytes : List ℕ) : Type 0 where
  pub tag_fits : IsTag tag
  pub short : AreShort (words_in bytes)
  pub spelled : bytes ≡ header tag 0 ++ body (words_in bytes)
  pub counted : count ≡ length (words_in bytes)
