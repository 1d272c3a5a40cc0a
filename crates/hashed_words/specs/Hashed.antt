-- Paired words behind a hash accessor.
use Rattle.std.specs.Prelude.{◌≡◌, ℕ, ◌+◌, ◌*◌, ◌<◌, nat_eq, List, [], ◌∷◌, length, slice_index, slice_index_or, if◌then◌else◌, Option, Some, None}
use Rattle.std.specs.Cmp.Lexicographic.{pointwise}
use Rattle.word_file.specs.Paired.{IsPaired, KeysDiffer, key_count, key_offset}
use Rattle.recsplit_index.specs.Spelling.{Index, spelling}
use Rattle.recsplit_index.specs.Index.{index_of}
use Rattle.hashed_words.specs.declared.limits.TheConstants.{TRIES}
use Rattle.hashed_words.specs.Filter.{AdmitsKeys}

-- the accessor's bytes, and its form
abbrev pub accessor_bytes : List (List ℕ) → List ℕ
accessor_bytes words = spelling (index_of TRIES words)

abbrev pub form_of : List (List ℕ) → ℕ
form_of words = (index_of TRIES words).form

-- the value word of the pair at a place
abbrev pub value_at : List (List ℕ) → ℕ → List ℕ
value_at words place = slice_index_or words (2 * place + 1) []

-- the value word behind the first key word that is this key
abbrev pub value_of : List (List ℕ) → List ℕ → Option (List ℕ)
value_of [] key = None
value_of (k ∷ []) key = None
value_of (k ∷ value ∷ words) key = if pointwise nat_eq k key then Some value else value_of words key

-- the pair at a place has its key word at this offset
pub record IsPairAt (words : List (List ℕ)) (at place : ℕ) : Type 0 where
  pub within : place < key_count words
  pub offset : at ≡ key_offset words place

-- a key word starts at this offset
abbrev pub StartsPair : List (List ℕ) → ℕ → Type 0
StartsPair words at = (place : ℕ) × IsPairAt words at place

-- at each of these offsets
abbrev pub ArePairs : List (List ℕ) → List ℕ → Type 0
ArePairs words starts = (i : ℕ) → i < length starts → StartsPair words (slice_index starts i)

-- the words are pairs with different keys, the index is theirs, the filter lets each of the keys pass, and pairs start
-- where it is said
pub record IsHashed (words : List (List ℕ)) (index : Index) (marks starts : List ℕ) : Type 0 where
  pub paired : IsPaired words
  pub differ : KeysDiffer words
  pub indexed : index ≡ index_of TRIES words
  pub admits : AdmitsKeys marks words
  pub pairs : ArePairs words starts
