-- Words that are pairs: a key, its value, the next key and so on.
use Rattle.std.specs.Prelude.{◌≡◌, ℕ, ◌*◌, ◌/◌, ◌<◌, List, [], length, map, slice_index_or}
use Rattle.std.specs.List.{range_with_len}
use Rattle.std.specs.Ordering.{nat_cmp}
use Rattle.std.specs.Cmp.Lexicographic.{slice_cmp}
use Rattle.std.specs.declared.cmp.Ordering.TheVariants.{Less}
use Rattle.word_file.specs.Spelling.{offset_at}

abbrev pub key_count : List (List ℕ) → ℕ
key_count words = length words / 2

-- each key has its value
abbrev pub IsPaired : List (List ℕ) → Type 0
IsPaired words = 2 * key_count words ≡ length words

-- the key at a place, and its offset
abbrev pub key_at : List (List ℕ) → ℕ → List ℕ
key_at words place = slice_index_or words (2 * place) []

abbrev pub key_offset : List (List ℕ) → ℕ → ℕ
key_offset words place = offset_at words (2 * place)

abbrev pub key_offsets : List (List ℕ) → List ℕ
key_offsets words = map (key_offset words) (range_with_len 0 (key_count words))

-- byte by byte, and a prefix before what it begins
abbrev pub IsBelow : List ℕ → List ℕ → Type 0
IsBelow one other = slice_cmp nat_cmp one other ≡ Less

abbrev pub KeysAscend : List (List ℕ) → Type 0
KeysAscend words = (p q : ℕ) → p < q → q < key_count words → IsBelow (key_at words p) (key_at words q)

-- no two places have the same key
abbrev pub KeysDiffer : List (List ℕ) → Type 0
KeysDiffer words = (p q : ℕ) → p < key_count words → q < key_count words → key_at words p ≡ key_at words q → p ≡ q
