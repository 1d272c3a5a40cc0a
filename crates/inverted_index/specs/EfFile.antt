-- An `.ef` file as its readers see it, the words that it is made of, and its bytes.
use Rattle.std.specs.Prelude.{◌≡◌, ℕ, ◌*◌, ◌≤◌, ◌<◌, ◌^◌, nat_le, List, [], ◌∷◌, length, map, All, find, Option}
use Rattle.std.specs.Option.{option_and_then}
use Rattle.std.specs.List.{sum_by}
use Rattle.std.specs.List.Sorted.{IsStrictlyIncreasing}
use Rattle.agg_model.specs.declared.entity.Entity.{Entity}
use Rattle.agg_model.specs.declared.change.Change.{Change}
use Rattle.agg_model.specs.declared.contents.Times.{Times}
use Rattle.agg_model.specs.declared.limits.TheConstants.{KEY_MOST}
use Rattle.agg_model.specs.Entity.{entity_number}
use Rattle.agg_model.specs.Contents.{ef_contents}
use Rattle.agg_model.specs.Pairs.{KeysAscend}
use Rattle.content_laws.specs.Looks as looks
use Rattle.elias_fano.specs.Spelling as list
use Rattle.elias_fano.specs.Reading.{items_of, parts_in}
use Rattle.word_file.specs.declared.tag.Tag.{Tag}
use Rattle.word_file.specs.Spelling as file
use Rattle.word_file.specs.Reading.{tagged}
use Rattle.hashed_words.specs.Hashed.{accessor_bytes}
use Rattle.hashed_words.specs.PairedWords.{paired_words}

-- what a file is of, and the numbers of its keys
pub record TaggedLists : Type 0 where
  pub tag : Tag
  pub lists : List Times

abbrev pub tagged_lists : Tag → List Times → TaggedLists
tagged_lists tag lists = record { tag = tag; lists = lists }

-- ---- what a file may hold

-- a number of 64 bits, from the first step of the tag on and below the end of the last
pub record IsInside (tag : Tag) (n : ℕ) : Type 0 where
  pub small : n < 2 ^ 64
  pub from : tag.from * tag.step ≤ n
  pub below : n < tag.to * tag.step

-- the numbers of a key: at least one, each above the one before
pub record AreNumbers (tag : Tag) (items : List ℕ) : Type 0 where
  pub some : 0 < length items
  pub ascend : IsStrictlyIncreasing items
  pub inside : All (IsInside tag) items

pub record IsTimes (tag : Tag) (t : Times) : Type 0 where
  pub not_empty : 1 ≤ length t.key
  pub key_within : length t.key ≤ KEY_MOST
  pub numbers : AreNumbers tag t.items

abbrev pub list_keys : List Times → List (List ℕ)
list_keys lists = map (λ t. t.key) lists

-- how many numbers all lists have together
abbrev pub number_count : List Times → ℕ
number_count lists = sum_by (λ t. length t.items) lists

pub record AreLists (tag : Tag) (lists : List Times) : Type 0 where
  pub ascend : KeysAscend (list_keys lists)
  pub fit : All (IsTimes tag) lists
  pub few : number_count lists < 2 ^ 23

-- ---- the words

-- a key and the text of its numbers
abbrev pub pair_of : Times → List ℕ × List ℕ
pair_of t = (t.key, list.spelling t.items)

abbrev pub words_of : List Times → List (List ℕ)
words_of lists = paired_words (map pair_of lists)

-- the text of a list that can be read again from it
pub record IsTextOf (text items : List ℕ) : Type 0 where
  pub short : length text < 2 ^ 32
  pub listable : list.IsListable items
  pub spelled : text ≡ list.spelling items

-- the numbers that a text says
abbrev pub numbers_in : List ℕ → List ℕ
numbers_in text = items_of (parts_in text)

-- the lists that words are; a key without a value is none
abbrev pub lists_in : List (List ℕ) → List Times
lists_in [] = []
lists_in (key ∷ []) = []
lists_in (key ∷ text ∷ words) = record { key = key; items = numbers_in text } ∷ lists_in words

-- the words are those of these lists, which the file may hold
pub record AreWordsOf (f : file.TaggedWords) (ts : List Times) : Type 0 where
  pub words : f.words ≡ words_of ts
  pub lists : AreLists f.tag ts

-- the words are those of the lists that they say
abbrev pub IsHeld : file.TaggedWords → Type 0
IsHeld f = AreWordsOf f (lists_in f.words)

-- ---- the bytes

-- the one spelling of a file, and of its accessor
unfoldable pub ef_spelling : TaggedLists → List ℕ
ef_spelling f = file.spelling (tagged f.tag (words_of f.lists))

unfoldable pub efi_spelling : TaggedLists → List ℕ
efi_spelling f = accessor_bytes (words_of f.lists)

-- version 1 of kind 2, over the steps from one on and below another
abbrev pub ef_tag : Entity → ℕ → ℕ → ℕ → Tag
ef_tag e size from to = record { entity = entity_number e; kind = 2; version = 1; step = size; from = from; to = to }

-- the file of an entity over these steps, of a list of changes
abbrev pub ef_file : ℕ → List Change → Entity → ℕ → ℕ → TaggedLists
ef_file size changes e from to = tagged_lists (ef_tag e size from to) (ef_contents size changes e from to)

-- its bytes, and those of its accessor
unfoldable pub ef_file_bytes : ℕ → List Change → Entity → ℕ → ℕ → List ℕ
ef_file_bytes size changes e from to = ef_spelling (ef_file size changes e from to)

unfoldable pub efi_file_bytes : ℕ → List Change → Entity → ℕ → ℕ → List ℕ
efi_file_bytes size changes e from to = efi_spelling (ef_file size changes e from to)

-- ---- what looks find

-- the numbers of the first list with the key
abbrev pub numbers_of : List Times → List ℕ → Option (List ℕ)
numbers_of = looks.numbers_in

-- the first of them that isn't below n
abbrev pub first_from : List Times → List ℕ → ℕ → Option ℕ
first_from lists k n = option_and_then (find (nat_le n)) (numbers_of lists k)
