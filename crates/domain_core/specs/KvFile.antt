-- A `.kv` file as its readers see it, the words that it is made of, and its bytes.
use Rattle.std.specs.Prelude.{◌≡◌, ℕ, ◌+◌, ◌*◌, ◌≤◌, ◌<◌, List, [], ◌∷◌, length, map, slice_index_or}
use Rattle.agg_model.specs.declared.entity.Entity.{Entity}
use Rattle.agg_model.specs.declared.change.Change.{Change}
use Rattle.agg_model.specs.declared.contents.Pair.{Pair}
use Rattle.agg_model.specs.Entity.{entity_number}
use Rattle.agg_model.specs.Contents.{kv_contents}
use Rattle.agg_model.specs.Pairs.{ArePairs, IsBelow, pair_keys}
use Rattle.word_file.specs.declared.tag.Tag.{Tag}
use Rattle.word_file.specs.Spelling.{TaggedWords, spelling}
use Rattle.word_file.specs.Reading.{tagged}
use Rattle.word_file.specs.Paired.{key_offsets}
use Rattle.btree_index.specs.Levels as btree
use Rattle.hashed_words.specs.Hashed.{accessor_bytes, form_of}

-- what a file is of, and its pairs
pub record TaggedPairs : Type 0 where
  pub tag : Tag
  pub pairs : List Pair

abbrev pub tagged_pairs : Tag → List Pair → TaggedPairs
tagged_pairs tag pairs = record { tag = tag; pairs = pairs }

abbrev pub pairs_of_files : List TaggedPairs → List (List Pair)
pairs_of_files files = map (λ f. f.pairs) files

-- the most words that one look into each of these files reads
abbrev pub words_read : List TaggedPairs → ℕ
words_read [] = 0
words_read (file ∷ files) = (8 * btree.levels (length file.pairs) + 4) + words_read files

-- a key, its value, the next key and so on
abbrev pub words_of : List Pair → List (List ℕ)
words_of [] = []
words_of (p ∷ ps) = p.key ∷ p.value ∷ words_of ps

-- the pairs that words are; a key without a value is none
abbrev pub pairs_in : List (List ℕ) → List Pair
pairs_in [] = []
pairs_in (key ∷ []) = []
pairs_in (key ∷ value ∷ words) = record { key = key; value = value } ∷ pairs_in words

-- the one spelling of a file
unfoldable pub kv_spelling : TaggedPairs → List ℕ
kv_spelling f = spelling (tagged f.tag (words_of f.pairs))

-- those of its B-tree and of its hash accessor, and the form of the latter
unfoldable pub bt_spelling : TaggedPairs → List ℕ
bt_spelling f = btree.spelling (key_offsets (words_of f.pairs))

unfoldable pub kvi_spelling : TaggedPairs → List ℕ
kvi_spelling f = accessor_bytes (words_of f.pairs)

unfoldable pub kvi_form : TaggedPairs → ℕ
kvi_form f = form_of (words_of f.pairs)

-- version 1 of kind 0, over the steps from one on and below another
abbrev pub kv_tag : Entity → ℕ → ℕ → ℕ → Tag
kv_tag e size from to = record { entity = entity_number e; kind = 0; version = 1; step = size; from = from; to = to }

-- the `.kv` file of an entity over these steps, of a list of changes
abbrev pub kv_file_of : ℕ → List Change → Entity → ℕ → ℕ → TaggedPairs
kv_file_of size changes e from to = tagged_pairs (kv_tag e size from to) (kv_contents size changes e from to)

-- its bytes, and those of its accessors
unfoldable pub kv_file_bytes : ℕ → List Change → Entity → ℕ → ℕ → List ℕ
kv_file_bytes size changes e from to = kv_spelling (kv_file_of size changes e from to)

unfoldable pub bt_file_bytes : ℕ → List Change → Entity → ℕ → ℕ → List ℕ
bt_file_bytes size changes e from to = bt_spelling (kv_file_of size changes e from to)

unfoldable pub kvi_file_bytes : ℕ → List Change → Entity → ℕ → ℕ → List ℕ
kvi_file_bytes size changes e from to = kvi_spelling (kv_file_of size changes e from to)

-- the key at a place
abbrev pub key_at : List Pair → ℕ → List ℕ
key_at pairs place = slice_index_or (pair_keys pairs) place []

-- the first place whose key isn't below, or the number of pairs
pub record IsFirstNotBelow (pairs : List Pair) (key : List ℕ) (place : ℕ) : Type 0 where
  pub within : place ≤ length pairs
  pub before : (p : ℕ) → p < place → IsBelow (key_at pairs p) key
  pub behind : (p : ℕ) → place ≤ p → p < length pairs → IsBelow (key_at pairs p) key → ⊥

-- the words are those of pairs that a file may have
pub record ArePairWords (words : List (List ℕ)) : Type 0 where
  pub paired : words ≡ words_of (pairs_in words)
  pub are : ArePairs (pairs_in words)

-- and the index has the offsets of the keys
pub record IsHeld (file : TaggedWords) (index : List ℕ) : Type 0 where
  pub words : ArePairWords file.words
  pub indexed : index ≡ key_offsets file.words

-- these are the three files of the pairs under the tag
pub record AreFilesOf (tag : Tag) (kv bt kvi : List ℕ) (f : TaggedPairs) : Type 0 where
  pub tag_is : f.tag ≡ tag
  pub pairs_are : ArePairs f.pairs
  pub kv_is : kv ≡ kv_spelling f
  pub bt_is : bt ≡ bt_spelling f
  pub kvi_is : kvi ≡ kvi_spelling f
