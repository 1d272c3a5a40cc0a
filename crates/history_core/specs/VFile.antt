-- A `.v` file as its readers see it, its bytes and those of its accessor, and where the two are refused.
use Rattle.std.specs.Prelude.{◌≡◌, ℕ, ◌<◌, List, length, Option}
use Rattle.agg_model.specs.declared.entity.Entity.{Entity}
use Rattle.agg_model.specs.declared.entity.FileKind.TheVariants.{V, Vi}
use Rattle.agg_model.specs.declared.change.Change.{Change}
use Rattle.agg_model.specs.declared.contents.Before.{Before}
use Rattle.agg_model.specs.Entity.{entity_number}
use Rattle.agg_model.specs.Contents.{v_contents}
use Rattle.word_file.specs.declared.tag.Tag.{Tag}
use Rattle.word_file.specs.Spelling.{TaggedWords, spelling}
use Rattle.word_file.specs.Reading.{tagged}
use Rattle.word_file.specs.Paired.{key_offset}
use Rattle.hashed_words.specs.declared.error.FileError.{FileError}
use Rattle.hashed_words.specs.Faults.{opened, fault_behind, hash_fault}
use Rattle.hashed_words.specs.Hashed.{accessor_bytes, form_of}
use Rattle.history_core.specs.Befores.{AreBefores}
use Rattle.history_core.specs.KeyWord.{words_of, befores_in}
use Rattle.history_core.specs.Rules.{v_rules}

-- what a file is of, and the values before its changes
pub record TaggedBefores : Type 0 where
  pub tag : Tag
  pub befores : List Before

abbrev pub tagged_befores : Tag → List Before → TaggedBefores
tagged_befores tag befores = record { tag = tag; befores = befores }

-- the one spelling of a file, and that of its accessor
unfoldable pub v_spelling : TaggedBefores → List ℕ
v_spelling f = spelling (tagged f.tag (words_of f.befores))

unfoldable pub vi_spelling : TaggedBefores → List ℕ
vi_spelling f = accessor_bytes (words_of f.befores)

-- 1 where a key word is found by one look, and 0 where it is looked for by halves
abbrev pub vi_form : TaggedBefores → ℕ
vi_form f = form_of (words_of f.befores)

-- version 1 of kind 1, over the steps from one on and below another
abbrev pub v_tag : Entity → ℕ → ℕ → ℕ → Tag
v_tag e size from to = record { entity = entity_number e; kind = 1; version = 1; step = size; from = from; to = to }

-- the bytes of the `.v` file of an entity over these steps, of a list of changes, and those of its `.vi` file
unfoldable pub v_file_bytes : ℕ → List Change → Entity → ℕ → ℕ → List ℕ
v_file_bytes size changes e from to =
    v_spelling (tagged_befores (v_tag e size from to) (v_contents size changes e from to))

unfoldable pub vi_file_bytes : ℕ → List Change → Entity → ℕ → ℕ → List ℕ
vi_file_bytes size changes e from to =
    vi_spelling (tagged_befores (v_tag e size from to) (v_contents size changes e from to))

-- the words are those of befores that a file of their tag may hold
pub record IsFileOf (words : TaggedWords) (befores : List Before) : Type 0 where
  pub are : AreBefores words.tag befores
  pub words_are : words.words ≡ words_of befores

-- the same of what the words say
abbrev pub IsHeld : TaggedWords → Type 0
IsHeld words = IsFileOf words (befores_in words.words)

-- the key word of the before at a place starts at this offset
pub record IsRowAt (befores : List Before) (at place : ℕ) : Type 0 where
  pub within : place < length befores
  pub offset : at ≡ key_offset (words_of befores) place

-- a key word starts at this offset
abbrev pub StartsRow : List Before → ℕ → Type 0
StartsRow befores at = (place : ℕ) × IsRowAt befores at place

-- the first refusal of the two files under a tag
unfoldable pub file_fault : Tag → List ℕ → List ℕ → Option FileError
file_fault tag v vi = fault_behind V (hash_fault Vi vi) (opened (v_rules tag) tag v)
