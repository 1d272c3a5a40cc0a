-- The values before changes that are made of the items of a walk.
use Rattle.std.specs.Prelude.{◌≡◌, ℕ, ◌≤◌, Bool, true, false, List, [], ◌∷◌, ◌++◌, length, map, slice_index_or, All}
use Rattle.agg_model.specs.declared.contents.Before.{Before}
use Rattle.history_core.specs.Befores.{IsBefore}
use Rattle.history_core.specs.KeyWord.{key_in, number_in, words_of}
use Rattle.word_file.specs.declared.tag.Tag.{Tag}
use Rattle.word_file.specs.Spelling.{TaggedWords}
use Rattle.word_file.specs.Reading.{tagged}
use Rattle.merge_files.specs.Walks.{Item}

-- the word of the first input that has the key word
abbrev pub oldest_of : List (List ℕ) → List ℕ
oldest_of words = slice_index_or words 0 []

-- the row that a key word and a value word are
abbrev pub row_with : List ℕ → List ℕ → Before
row_with word value = record { key = key_in word; tx = number_in word; value = value }

abbrev pub row_of : Item → Before
row_of i = row_with i.key (oldest_of i.words)

-- these words are a row that a file of the tag may have
pub record AreRow (tag : Tag) (word value : List ℕ) : Type 0 where
  pub long : 8 ≤ length word
  pub fits : IsBefore tag (row_with word value)

-- the words of these rows, which a file of the tag may have, are put behind the words
pub record RowsPut (old new : TaggedWords) (rows : List Before) : Type 0 where
  pub words : new ≡ tagged old.tag (old.words ++ words_of rows)
  pub fit : All (IsBefore old.tag) rows

-- the first item is put, if there is one
pub record PutsFirstRow (old new : List Item) (before after : TaggedWords) : Type 0 where
  pub item : Item
  pub left : old ≡ item ∷ new
  pub put : RowsPut before after (row_of item ∷ [])

abbrev pub PutsNextRow : Bool → List Item → List Item → TaggedWords → TaggedWords → Type 0
PutsNextRow true old new before after = PutsFirstRow old new before after
PutsNextRow false old new before after = (old ≡ []) × (after ≡ before)
