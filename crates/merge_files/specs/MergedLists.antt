-- The lists of numbers that are made of the items of a walk.
use Rattle.std.specs.Prelude.{◌≡◌, ℕ, ◌+◌, ◌<◌, ◌^◌, List, [], ◌∷◌, ◌++◌, map, All, Option, Some, None}
use Rattle.std.specs.List.{flat_map}
use Rattle.agg_model.specs.declared.contents.Times.{Times}
use Rattle.inverted_index.specs.EfFile.{IsTimes, AreLists, number_count, numbers_in, words_of}
use Rattle.word_file.specs.declared.tag.Tag.{Tag}
use Rattle.word_file.specs.Spelling.{TaggedWords}
use Rattle.word_file.specs.Reading.{tagged}
use Rattle.collate_step.specs.Groups.{GroupFiles}
use Rattle.merge_files.specs.Walks.{Item}

-- the numbers of all texts, one after the other
abbrev pub all_numbers : List (List ℕ) → List ℕ
all_numbers words = flat_map numbers_in words

abbrev pub times_of : Item → Times
times_of i = record { key = i.key; items = all_numbers i.words }

-- the lists of a group are those that its file may hold
abbrev pub HasLists : GroupFiles → Type 0
HasLists g = AreLists g.ef.tag g.ef.lists

-- the words of these lists, which a file of the tag may have, are put behind the words; so many numbers were put
-- before, and so many are then
pub record ListsPut (counted total : ℕ) (old new : TaggedWords) (lists : List Times) : Type 0 where
  pub words : new ≡ tagged old.tag (old.words ++ words_of lists)
  pub fit : All (IsTimes old.tag) lists
  pub count : total ≡ counted + number_count lists
  pub few : total < 2 ^ 23

-- the first item is put, if there is one
pub record PutsFirstList (counted total : ℕ) (old new : List Item) (before after : TaggedWords) : Type 0 where
  pub item : Item
  pub left : old ≡ item ∷ new
  pub put : ListsPut counted total before after (times_of item ∷ [])

abbrev pub PutsNextList : ℕ → Option ℕ → List Item → List Item → TaggedWords → TaggedWords → Type 0
PutsNextList counted (Some total) old new before after = PutsFirstList counted total old new before after
PutsNextList counted None old new before after = (old ≡ []) × (after ≡ before)
