-- The pairs that are made of the items of a walk over values.
use Rattle.std.specs.Prelude.{◌≡◌, ℕ, ◌-◌, ◌==◌, Bool, true, false, List, [], ◌∷◌, ◌++◌, length, map, slice_index_or}
use Rattle.std.specs.Prelude.{is_some, All, if◌then◌else◌, Some}
use Rattle.std.specs.List.{filter}
use Rattle.agg_model.specs.declared.contents.Pair.{Pair}
use Rattle.agg_model.specs.Pairs.{IsPair, held_value}
use Rattle.domain_core.specs.KvFile.{words_of}
use Rattle.word_file.specs.Spelling.{TaggedWords}
use Rattle.word_file.specs.Reading.{tagged}
use Rattle.merge_files.specs.Walks.{Item}

-- the word of the last input that has the key
abbrev pub newest_of : List (List ℕ) → List ℕ
newest_of words = slice_index_or words (length words - 1) []

abbrev pub newest_pair : Item → Pair
newest_pair i = record { key = i.key; value = newest_of i.words }

-- the pair's value is not the empty word
abbrev pub has_value : Pair → Bool
has_value p = is_some (held_value (Some p.value))

-- files from step 0 on keep no empty word
abbrev pub kept_pairs : ℕ → List Item → List Pair
kept_pairs from items =
    if from == 0 then filter has_value (map newest_pair items) else map newest_pair items

-- the words of these pairs, which a file may have, are put behind the words
pub record ArePut (old new : TaggedWords) (pairs : List Pair) : Type 0 where
  pub words : new ≡ tagged old.tag (old.words ++ words_of pairs)
  pub fit : All IsPair pairs

-- the first item is put, if there is one
pub record PutsFirst (from : ℕ) (old new : List Item) (before after : TaggedWords) : Type 0 where
  pub item : Item
  pub left : old ≡ item ∷ new
  pub put : ArePut before after (kept_pairs from (item ∷ []))

abbrev pub PutsNext : ℕ → Bool → List Item → List Item → TaggedWords → TaggedWords → Type 0
PutsNext from true old new before after = PutsFirst from old new before after
PutsNext from false old new before after = (old ≡ []) × (after ≡ before)
