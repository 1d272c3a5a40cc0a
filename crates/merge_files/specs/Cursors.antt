-- A place between the pairs of a file's words.
use Rattle.std.specs.Prelude.{◌≡◌, ℕ, ◌*◌, ◌≤◌, ◌<◌, ◌^◌, List, ◌∷◌, length, drop, Option}
use Rattle.agg_model.specs.declared.contents.Pair.{Pair}
use Rattle.domain_core.specs.KvFile.{pairs_in, words_of}
use Rattle.word_file.specs.Spelling.{offset_of}

-- the words are pairs, and the pair behind so many begins there
pub record IsCursor (words : List (List ℕ)) (at : Option ℕ) (place : ℕ) : Type 0 where
  pub paired : words ≡ words_of (pairs_in words)
  pub few : length words < 2 ^ 64
  pub within : place ≤ length (pairs_in words)
  pub offset : at ≡ offset_of words (2 * place)

-- the first of the pairs is this key word and this value word
abbrev pub BeginsWith : List Pair → List ℕ → List ℕ → Type 0
BeginsWith pairs key value = pairs ≡ record { key = key; value = value } ∷ drop 1 pairs
