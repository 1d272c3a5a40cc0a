-- Where a walk over the keys of an `.ef` file begins.
use Rattle.std.specs.Prelude.{ℕ, ◌<◌, List, [], slice_index_or}
use Rattle.agg_model.specs.declared.contents.Times.{Times}
use Rattle.agg_model.specs.Pairs.{IsBelow}
use Rattle.hashed_words.specs.Hashed.{IsPairAt}
use Rattle.inverted_index.specs.EfFile.{list_keys, words_of}

-- the key at a place
abbrev pub key_in : List Times → ℕ → List ℕ
key_in lists place = slice_index_or (list_keys lists) place []

-- a pair starts at the offset, and every key before it is below the first one
pub record IsStart (lists : List Times) (first : List ℕ) (at : ℕ) : Type 0 where
  pub place : ℕ
  pub pair : IsPairAt (words_of lists) at place
  pub before : (p : ℕ) → p < place → IsBelow (key_in lists p) first
