-- Which values before changes a `.v` file may have, in which order, and what a look for one finds.
use Rattle.std.specs.Prelude.{ℕ, ◌*◌, ◌^◌, ◌<◌, ◌≤◌, List, length, All, AllPairs, Option}
use Rattle.std.specs.Ordering.{nat_cmp, ordering_then}
use Rattle.std.specs.Cmp.Lexicographic.{slice_cmp}
use Rattle.std.specs.declared.cmp.Ordering.{Ordering}
use Rattle.agg_model.specs.declared.contents.Before.{Before}
use Rattle.agg_model.specs.declared.limits.TheConstants.{KEY_MOST, VALUE_MOST}
use Rattle.content_laws.specs.Looks as looks
use Rattle.word_file.specs.declared.tag.Tag.{Tag}

-- by the bytes of the key, and then by the number
unfoldable pub order_of : List ℕ → ℕ → List ℕ → ℕ → Ordering
order_of key tx other number = ordering_then (slice_cmp nat_cmp key other) (nat_cmp tx number)

abbrev pub IsEarlier : Before → Before → Type 0
IsEarlier = looks.IsEarlier

-- the number is in the steps of the tag
pub record IsInside (tag : Tag) (tx : ℕ) : Type 0 where
  pub low : tag.from * tag.step ≤ tx
  pub high : tx < tag.to * tag.step

-- and it has its eight bytes
pub record IsNumber (tag : Tag) (tx : ℕ) : Type 0 where
  pub fits : tx < 2 ^ 64
  pub inside : IsInside tag tx

-- key and value are within their limits
pub record HasLengths (b : Before) : Type 0 where
  pub not_empty : 1 ≤ length b.key
  pub key_within : length b.key ≤ KEY_MOST
  pub value_within : length b.value ≤ VALUE_MOST

pub record IsBefore (tag : Tag) (b : Before) : Type 0 where
  pub lengths : HasLengths b
  pub number : IsNumber tag b.tx

-- what a file of the tag may hold
pub record AreBefores (tag : Tag) (befores : List Before) : Type 0 where
  pub ascend : AllPairs IsEarlier befores
  pub fit : All (IsBefore tag) befores

-- the value before the change of exactly this key at exactly this number
abbrev pub value_before : List Before → List ℕ → ℕ → Option (List ℕ)
value_before = looks.before_in
