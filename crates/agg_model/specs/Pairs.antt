-- Which pairs a `.kv` file may have, and what a look into files finds.
use Rattle.std.specs.Prelude.{◌≡◌, ℕ, zero, suc, ◌+◌, ◌≤◌, nat_eq, nat_le, ◌&&◌, List, [], ◌∷◌, ◌++◌, length, map, All, if◌then◌else◌, Option, Some, None}
use Rattle.std.specs.Option.{option_or}
use Rattle.std.specs.Ordering.{nat_cmp}
use Rattle.std.specs.Cmp.Lexicographic.{pointwise, slice_cmp}
use Rattle.std.specs.declared.cmp.Ordering.TheVariants.{Less}
use Rattle.agg_model.specs.declared.entity.Entity.{Entity}
use Rattle.agg_model.specs.declared.change.Change.{Change}
use Rattle.agg_model.specs.declared.contents.Pair.{Pair}
use Rattle.agg_model.specs.declared.limits.TheConstants.{KEY_MOST, VALUE_MOST}
use Rattle.agg_model.specs.Place.{is_of}
use Rattle.agg_model.specs.ChangeList.{value_of, last_where}
use Rattle.agg_model.specs.Contents.{kv_contents, is_of_within}

-- byte by byte, and a prefix before what it begins
abbrev pub IsBelow : List ℕ → List ℕ → Type 0
IsBelow one other = slice_cmp nat_cmp one other ≡ Less

-- each key is below all later ones
abbrev pub KeysAscend : List (List ℕ) → Type 0
KeysAscend [] = Unit {0}
KeysAscend (k ∷ ks) = All (IsBelow k) ks × KeysAscend ks

abbrev pub pair_keys : List Pair → List (List ℕ)
pair_keys pairs = map (λ p. p.key) pairs

pub record IsPair (p : Pair) : Type 0 where
  pub not_empty : 1 ≤ length p.key
  pub key_within : length p.key ≤ KEY_MOST
  pub value_within : length p.value ≤ VALUE_MOST

pub record ArePairs (pairs : List Pair) : Type 0 where
  pub ascend : KeysAscend (pair_keys pairs)
  pub fit : All IsPair pairs

-- the word of the first pair with the key
abbrev pub word_in : List Pair → List ℕ → Option (List ℕ)
word_in [] k = None
word_in (p ∷ ps) k = if pointwise nat_eq p.key k then Some p.value else word_in ps k

-- the word in the last of the files that has the key
abbrev pub newest_word : List (List Pair) → List ℕ → Option (List ℕ)
newest_word [] k = None
newest_word (file ∷ files) k = option_or (newest_word files k) (word_in file k)

-- the empty word, and no word, are no value
abbrev pub held_value : Option (List ℕ) → Option (List ℕ)
held_value None = None
held_value (Some []) = None
held_value (Some (b ∷ bs)) = Some (b ∷ bs)

-- the contents of the `.kv` files of the first steps, one step each
abbrev pub step_files : ℕ → List Change → Entity → ℕ → List (List Pair)
step_files size cs e zero = []
step_files size cs e (suc f) = step_files size cs e f ++ kv_contents size cs e f (f + 1) ∷ []

-- the last change of a key with a number from one on and below another
unfoldable pub hot_change : List Change → Entity → List ℕ → ℕ → ℕ → Option Change
hot_change cs e k from n = last_where (is_of_within e k from n) cs

-- the value that the change left, or else the one found before
abbrev pub value_over : Option (List ℕ) → Option Change → Option (List ℕ)
value_over found None = found
value_over found (Some c) = value_of c

-- the change, where it is one of this entity and key with a number from one on
abbrev pub only_from : ℕ → Entity → List ℕ → Option Change → Option Change
only_from from e k None = None
only_from from e k (Some c) = if is_of e k c && nat_le from c.tx then Some c else None
