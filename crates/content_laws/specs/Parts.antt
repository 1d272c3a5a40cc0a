-- What files over adjacent ranges of steps hold together.
use Rattle.std.specs.Prelude.{◌≡◌, ℕ, ◌<◌, ◌==◌, ◌++◌, List, [], ◌∷◌, map, Option, Some, None, if◌then◌else◌}
use Rattle.std.specs.Option.{option_or}
use Rattle.agg_model.specs.declared.entity.Entity.{Entity}
use Rattle.agg_model.specs.declared.entity.Range.{Range}
use Rattle.agg_model.specs.declared.change.Change.{Change}
use Rattle.agg_model.specs.declared.contents.Pair.{Pair}
use Rattle.agg_model.specs.declared.contents.Before.{Before}
use Rattle.agg_model.specs.declared.contents.Times.{Times}
use Rattle.agg_model.specs.Contents.{kv_contents, v_contents, ef_contents}
use Rattle.agg_model.specs.Pairs.{held_value}
use Rattle.content_laws.specs.Looks.{numbers_in, before_in}

-- the ranges follow one another from one step up to another, and none is empty
abbrev pub Adjoin : ℕ → List Range → ℕ → Type 0
Adjoin from [] to = from ≡ to
Adjoin from (r ∷ rs) to = (r.from ≡ from) × ((r.from < r.to) × Adjoin r.to rs to)

-- what the files of an entity over these ranges hold, oldest first
abbrev pub kv_files : ℕ → List Change → Entity → List Range → List (List Pair)
kv_files size cs e ranges = map (λ r. kv_contents size cs e r.from r.to) ranges

abbrev pub v_files : ℕ → List Change → Entity → List Range → List (List Before)
v_files size cs e ranges = map (λ r. v_contents size cs e r.from r.to) ranges

abbrev pub ef_files : ℕ → List Change → Entity → List Range → List (List Times)
ef_files size cs e ranges = map (λ r. ef_contents size cs e r.from r.to) ranges

-- files from step 0 on keep no empty word
abbrev pub kept_word : ℕ → Option (List ℕ) → Option (List ℕ)
kept_word from word = if from == 0 then held_value word else word

-- the numbers of both, one after the other, where there are any
abbrev pub both_numbers : Option (List ℕ) → Option (List ℕ) → Option (List ℕ)
both_numbers None later = later
both_numbers (Some ns) None = Some ns
both_numbers (Some ns) (Some ms) = Some (ns ++ ms)

-- the numbers of a key in files, oldest first
abbrev pub numbers_over : List (List Times) → List ℕ → Option (List ℕ)
numbers_over [] k = None
numbers_over (file ∷ files) k = both_numbers (numbers_in file k) (numbers_over files k)

-- the word before the change of a key at a number, in the first file that has it
abbrev pub before_over : List (List Before) → List ℕ → ℕ → Option (List ℕ)
before_over [] k n = None
before_over (file ∷ files) k n = option_or (before_in file k n) (before_over files k n)
