-- The last change of each key among changes that are sorted by it.
use Rattle.std.specs.Prelude.{ℕ, ◌==◌, ◌&&◌, ◌||◌, Bool, List, [], ◌∷◌, if◌then◌else◌, is_none}
use Rattle.agg_model.specs.declared.change.Change.{Change}
use Rattle.agg_model.specs.declared.contents.Pair.{Pair}
use Rattle.agg_model.specs.ChangeList.{value_of}
use Rattle.agg_model.specs.Contents.{goes_on, word_of}

abbrev pub last_changes : List Change → List Change
last_changes [] = []
last_changes (c ∷ cs) = if goes_on c.key cs then last_changes cs else c ∷ last_changes cs

-- the key of a change with what that leaves
abbrev pub pair_of : Change → Pair
pair_of c = record { key = c.key; value = word_of (value_of c) }

-- another change of the key follows, or it is deleted and the pairs are of the first step
abbrev pub is_left_out : ℕ → Change → List Change → Bool
is_left_out step c cs = goes_on c.key cs || ((step == 0) && is_none (value_of c))

-- the pairs of the sorted changes of a step
abbrev pub step_pairs : ℕ → List Change → List Pair
step_pairs step [] = []
step_pairs step (c ∷ cs) = if is_left_out step c cs then step_pairs step cs else pair_of c ∷ step_pairs step cs
