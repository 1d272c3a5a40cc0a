-- What files hold, by a walk over the sorted changes of their steps.
use Rattle.std.specs.Prelude.{ℕ, nat_eq, List, [], ◌∷◌, map, Option, Some, None, if◌then◌else◌}
use Rattle.std.specs.List.{filter}
use Rattle.std.specs.Cmp.Lexicographic.{pointwise}
use Rattle.agg_model.specs.declared.change.Change.{Change}
use Rattle.agg_model.specs.declared.contents.Before.{Before}
use Rattle.agg_model.specs.declared.contents.Times.{Times}
use Rattle.agg_model.specs.ChangeList.{value_of}
use Rattle.agg_model.specs.Contents.{keys_of, word_of}

-- the value of a key behind a change: what that left, where it is one of the key, and else what was found before
-- the steps
abbrev pub value_behind : (List ℕ → Option (List ℕ)) → Option Change → List ℕ → Option (List ℕ)
value_behind found None k = found k
value_behind found (Some c) k = if pointwise nat_eq c.key k then value_of c else found k

-- each of the sorted changes with the value just before it, where this change stands before them
abbrev pub befores_behind : (List ℕ → Option (List ℕ)) → Option Change → List Change → List Before
befores_behind found last [] = []
befores_behind found last (c ∷ cs) =
    record { key = c.key; tx = c.tx; value = word_of (value_behind found last c.key) }
    ∷ befores_behind found (Some c) cs

-- the numbers of a key among sorted changes
abbrev pub numbers_among : List Change → List ℕ → Times
numbers_among rows k = record { key = k; items = map (λ c. c.tx) (filter (λ c. pointwise nat_eq c.key k) rows) }

-- the keys of sorted changes, each with its numbers
abbrev pub lists_among : List Change → List Times
lists_among rows = map (numbers_among rows) (keys_of rows)
