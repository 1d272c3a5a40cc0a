-- Changes by entity, and by key, as they stand behind one another.
use Rattle.std.specs.Prelude.{ℕ, ◌==◌, nat_le, nat_lt, Bool, List, [], ◌∷◌, ◌++◌, if◌then◌else◌}
use Rattle.agg_model.specs.declared.change.Change.{Change}
use Rattle.agg_model.specs.declared.contents.Times.{Times}
use Rattle.agg_model.specs.Entity.{entity_number}
use Rattle.agg_model.specs.Contents.{goes_on}

-- the change is one of the entity with this number, or of one behind it, or of either
abbrev pub is_numbered : ℕ → Change → Bool
is_numbered n c = entity_number c.entity == n

abbrev pub is_behind : ℕ → Change → Bool
is_behind n c = nat_lt n (entity_number c.entity)

abbrev pub is_from : ℕ → Change → Bool
is_from n c = nat_le n (entity_number c.entity)

-- each run of changes of one key, with its numbers; these come before those of the first run
abbrev pub runs_from : List ℕ → List Change → List Times
runs_from ns [] = []
runs_from ns (c ∷ cs) =
    if goes_on c.key cs then runs_from (ns ++ c.tx ∷ []) cs
    else record { key = c.key; items = ns ++ c.tx ∷ [] } ∷ runs_from [] cs
