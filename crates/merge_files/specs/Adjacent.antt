-- Which of groups doesn't go on where the one before it ended, and what adjoining groups hold.
use Rattle.std.specs.Prelude.{ℕ, ◌+◌, ◌==◌, ◌&&◌, Bool, true, List, [], ◌∷◌, if◌then◌else◌, Option, Some, None, unwrap_or}
use Rattle.std.specs.Option.{option_map}
use Rattle.agg_model.specs.declared.entity.Entity.{Entity}
use Rattle.agg_model.specs.declared.entity.Range.{Range}
use Rattle.agg_model.specs.declared.contents.Before.{Before}
use Rattle.agg_model.specs.declared.contents.Times.{Times}
use Rattle.agg_model.specs.Entity.{entity_number}
use Rattle.collate_step.specs.Groups.{GroupFiles}

-- the group is of the entity and begins at one step; where it is the last, it ends at the other
abbrev pub ends_well : ℕ → GroupFiles → List GroupFiles → Bool
ends_well to g [] = g.range.to == to
ends_well to g (h ∷ hs) = true

abbrev pub goes_on : Entity → ℕ → ℕ → GroupFiles → List GroupFiles → Bool
goes_on e from to g gs = (entity_number g.entity == entity_number e) && ((g.range.from == from) && ends_well to g gs)

-- the place of the first, counted from i on, that doesn't go on
abbrev pub gap_from : Entity → ℕ → ℕ → ℕ → List GroupFiles → Option ℕ
gap_from e to from i [] = None
gap_from e to from i (g ∷ gs) = if goes_on e from to g gs then gap_from e to g.range.to (i + 1) gs else Some i

-- of groups that should be one over the range; no group doesn't do
abbrev pub first_gap : List GroupFiles → Range → Option ℕ
first_gap [] r = Some 0
first_gap (g ∷ gs) r = gap_from g.entity r.to r.from 0 (g ∷ gs)

-- the values before changes, and the numbers, of a group
abbrev pub befores_of : GroupFiles → List Before
befores_of g = unwrap_or (option_map (λ f. f.befores) g.v) []

abbrev pub lists_of : GroupFiles → List Times
lists_of g = g.ef.lists
