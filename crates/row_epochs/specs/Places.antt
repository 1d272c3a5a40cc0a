-- Where a look at rows begins, and where the next one goes on.
use Rattle.std.specs.Prelude.{ℕ, ◌+◌, ◌-◌, nat_lt, if◌then◌else◌, List, [], length, map, Option, Some, None, slice_get}
use Rattle.std.specs.Option.{option_map}
use Rattle.agg_outside.specs.declared.rows.RowId.{RowId}
use Rattle.agg_outside.specs.declared.rows.Row.{Row}
use Rattle.agg_model.specs.declared.entity.Entity.{Entity}
use Rattle.agg_model.specs.Entity.{entity_number}

-- the first id behind one
abbrev pub behind : RowId → RowId
behind id = record id { born = id.born + 1 }

-- before all rows of the entity and key from this number on
abbrev pub place_at : Entity → List ℕ → ℕ → RowId
place_at e k n = record { entity = entity_number e; key = k; tx = n; born = 0 }

-- before all rows
abbrev pub first_place : RowId
first_place = record { entity = 0; key = []; tx = 0; born = 0 }

-- where to go on behind a piece of rows; nowhere where it isn't full
abbrev pub next_piece : ℕ → List Row → Option RowId
next_piece size piece =
    if nat_lt (length piece) size then None else option_map (λ row. behind row.id) (slice_get piece (length piece - 1))

abbrev pub ids_of : List Row → List RowId
ids_of rows = map (λ row. row.id) rows
