-- The rows of a tree: each id has what its row has besides it.
use Rattle.std.specs.Prelude.{Bool, true, false, if◌then◌else◌, List, [], ◌∷◌}
use Rattle.agg_outside.specs.declared.rows.RowId.{RowId}
use Rattle.agg_outside.specs.declared.rows.Row.{Row}
use Rattle.agg_outside.specs.declared.rows.RowWrite.{RowWrite}
use Rattle.agg_outside.specs.declared.rows.RowWrite.TheVariants.{Insert, Kill, Remove, Floor}
use Rattle.agg_outside.specs.Rows.{is_before}
use Rattle.memory_side.specs.declared.row_body.RowBody.{RowBody}

-- the row with this id and body
abbrev pub row_with : RowId → RowBody → Row
row_with id body = record { id = id; killed = body.killed; act = body.act; value = body.value }

-- what a row has besides its id
abbrev pub body_of : Row → RowBody
body_of row = record { killed = row.killed; act = row.act; value = row.value }

abbrev pub rows_of : List (RowId × RowBody) → List Row
rows_of [] = []
rows_of (slot ∷ slots) = row_with slot.0 slot.1 ∷ rows_of slots

-- whether a write adds a row or sets the floor
abbrev pub adds : RowWrite → Bool
adds (Insert row) = true
adds (Kill id epoch) = false
adds (Remove id) = false
adds (Floor step) = true

-- whether a write adds no row
abbrev pub spares : RowWrite → Bool
spares (Insert row) = false
spares (Kill id epoch) = true
spares (Remove id) = true
spares (Floor step) = true

-- whether the keys of slots ascend strictly
abbrev pub after_all : RowId → List (RowId × RowBody) → Bool
after_all id [] = true
after_all id (slot ∷ slots) = if is_before id slot.0 then after_all id slots else false

abbrev pub slots_ascend : List (RowId × RowBody) → Bool
slots_ascend [] = true
slots_ascend (slot ∷ slots) = if after_all slot.0 slots then slots_ascend slots else false
