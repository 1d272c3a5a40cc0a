-- The alive rows with low numbers that are read ahead of the prunes that kill them.
use Rattle.std.specs.Prelude.{◌≡◌, ℕ, ◌++◌, List, [], Option, Some, None, IfSome}
use Rattle.agg_outside.specs.declared.rows.RowId.{RowId}
use Rattle.agg_outside.specs.declared.rows.Row.{Row}
use Rattle.agg_outside.specs.Rows.{rows_from}
use Rattle.row_epochs.specs.Places.{ids_of}
use Rattle.hot_keeper.specs.declared.ahead.ReadAhead.{ReadAhead}
use Rattle.hot_keeper.specs.Pruning.{low_rows}

-- the rows from a place on; none where there is no place
abbrev pub rest_from : Option RowId → List Row → List Row
rest_from None rows = []
rest_from (Some place) rows = rows_from place rows

-- the ids are those of the first rows, and the others are from the place on
abbrev pub IsAhead : List RowId → Option RowId → List Row → Type 0
IsAhead ids place rows = ids ++ ids_of (rest_from place rows) ≡ ids_of rows

-- what was read ahead is so of the alive rows with low numbers, where anything was
abbrev pub AreAhead : Option ReadAhead → List Row → Type 0
AreAhead ahead rows = IfSome ahead (λ a. IsAhead a.ids.items a.place (low_rows a.tx rows))
