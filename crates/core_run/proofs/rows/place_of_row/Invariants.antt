use Rattle.core_run.proofs.RowPlaces.{ArePassed}
use Rattle.core_run.proofs.rows.place_of_row.Given as goal

abbrev pub invariant-loop-i : goal.invariant-loop-i
invariant-loop-i l = ArePassed l.caller l.number l.i l.rows
