use Rattle.std.proofs.Common.{◌≡◌, ◌≤◌, Some}
use Rattle.agg_outside.specs.Rows.{Held, rows_from}
use Rattle.row_epochs.specs.Kills.{kills_in, noted}
use Rattle.row_epochs.proofs.killed.kills_of_all.Given as goal

abbrev pub invariant-loop-piece : goal.invariant-loop-piece
invariant-loop-piece g l = record {
  held : g.K.Keeper.held l.keeper ≡ g.K.Keeper.held l.initial.keeper;
  faults : g.K.Keeper.faults l.initial.keeper ≤ g.K.Keeper.faults l.keeper;
  left : (h : Held) → g.K.Keeper.held l.initial.keeper ≡ Some h → noted l.kills.entries (rows_from l.place h.rows) ≡ kills_in h.rows;
}
