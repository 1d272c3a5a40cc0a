use Rattle.std.proofs.Common.{◌≡◌, ◌≤◌, ◌++◌, length, take, Some}
use Rattle.agg_outside.specs.Rows.{Held, rows_from}
use Rattle.row_epochs.specs.Seen.{seen}
use Rattle.row_epochs.proofs.scan.some_seen.Given as goal

abbrev pub invariant-loop-piece : goal.invariant-loop-piece
invariant-loop-piece g l = record {
  held : g.K.Keeper.held l.keeper ≡ g.K.Keeper.held l.initial.keeper;
  faults : g.K.Keeper.faults l.initial.keeper ≤ g.K.Keeper.faults l.keeper;
  short : length l.found ≤ l.limit;
  some : 1 ≤ l.limit → 1 ≤ l.size;
  small : l.size ≤ 256;
  left : (h : Held) → g.K.Keeper.held l.initial.keeper ≡ Some h → take l.limit (l.found ++ seen l.epoch (rows_from l.place h.rows)) ≡ take l.limit (seen l.epoch (rows_from l.from h.rows));
}
