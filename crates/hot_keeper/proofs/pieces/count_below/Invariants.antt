use Rattle.std.proofs.Common.{◌≡◌, ◌≤◌, ◌+◌, length, Some}
use Rattle.agg_outside.specs.Rows.{Held, rows_from}
use Rattle.row_epochs.specs.Seen.{seen}
use Rattle.hot_keeper.proofs.PieceLaws.{low}
use Rattle.hot_keeper.proofs.pieces.count_below.Given as goal

abbrev pub invariant-loop-piece : goal.invariant-loop-piece
invariant-loop-piece g l = record {
  told : l.rows.told ≡ l.initial.rows.told;
  epoch : l.rows.epoch ≡ l.initial.rows.epoch;
  faults : l.initial.rows.faults ≤ l.rows.faults;
  left : (h : Held) → l.initial.rows.told ≡ Some h → l.count + length (low l.tx (rows_from l.place (seen l.present h.rows))) ≡ length (low l.tx (seen l.present h.rows));
}
