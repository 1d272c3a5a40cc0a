use Rattle.std.proofs.Common.{◌≡◌, ◌≤◌, Some}
use Rattle.agg_outside.specs.Rows.{Held}
use Rattle.hot_keeper.specs.Pruning.{low_rows}
use Rattle.hot_keeper.specs.ReadAhead.{IsAhead}
use Rattle.hot_keeper.proofs.pieces.read_on.Given as goal

abbrev pub invariant-loop-piece : goal.invariant-loop-piece
invariant-loop-piece g l = record {
  told : l.rows.told ≡ l.initial.rows.told;
  epoch : l.rows.epoch ≡ l.initial.rows.epoch;
  faults : l.initial.rows.faults ≤ l.rows.faults;
  left : (h : Held) → l.initial.rows.told ≡ Some h → IsAhead l.ids.items l.place (low_rows l.tx h.rows);
}
