use Rattle.std.proofs.Common.{◌≡◌, ◌≤◌, length, take}
use Rattle.std.specs.List.{filter}
use Rattle.hot_keeper.specs.Pruning.{has_low_number}
use Rattle.hot_keeper.proofs.pieces.count_in.Given as goal

abbrev pub invariant-loop-row : goal.invariant-loop-row
invariant-loop-row l = record {
  small : l.count ≤ l.row-index;
  counted : l.count ≡ length (filter (has_low_number l.tx) (take l.row-index l.row-items));
}
