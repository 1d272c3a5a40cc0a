use Rattle.std.proofs.Common.{◌≡◌, ◌++◌}
use Rattle.std.specs.List.{filter}
use Rattle.std.specs.Vec.Iter.{into_iter_items}
use Rattle.row_epochs.specs.Places.{ids_of}
use Rattle.hot_keeper.specs.Pruning.{has_low_number}
use Rattle.hot_keeper.proofs.pieces.note_below.Given as goal

-- the ids so far and those of the rows that are left are all
abbrev pub invariant-loop-row : goal.invariant-loop-row
invariant-loop-row l = record {
  can : (goal.iterator-loop-row).can_next l.row-iterator;
  ends : (goal.iterator-loop-row).is_finite l.row-iterator;
  left : l.ids.items ++ ids_of (filter (has_low_number l.tx) (into_iter_items l.row-iterator)) ≡ l.fn.ids.items ++ ids_of (filter (has_low_number l.tx) l.fn.piece);
}
