use Rattle.std.proofs.Common.{◌≡◌}
use Rattle.std.specs.Vec.Iter.{into_iter_items}
use Rattle.row_epochs.specs.Kills.{noted}
use Rattle.row_epochs.proofs.killed.note_piece.Given as goal

-- the notes so far with those of the rows that are left are all
abbrev pub invariant-loop-row : goal.invariant-loop-row
invariant-loop-row l = record {
  can : (goal.iterator-loop-row).can_next l.row-iterator;
  ends : (goal.iterator-loop-row).is_finite l.row-iterator;
  left : noted l.kills.entries (into_iter_items l.row-iterator) ≡ noted l.fn.kills.entries l.fn.piece;
}
