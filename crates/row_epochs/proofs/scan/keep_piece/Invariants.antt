use Rattle.std.proofs.Common.{◌≡◌, ◌≤◌, ◌++◌, length, take}
use Rattle.std.specs.Vec.Iter.{into_iter_items}
use Rattle.row_epochs.specs.Seen.{seen}
use Rattle.row_epochs.proofs.scan.keep_piece.Given as goal

-- what is found so far and in the rows that are left is what is found in all
abbrev pub invariant-loop-row : goal.invariant-loop-row
invariant-loop-row l = record {
  can : (goal.iterator-loop-row).can_next l.row-iterator;
  ends : (goal.iterator-loop-row).is_finite l.row-iterator;
  short : length l.found ≤ l.limit;
  left : take l.limit (l.found ++ seen l.epoch (into_iter_items l.row-iterator)) ≡ take l.limit (l.fn.found ++ seen l.epoch l.fn.piece);
}
