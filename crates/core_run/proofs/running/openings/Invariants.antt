use Rattle.std.proofs.Common.{◌≡◌, ◌++◌}
use Rattle.std.specs.Vec.Iter.{into_iter_items}
use Rattle.core_run.specs.Running.{openings}
use Rattle.core_run.proofs.running.openings.Given as goal

abbrev pub invariant-loop-row : goal.invariant-loop-row
invariant-loop-row l = record {
  can : (goal.iterator-loop-row).can_next l.row-iterator;
  ends : (goal.iterator-loop-row).is_finite l.row-iterator;
  left : l.opened ++ openings (into_iter_items l.row-iterator) ≡ openings l.fn.rows.items;
}
