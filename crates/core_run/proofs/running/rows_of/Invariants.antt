use Rattle.std.proofs.Common.{◌≡◌, ◌++◌, All}
use Rattle.std.specs.Vec.Iter.{into_iter_items}
use Rattle.core_machine.specs.declared.machine.Opening.{Opening}
use Rattle.core_machine.specs.Texts.{IsInForm}
use Rattle.core_run.specs.Running.{openings}
use Rattle.core_run.proofs.running.rows_of.Given as goal

abbrev pub invariant-loop-row : goal.invariant-loop-row
invariant-loop-row l = record {
  can : (goal.iterator-loop-row).can_next l.row-iterator;
  ends : (goal.iterator-loop-row).is_finite l.row-iterator;
  form : All (λ (row : Opening). IsInForm row.names) (into_iter_items l.row-iterator);
  left : openings l.rows.items ++ into_iter_items l.row-iterator ≡ l.fn.opened;
}
