use Rattle.std.proofs.Common.{◌≡◌, ◌++◌}
use Rattle.core_run.proofs.names.list_of.Given as goal

abbrev pub invariant-loop-name : goal.invariant-loop-name
invariant-loop-name l = record {
  can : (goal.iterator-loop-name).can_next l.name-iterator;
  ends : (goal.iterator-loop-name).is_finite l.name-iterator;
  left : l.names ++ l.name-iterator ≡ l.fn.set.keys;
}
