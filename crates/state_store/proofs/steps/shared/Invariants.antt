use Rattle.std.proofs.Common.{◌≡◌, ◌++◌, map}
use Rattle.std.specs.Vec.Iter.{into_iter_items}
use Rattle.std.specs.Arc.{arc_value}
use Rattle.state_store.proofs.steps.shared.Given as goal

abbrev pub invariant-loop-group : goal.invariant-loop-group
invariant-loop-group l = record {
  can : goal.iterator-loop-group.can_next l.group-iterator;
  ends : goal.iterator-loop-group.is_finite l.group-iterator;
  left : map (λ a. arc_value a) l.shared.items ++ into_iter_items l.group-iterator ≡ l.fn.groups;
}
