use Rattle.std.proofs.Common.{◌≤◌, ◌+◌}
use Rattle.session_link.specs.Running.{IsSession}
use Rattle.session_link.proofs.tests.replies_over.Given as goal

abbrev pub invariant-loop-line : goal.invariant-loop-line
invariant-loop-line g l = record {
  can : (goal.iterator-loop-line g).can_next l.line-iterator;
  ends : (goal.iterator-loop-line g).is_finite l.line-iterator;
  sound : IsSession l.limits l.session;
  opens : l.session.link.opens ≤ l.number;
  epoch : l.session.store.hot.epoch ≤ l.number + 1;
  most : l.number ≤ 60;
}
