use Rattle.std.proofs.Common.{◌≤◌, ◌+◌, List, ℕ, length, Option}
use Rattle.state_store.specs.Store.{Goes}
use Rattle.session_link.specs.State.{State}
use Rattle.agg_session.specs.Served.{IsServed, IsAnswered}
use Rattle.agg_session.proofs.served.Served.answer_lines.Given as goal

abbrev pub invariant-loop : goal.invariant-loop
invariant-loop g l = record {
  sound : IsServed l.limits l.self;
  lines : l.self.lines + length l.self.cut.left ≤ l.initial.self.lines + length l.initial.self.cut.left;
  answered : (start : State) (first : Option (List ℕ)) (text : List ℕ) → IsAnswered g.D.Disk l.limits l.initial.self first (g.O.Sink.bytes l.initial.sink) start text → IsAnswered g.D.Disk l.limits l.self first (g.O.Sink.bytes l.sink) start text;
  goes : Goes g.D.Disk l.initial.self.session.store l.self.session.store;
  written : g.O.Sink.faults l.initial.sink ≤ g.O.Sink.faults l.sink;
}

abbrev pub decreases-loop : goal.decreases-loop
decreases-loop g l = length l.self.cut.left
