use Rattle.std.proofs.Common.{◌≡◌, ◌≤◌, ◌++◌, length, take, List, ℕ, Some, ◌-◌}
use Rattle.agg_session.proofs.writing.put_all.Given as goal

abbrev pub invariant-loop-done : goal.invariant-loop-done
invariant-loop-done g l = record {
  within : l.done ≤ length l.text;
  written : (before : List ℕ) → g.O.Sink.bytes l.initial.sink ≡ Some before → g.O.Sink.bytes l.sink ≡ Some (before ++ take l.done l.text);
  faults : g.O.Sink.faults l.initial.sink ≤ g.O.Sink.faults l.sink;
}

abbrev pub decreases-loop-done : goal.decreases-loop-done
decreases-loop-done g l = length l.text - l.done
