use Rattle.std.proofs.Common.{◌≡◌, ◌-◌, ◌≤◌, [], length}
use Rattle.std.specs.Prelude.{IfSome, IfNone}
use Rattle.window_pages.specs.Starts.{IsStart}
use Rattle.window_pages.proofs.lists.start_in.Given as goal

abbrev pub invariant-loop-low : goal.invariant-loop-low
invariant-loop-low l = record {
  within : l.high ≤ length l.starts;
  start : IfSome l.found (IsStart l.ef.lists l.first);
  none : IfNone l.found (l.ef.lists ≡ []);
}

abbrev pub decreases-loop-low : goal.decreases-loop-low
decreases-loop-low l = l.high - l.low
