use Rattle.std.proofs.Common.{ℕ, ◌-◌, ◌<◌, ◌≤◌}
use Rattle.elias_fano.specs.Reading.{item_at}
use Rattle.elias_fano.proofs.finding.first_in.Given as goal

abbrev pub invariant-loop-low : goal.invariant-loop-low
invariant-loop-low l = record {
  from : l.start ≤ l.low;
  order : l.low ≤ l.top;
  within : l.top ≤ l.end;
  below : (i : ℕ) → l.start ≤ i → i < l.low → item_at l.parts i < l.at;
  above : (i : ℕ) → l.top ≤ i → i < l.end → l.at ≤ item_at l.parts i;
}

abbrev pub decreases-loop-low : goal.decreases-loop-low
decreases-loop-low l = l.top - l.low
