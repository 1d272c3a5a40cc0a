use Rattle.std.proofs.Common.{◌≡◌, ℕ, ◌+◌, ◌-◌, ◌≤◌, find}
use Rattle.merge_ranges.specs.Cut.{canon_from, is_to_merge, next_merge_of}
use Rattle.merge_ranges.proofs.cut.next_merge.Given as goal

abbrev pub invariant-loop-from : goal.invariant-loop-from
invariant-loop-from l = record {
  within : l.from ≤ l.end;
  left : (most : ℕ) → l.end ≤ l.from + most → find (is_to_merge l.cut l.busy) (canon_from most l.from l.end) ≡ next_merge_of l.cut l.busy;
}

abbrev pub decreases-loop-from : goal.decreases-loop-from
decreases-loop-from l = l.end - l.from
