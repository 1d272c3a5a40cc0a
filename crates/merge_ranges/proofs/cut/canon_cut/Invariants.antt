use Rattle.std.proofs.Common.{◌≡◌, ℕ, ◌+◌, ◌-◌, ◌≤◌, ◌++◌}
use Rattle.merge_ranges.specs.Cut.{canon_from, canon}
use Rattle.merge_ranges.proofs.cut.canon_cut.Given as goal

abbrev pub invariant-loop-from : goal.invariant-loop-from
invariant-loop-from l = record {
  within : l.from ≤ l.m;
  left : (most : ℕ) → l.m ≤ l.from + most → l.cut ++ canon_from most l.from l.m ≡ canon l.m;
}

abbrev pub decreases-loop-from : goal.decreases-loop-from
decreases-loop-from l = l.m - l.from
