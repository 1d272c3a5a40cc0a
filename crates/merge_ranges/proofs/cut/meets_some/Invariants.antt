use Rattle.std.proofs.Common.{◌≡◌, drop}
use Rattle.merge_ranges.specs.Cut.{meets_any}
use Rattle.merge_ranges.proofs.cut.meets_some.Given as goal

abbrev pub invariant-loop-other : goal.invariant-loop-other
invariant-loop-other l = meets_any (drop l.other-index l.other-items) l.range ≡ meets_any l.busy l.range
