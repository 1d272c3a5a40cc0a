use Rattle.std.proofs.Common.{◌≡◌, drop}
use Rattle.merge_ranges.specs.Cut.{contains_range}
use Rattle.merge_ranges.proofs.cut.contains.Given as goal

abbrev pub invariant-loop-other : goal.invariant-loop-other
invariant-loop-other l = contains_range (drop l.other-index l.other-items) l.range ≡ contains_range l.cut l.range
