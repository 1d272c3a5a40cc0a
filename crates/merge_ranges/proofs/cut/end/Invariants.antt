use Rattle.std.proofs.Common.{◌≡◌, drop}
use Rattle.merge_ranges.specs.Cut.{end_from, end_of}
use Rattle.merge_ranges.proofs.cut.end.Given as goal

abbrev pub invariant-loop-range : goal.invariant-loop-range
invariant-loop-range l = end_from l.end (drop l.range-index l.range-items) ≡ end_of l.cut
