use Rattle.std.proofs.Common.{◌≡◌, drop}
use Rattle.merge_ranges.specs.Cut.{first_fit, size_at}
use Rattle.merge_ranges.proofs.cut.longest.Given as goal

abbrev pub invariant-loop-size : goal.invariant-loop-size
invariant-loop-size l = first_fit l.from l.end (drop l.size-index l.size-items) ≡ size_at l.from l.end
