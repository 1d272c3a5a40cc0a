use Rattle.std.proofs.Common.{length}
use Rattle.recsplit_index.proofs.parts.+fn-parts_side_by_side-join+arg2+fn-parts_side_by_side-join+arg3+parts_side_by_side.Given as goal

abbrev pub decreases-join+arg2 : goal.decreases-join+arg2
decreases-join+arg2 g l = length l.front.now

abbrev pub decreases-join+arg3 : goal.decreases-join+arg3
decreases-join+arg3 g l = length l.behind.now

abbrev pub decreases-parts_side_by_side : goal.decreases-parts_side_by_side
decreases-parts_side_by_side g l = length l.groups.now
