use Rattle.std.proofs.Common.{length}
use Rattle.collate_step.proofs.befores.+befores_beside+fn-befores_beside-join+arg2+fn-befores_beside-join+arg3.Given as goal

abbrev pub decreases-befores_beside : goal.decreases-befores_beside
decreases-befores_beside g l = length l.changes.now

abbrev pub decreases-join+arg2 : goal.decreases-join+arg2
decreases-join+arg2 g l = length l.first.now

abbrev pub decreases-join+arg3 : goal.decreases-join+arg3
decreases-join+arg3 g l = length l.second.now
