use Rattle.std.proofs.Common.{◌≡◌, take}
use Rattle.core_run.proofs.batches.copy_batch.Given as goal

abbrev pub invariant-loop-change : goal.invariant-loop-change
invariant-loop-change l = l.copies ≡ take l.change-index l.change-items
