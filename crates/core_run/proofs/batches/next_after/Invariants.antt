use Rattle.std.proofs.Common.{◌≡◌, drop}
use Rattle.agg_model.specs.ChangeList.{next_of}
use Rattle.core_run.proofs.batches.next_after.Given as goal

abbrev pub invariant-loop-change : goal.invariant-loop-change
invariant-loop-change l = next_of l.after (drop l.change-index l.change-items) ≡ next_of l.next l.batch
