use Rattle.std.proofs.Common.{◌≡◌, ◌+◌, drop}
use Rattle.agg_model.specs.Batch.{content_of}
use Rattle.agg_model.proofs.check.content.Given as goal

abbrev pub invariant-loop-change : goal.invariant-loop-change
invariant-loop-change l = l.total + content_of (drop l.change-index l.change-items) ≡ content_of l.batch
