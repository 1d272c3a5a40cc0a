use Rattle.std.proofs.Common.{◌≡◌, ◌++◌, drop}
use Rattle.agg_model.specs.LastChanges.{step_pairs}
use Rattle.domain_core.proofs.step.pairs_of.Given as goal

abbrev pub invariant-loop-i : goal.invariant-loop-i
invariant-loop-i l = l.pairs ++ step_pairs l.step (drop l.i l.changes) ≡ step_pairs l.step l.changes
