use Rattle.std.proofs.Common.{ℕ, ◌<◌, get_or}
use Rattle.agg_model.specs.declared.contents.Before.{Before}
use Rattle.history_core.specs.Befores.{IsBefore}
use Rattle.history_core.proofs.befores.all_fit.Given as goal

abbrev pub invariant-loop-row : goal.invariant-loop-row
invariant-loop-row l = (k : ℕ) (d : Before) → k < l.row-index → IsBefore l.tag (get_or l.rows k d)
