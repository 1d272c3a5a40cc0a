use Rattle.std.proofs.Common.{ℕ, ◌<◌, get_or}
use Rattle.agg_model.specs.declared.contents.Pair.{Pair}
use Rattle.agg_model.specs.Pairs.{IsPair}
use Rattle.domain_core.proofs.check.all_fit.Given as goal

abbrev pub invariant-loop-pair : goal.invariant-loop-pair
invariant-loop-pair l = (k : ℕ) (d : Pair) → k < l.pair-index → IsPair (get_or l.pairs k d)
