use Rattle.std.proofs.Common.{◌+◌}
use Rattle.agg_model.specs.Pairs.{pair_keys}
use Rattle.domain_core.proofs.Checked.{GoUp}
use Rattle.domain_core.proofs.check.all_go_up.Given as goal

abbrev pub invariant-loop-place : goal.invariant-loop-place
invariant-loop-place l = GoUp (pair_keys l.pairs) (l.place + 1)
