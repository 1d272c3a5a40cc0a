use Rattle.std.proofs.Common.{◌≡◌, None}
use Rattle.prune_rows.proofs.tests.prune_to_200.Given as goal

abbrev pub invariant-loop-round : goal.invariant-loop-round
invariant-loop-round l = l.hot.told ≡ None
