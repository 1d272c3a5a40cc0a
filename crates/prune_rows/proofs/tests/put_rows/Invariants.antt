use Rattle.std.proofs.Common.{◌≡◌, None}
use Rattle.prune_rows.proofs.tests.put_rows.Given as goal

abbrev pub invariant-loop-tx : goal.invariant-loop-tx
invariant-loop-tx l = l.hot.told ≡ None
