use Rattle.std.proofs.Common.{◌≡◌, None}
use Rattle.bench_rows.proofs.store.filled.Given as goal

abbrev pub invariant-loop-tx : goal.invariant-loop-tx
invariant-loop-tx l = l.hot.told ≡ None
