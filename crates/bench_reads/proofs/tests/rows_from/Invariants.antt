use Rattle.std.proofs.Common.{◌≡◌, None}
use Rattle.bench_reads.proofs.tests.rows_from.Given as goal

abbrev pub invariant-loop-change : goal.invariant-loop-change
invariant-loop-change l = l.hot.told ≡ None
