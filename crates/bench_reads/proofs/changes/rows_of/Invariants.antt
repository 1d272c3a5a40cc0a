use Rattle.std.proofs.Common.{◌≡◌, None}
use Rattle.bench_reads.proofs.changes.rows_of.Given as goal

abbrev pub invariant-loop-key : goal.invariant-loop-key
invariant-loop-key l = l.hot.told ≡ None
