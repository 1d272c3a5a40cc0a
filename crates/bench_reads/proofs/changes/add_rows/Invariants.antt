use Rattle.std.proofs.Common.{◌≡◌, None}
use Rattle.bench_reads.proofs.changes.add_rows.Given as goal

abbrev pub invariant-loop-time : goal.invariant-loop-time
invariant-loop-time l = l.hot.told ≡ None
