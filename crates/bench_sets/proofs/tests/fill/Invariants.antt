use Rattle.std.proofs.Common.{◌+◌, ◌≤◌}
use Rattle.bench_sets.proofs.tests.fill.Given as goal

abbrev pub invariant-loop-to : goal.invariant-loop-to
invariant-loop-to l = 15 ≤ l.sets.spare + l.to
