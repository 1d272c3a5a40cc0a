use Rattle.std.proofs.Common.{◌+◌}
use Rattle.history_core.proofs.Climbs.{GoUp}
use Rattle.history_core.proofs.befores.all_go_up.Given as goal

abbrev pub invariant-loop-place : goal.invariant-loop-place
invariant-loop-place l = GoUp l.rows (l.place + 1)
