use Rattle.std.proofs.Common.{◌≡◌, ◌++◌, [], drop}
use Rattle.collate_step.specs.Runs.{runs_from}
use Rattle.collate_step.proofs.lists.step_lists.Given as goal

abbrev pub invariant-loop-i : goal.invariant-loop-i
invariant-loop-i l = l.lists ++ runs_from l.items (drop l.i l.changes) ≡ runs_from [] l.changes
