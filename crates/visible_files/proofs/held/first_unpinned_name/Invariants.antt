use Rattle.std.proofs.Common.{◌≡◌, drop}
use Rattle.visible_files.specs.Held.{first_free}
use Rattle.visible_files.proofs.held.first_unpinned_name.Given as goal

abbrev pub invariant-loop-group : goal.invariant-loop-group
invariant-loop-group l = first_free (drop l.group-index l.held) ≡ first_free l.held
