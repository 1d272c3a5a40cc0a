use Rattle.std.proofs.Common.{◌≡◌, ◌++◌, map, take, drop}
use Rattle.visible_files.specs.Held.{retired_without}
use Rattle.visible_files.proofs.held.retire_others.Given as goal

abbrev pub invariant-loop-group : goal.invariant-loop-group
invariant-loop-group l = l.held ≡ map (retired_without l.ids) (take l.group-index l.initial.held) ++ drop l.group-index l.initial.held
