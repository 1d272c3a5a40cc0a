use Rattle.std.proofs.Common.{◌≡◌, ◌++◌, map, take, drop}
use Rattle.visible_files.specs.Held.{raised}
use Rattle.visible_files.proofs.held.pin_visible.Given as goal

abbrev pub invariant-loop-group : goal.invariant-loop-group
invariant-loop-group l = l.held ≡ map raised (take l.group-index l.initial.held) ++ drop l.group-index l.initial.held
