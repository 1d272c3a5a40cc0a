use Rattle.std.proofs.Common.{◌≡◌, map, take}
use Rattle.visible_files.specs.Held.{visible_group}
use Rattle.visible_files.proofs.held.all_visible.Given as goal

abbrev pub invariant-loop-id : goal.invariant-loop-id
invariant-loop-id l = l.held.items ≡ map visible_group (take l.id-index l.ids)
