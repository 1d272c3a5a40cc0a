use Rattle.std.proofs.Common.{◌≡◌, map, take}
use Rattle.std.specs.Arc.{arc_value}
use Rattle.visible_files.proofs.set.copies.Given as goal

abbrev pub invariant-loop-group : goal.invariant-loop-group
invariant-loop-group g l = map (λ a. arc_value a) l.copies.items ≡ map (λ a. arc_value a) (take l.group-index l.groups)
