use Rattle.std.proofs.Common.{◌≡◌, map, take}
use Rattle.std.specs.Arc.{arc_value}
use Rattle.collate_step.specs.Groups.{groups_for}
use Rattle.collate_step.proofs.earlier.groups_of.Given as goal

abbrev pub invariant-loop-group : goal.invariant-loop-group
invariant-loop-group l = map (λ g. arc_value g) l.own.items ≡ groups_for l.entity (map (λ g. arc_value g) (take l.group-index l.groups))
