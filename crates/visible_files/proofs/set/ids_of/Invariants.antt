use Rattle.std.proofs.Common.{◌≡◌, map, take}
use Rattle.std.specs.Arc.{arc_value}
use Rattle.visible_files.specs.Ids.{id_with}
use Rattle.visible_files.proofs.set.ids_of.Given as goal

abbrev pub invariant-loop-group : goal.invariant-loop-group
invariant-loop-group g l = l.ids.items ≡ map (id_with g.G.Group.entity_of g.G.Group.range_of) (map (λ a. arc_value a) (take l.group-index l.groups))
