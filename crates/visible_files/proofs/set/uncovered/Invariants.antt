use Rattle.std.proofs.Common.{◌≡◌, map, take, filter, not}
use Rattle.std.specs.Arc.{arc_value}
use Rattle.visible_files.specs.Ids.{id_with, is_covered}
use Rattle.visible_files.proofs.set.uncovered.Given as goal

abbrev pub invariant-loop-group : goal.invariant-loop-group
invariant-loop-group g l =
    map (λ a. arc_value a) l.groups.items
    ≡ filter (λ x. not (is_covered l.added (id_with g.G.Group.entity_of g.G.Group.range_of x))) (map (λ a. arc_value a) (take l.group-index l.group-items))
