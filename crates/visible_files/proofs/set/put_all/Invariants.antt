use Rattle.std.proofs.Common.{◌≡◌, map}
use Rattle.std.specs.Vec.Iter.{into_iter_items}
use Rattle.std.specs.Arc.{arc_value}
use Rattle.visible_files.specs.Ids.{id_with, places, Rises, all_placed}
use Rattle.visible_files.proofs.set.put_all.Given as goal

abbrev pub invariant-loop-group : goal.invariant-loop-group
invariant-loop-group g l = record {
  can : (goal.iterator-loop-group g).can_next l.group-iterator;
  ends : (goal.iterator-loop-group g).is_finite l.group-iterator;
  left : all_placed (id_with g.G.Group.entity_of g.G.Group.range_of) (map (λ a. arc_value a) (into_iter_items l.group-iterator)) (map (λ a. arc_value a) l.groups.items)
      ≡ all_placed (id_with g.G.Group.entity_of g.G.Group.range_of) (map (λ a. arc_value a) l.fn.added.items) (map (λ a. arc_value a) l.initial.groups.items);
  same : l.ids.items ≡ map (id_with g.G.Group.entity_of g.G.Group.range_of) (map (λ a. arc_value a) l.groups.items);
  order : Rises 0 (places l.ids.items);
}
