use Rattle.std.proofs.Common.{map, ap, ◌∙◌, sym}
use Rattle.std.specs.Vec.Iter.{into_iter_items}
use Rattle.std.specs.Arc.{arc_value}
use Rattle.visible_files.specs.Ids.{id_with, all_placed}
use Rattle.visible_files.proofs.set.put_all.Goals as goal

pub loop-group-preserved : goal.loop-group-preserved
loop-group-preserved g c =
    let id_of = id_with g.G.Group.entity_of g.G.Group.range_of in
    record {
      can = tt;
      ends = tt;
      left =
          ap (λ l. all_placed id_of (map (λ a. arc_value a) (into_iter_items c.next.new.self)) l) c.in_ok-put.ensures.groups
          ∙ ap (λ l. all_placed id_of (map (λ a. arc_value a) l) (map (λ a. arc_value a) c.loop-group.groups.items)) (sym c.in-Some.ensures.steps.0)
          ∙ c.loop-group.invariant.left;
      same = c.in_ok-put.ensures.same;
      order = c.in_ok-put.ensures.order;
    }
