use Rattle.std.proofs.Common.{ap, ◌∙◌}
use Rattle.std.specs.Arc.{arc_value}
use Rattle.visible_files.specs.declared.ids.GroupId.{GroupId}
use Rattle.visible_files.specs.Ids.{id_with}
use Rattle.visible_files.proofs.Puts.{put-groups, put-ids, put-order}
use Rattle.visible_files.proofs.set.put.Goals as goal

pub returns-clause-groups : goal.returns-clause-groups
returns-clause-groups g c =
    let e = c.entity.ensures ∙ ap g.G.Group.entity_of c.deref.ensures in
    let r = c.range.ensures ∙ ap g.G.Group.range_of c.deref-2.ensures in
    let id_of = id_with g.G.Group.entity_of g.G.Group.range_of in
    put-groups (λ a. arc_value a) id_of c.args.groups.now.items c.insert.new.self.items c.args.ids.now.items c.as_slice.result.now c.args.group _ c.place_among-at.result c.requires.same c.as_slice.ensures.value
    (λ i. let id : GroupId = record { entity = e i; range = r i } in id) c.place_among-at.ensures c.in_ok-insert.ensures.items

pub returns-clause-same : goal.returns-clause-same
returns-clause-same g c =
    let e = c.entity.ensures ∙ ap g.G.Group.entity_of c.deref.ensures in
    let r = c.range.ensures ∙ ap g.G.Group.range_of c.deref-2.ensures in
    let id_of = id_with g.G.Group.entity_of g.G.Group.range_of in
    put-ids (λ a. arc_value a) id_of c.args.groups.now.items c.insert.new.self.items c.args.ids.now.items c.insert-2.new.self.items c.args.group _ c.place_among-at.result c.requires.same
    (λ i. let id : GroupId = record { entity = e i; range = r i } in id) c.in_ok-insert.ensures.items c.in_ok-insert-2.ensures.items

pub returns-clause-order : goal.returns-clause-order
returns-clause-order g c =
    put-order c.args.ids.now.items c.as_slice.result.now c.insert-2.new.self.items _ c.place_among-at.result c.as_slice.ensures.value c.requires.order c.place_among-at.ensures c.in_ok-insert-2.ensures.items
