use Rattle.std.proofs.Common.{◌∙◌, ap, map, filter, not}
use Rattle.std.proofs.lemmas.List.{take_all}
use Rattle.std.specs.Arc.{arc_value}
use Rattle.visible_files.specs.Ids.{id_with, is_covered}
use Rattle.visible_files.proofs.Puts.{filtered-order}
use Rattle.visible_files.proofs.set.uncovered.Goals as goal

pub returns-clause-order : goal.returns-clause-order
returns-clause-order g c =
    let id_of = id_with g.G.Group.entity_of g.G.Group.range_of in
    let p = λ (x : g.row.G.Denot). not (is_covered c.args.added.now (id_of x)) in
    let set = c.groups-group-items.ensures.set in
    filtered-order id_of p c.args.set.now.groups _ c.args.set.now.ids set.same set.set.order
    (c.loop-group.invariant ∙ ap (λ l. filter p (map (λ a. arc_value a) l)) (take_all c.loop-group.group-index c.groups-group-items.result.now c.loop-group-test.false) ∙ ap (filter p) c.groups-group-items.ensures.value)
