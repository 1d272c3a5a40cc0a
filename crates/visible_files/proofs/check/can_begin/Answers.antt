use Rattle.std.proofs.Common.{◌∙◌, map, ap}
use Rattle.std.specs.Arc.{arc_value}
use Rattle.visible_files.specs.Ids.{id_with, all_placed, in_order}
use Rattle.visible_files.proofs.CutTests.{tested-at, passes-at}
use Rattle.visible_files.proofs.check.can_begin.Goals as goal

pub returns-clause-cuts : goal.returns-clause-cuts
returns-clause-cuts g c =
    let id_of = id_with g.G.Group.entity_of g.G.Group.range_of in
    let A = map (λ a. arc_value a) c.args.groups.now in
    let made = c.in_ok-put_all.ensures.same ∙ ap (map id_of) (c.in_ok-put_all.ensures.groups ∙ (λ i. all_placed id_of (c.in_ok-added.ensures i) (map (λ a. arc_value a) (c.new-all.ensures.items i)))) in
    tested-at c.as_slice.result.now c.put_all.new.ids.items (map id_of (in_order id_of A)) c.args.end c.are_all_cuts.result c.are_all_cuts.ensures c.as_slice.ensures.value made

pub returns-clause-only : goal.returns-clause-only
returns-clause-only g c =
    let id_of = id_with g.G.Group.entity_of g.G.Group.range_of in
    let A = map (λ a. arc_value a) c.args.groups.now in
    let made = c.in_ok-put_all.ensures.same ∙ ap (map id_of) (c.in_ok-put_all.ensures.groups ∙ (λ i. all_placed id_of (c.in_ok-added.ensures i) (map (λ a. arc_value a) (c.new-all.ensures.items i)))) in
    passes-at c.as_slice.result.now c.put_all.new.ids.items (map id_of (in_order id_of A)) c.args.end c.are_all_cuts.result c.are_all_cuts.ensures c.as_slice.ensures.value made
