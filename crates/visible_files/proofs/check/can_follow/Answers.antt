use Rattle.std.proofs.Common.{◌∙◌, map, filter, not, ap}
use Rattle.std.specs.Arc.{arc_value}
use Rattle.visible_files.specs.Ids.{id_with, all_placed, replaced_by, is_covered}
use Rattle.visible_files.proofs.CutTests.{tested-at, passes-at}
use Rattle.visible_files.proofs.check.can_follow.Goals as goal

pub returns-clause-cuts : goal.returns-clause-cuts
returns-clause-cuts g c =
    let id_of = id_with g.G.Group.entity_of g.G.Group.range_of in
    let S = c.args.set.now.groups in
    let A = map (λ a. arc_value a) c.args.added.now in
    let kept = c.in_ok-groups.ensures.groups ∙ ap (λ l. filter (λ x. not (is_covered l (id_of x))) S) (c.deref.ensures.value ∙ c.in_ok-covering.ensures) in
    let made = c.in_ok-put_all.ensures.same ∙ ap (map id_of) (c.in_ok-put_all.ensures.groups ∙ (λ i. all_placed id_of (c.in_ok-copies.ensures i) (kept i))) in
    tested-at c.as_slice.result.now c.put_all.new.ids.items (map id_of (replaced_by id_of S A)) c.args.end c.are_all_cuts.result c.are_all_cuts.ensures c.as_slice.ensures.value made

pub returns-clause-only : goal.returns-clause-only
returns-clause-only g c =
    let id_of = id_with g.G.Group.entity_of g.G.Group.range_of in
    let S = c.args.set.now.groups in
    let A = map (λ a. arc_value a) c.args.added.now in
    let kept = c.in_ok-groups.ensures.groups ∙ ap (λ l. filter (λ x. not (is_covered l (id_of x))) S) (c.deref.ensures.value ∙ c.in_ok-covering.ensures) in
    let made = c.in_ok-put_all.ensures.same ∙ ap (map id_of) (c.in_ok-put_all.ensures.groups ∙ (λ i. all_placed id_of (c.in_ok-copies.ensures i) (kept i))) in
    passes-at c.as_slice.result.now c.put_all.new.ids.items (map id_of (replaced_by id_of S A)) c.args.end c.are_all_cuts.result c.are_all_cuts.ensures c.as_slice.ensures.value made
