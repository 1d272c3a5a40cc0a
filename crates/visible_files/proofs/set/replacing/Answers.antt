use Rattle.std.proofs.Common.{◌∙◌, ap, sym, subst, map, filter, not, List}
use Rattle.std.specs.Arc.{arc_value}
use Rattle.visible_files.specs.declared.ids.GroupId.{GroupId}
use Rattle.visible_files.specs.Ids.{id_with, is_covered, all_placed, places, Rises, AreCuts, Replaces, replaced_by}
use Rattle.visible_files.proofs.Puts.{replaces-made}
use Rattle.visible_files.proofs.set.replacing.Goals as goal

pub put_all-requires-clause-order : goal.put_all-requires-clause-order
put_all-requires-clause-order g c =
    let id_of = id_with g.G.Group.entity_of g.G.Group.range_of in
    subst (λ (l : List GroupId). Rises 0 (places l)) (sym (c.in_ok-ids.ensures ∙ ap (λ l. map id_of (map (λ a. arc_value a) l)) c.deref-3.ensures.value)) c.in_ok-groups.ensures.order

pub made-requires-clause-cuts : goal.made-requires-clause-cuts
made-requires-clause-cuts g c =
    let id_of = id_with g.G.Group.entity_of g.G.Group.range_of in
    let S = c.args.set.now.groups in
    let e1 = c.in_ok-groups.ensures.groups ∙ ap (λ l. filter (λ x. not (is_covered l (id_of x))) S) (c.deref-2.ensures.value ∙ c.in_ok-covering.ensures ∙ ap (λ l. map id_of (map (λ a. arc_value a) l)) c.deref.ensures.value) in
    let e2 = c.in_ok-put_all.ensures.groups ∙ ap (all_placed id_of (map (λ a. arc_value a) c.args.added.items)) e1 in
    let e = c.in_ok-put_all.ensures.same ∙ ap (map id_of) e2 in
    (c.requires.0, subst (λ (l : List GroupId). AreCuts l c.requires.0) (sym e) c.requires.1)

pub returns-clause-replaces : goal.returns-clause-replaces
returns-clause-replaces g c =
    let id_of = id_with g.G.Group.entity_of g.G.Group.range_of in
    let S = c.args.set.now.groups in
    let A = map (λ a. arc_value a) c.args.added.items in
    let e1 = c.in_ok-groups.ensures.groups ∙ ap (λ l. filter (λ x. not (is_covered l (id_of x))) S) (c.deref-2.ensures.value ∙ c.in_ok-covering.ensures ∙ ap (λ l. map id_of (map (λ a. arc_value a) l)) c.deref.ensures.value) in
    let e2 = c.in_ok-put_all.ensures.groups ∙ ap (all_placed id_of A) e1 in
    let e = c.made.ensures.ids ∙ c.in_ok-put_all.ensures.same ∙ ap (map id_of) e2 in
    subst (λ (l : List GroupId). Replaces c.args.set.now.ids l) (sym e)
    (subst (λ (l : List GroupId). Replaces l (map id_of (replaced_by id_of S A))) (sym c.in_ok-groups.ensures.same) (replaces-made id_of S A))
