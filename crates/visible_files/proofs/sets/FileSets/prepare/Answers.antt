use Rattle.std.proofs.Common.{◌∙◌, All, map, ap, sym, subst}
use Rattle.std.specs.Arc.{arc_value}
use Rattle.visible_files.specs.Ids.{id_with, replaced_by, ExtendsOrMerges}
use Rattle.visible_files.specs.Sets.{SetOf, SetsOf}
use Rattle.visible_files.proofs.Added.{next-added, next-count, next-gone, length-map}
use Rattle.visible_files.proofs.sets.FileSets.prepare.Goals as goal

pub returns-clause-added : goal.returns-clause-added
returns-clause-added g c =
    let id_of = id_with g.G.Group.entity_of g.G.Group.range_of in
    let A = map (λ a. arc_value a) c.args.added.items in
    let now = arc_value c.self.inside.current in
    let file = c.self.invariant.of_current in
    let each = subst (λ (v : SetsOf g.row.G.Denot). All (ExtendsOrMerges v.current.ids) (map id_of A)) (sym c.self.view_is) c.requires.each in
    let made = ap (λ (s : SetOf g.row.G.Denot). s.ids) c.in_ok-set-2.ensures.ok ∙ c.in_ok-set.ensures.set.same ∙ ap (map id_of) c.in_ok-set.ensures.groups ∙ ap (λ (s : SetOf g.row.G.Denot). map id_of (replaced_by id_of s.groups A)) c.deref.ensures in
    rw (← c.self.view_is) (next-added id_of now.groups A now.ids _ now.end file.same file.set each made)

pub returns-clause-added_count : goal.returns-clause-added_count
returns-clause-added_count g c =
    let id_of = id_with g.G.Group.entity_of g.G.Group.range_of in
    let A = map (λ a. arc_value a) c.args.added.items in
    let now = arc_value c.self.inside.current in
    let file = c.self.invariant.of_current in
    let each = subst (λ (v : SetsOf g.row.G.Denot). All (ExtendsOrMerges v.current.ids) (map id_of A)) (sym c.self.view_is) c.requires.each in
    let made = ap (λ (s : SetOf g.row.G.Denot). s.ids) c.in_ok-set-2.ensures.ok ∙ c.in_ok-set.ensures.set.same ∙ ap (map id_of) c.in_ok-set.ensures.groups ∙ ap (λ (s : SetOf g.row.G.Denot). map id_of (replaced_by id_of s.groups A)) c.deref.ensures in
    rw (← c.self.view_is) (next-count id_of now.groups A now.ids _ now.end file.same file.set each made ∙ length-map (λ a. arc_value a) c.args.added.items)

pub returns-clause-replaced : goal.returns-clause-replaced
returns-clause-replaced g c =
    let id_of = id_with g.G.Group.entity_of g.G.Group.range_of in
    let A = map (λ a. arc_value a) c.args.added.items in
    let now = arc_value c.self.inside.current in
    let file = c.self.invariant.of_current in
    let each = subst (λ (v : SetsOf g.row.G.Denot). All (ExtendsOrMerges v.current.ids) (map id_of A)) (sym c.self.view_is) c.requires.each in
    let made = ap (λ (s : SetOf g.row.G.Denot). s.ids) c.in_ok-set-2.ensures.ok ∙ c.in_ok-set.ensures.set.same ∙ ap (map id_of) c.in_ok-set.ensures.groups ∙ ap (λ (s : SetOf g.row.G.Denot). map id_of (replaced_by id_of s.groups A)) c.deref.ensures in
    rw (← c.self.view_is) (next-gone id_of now.groups A now.ids _ now.end file.same file.set each made)
