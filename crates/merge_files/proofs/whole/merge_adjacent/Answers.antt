use Rattle.std.proofs.Common.{◌≡◌, map, sym, ◌∙◌, ap, subst, get_or}
use Rattle.std.specs.Arc.{arc_value}
use Rattle.std.proofs.lemmas.Result.{IfOk-weaker}
use Rattle.agg_model.specs.declared.entity.Range.{Range}
use Rattle.content_laws.specs.Parts.{Adjoin}
use Rattle.collate_step.specs.Groups.{GroupFiles, group_of}
use Rattle.merge_files.proofs.Wholes.{first-is, first-value}
use Rattle.merge_files.proofs.whole.merge_adjacent.Goals as goal

pub returns : goal.returns
returns c =
    λ list e ranges valid adjoin are.
    let w = c.whole_of-whole.result in
    let g : GroupFiles = arc_value c.index-groups-0.result in
    let same = first-is list e c.args.range ranges (map (λ g. arc_value g) c.args.groups.now) g c.requires.aligned adjoin are
    (first-value (λ g. arc_value g) c.args.groups.now c.index-groups-0.result c.requires.some c.index-groups-0.is) in
    let entity : w.entity ≡ e = (λ i. (c.whole_of-whole.ensures i).entity) ∙ (λ i. (c.deref.ensures i).entity) ∙ same.0 in
    let size : w.size ≡ list.size = (λ i. (c.whole_of-whole.ensures i).size) ∙ (λ i. (c.deref.ensures i).ef.tag.step) ∙ same.1 in
    let range : w.range ≡ c.args.range = λ i. (c.whole_of-whole.ensures i).range in
    IfOk-weaker c.merge_whole.result _ _ (λ f is. is ∙ (λ i. group_of list (entity i) (range i)))
    (c.merge_whole.ensures list ranges valid (sym size) (subst (λ (r : Range). Adjoin r.from ranges r.to) (sym range) adjoin)
    (are ∙ (λ i. map (group_of list (sym entity i)) ranges)))
