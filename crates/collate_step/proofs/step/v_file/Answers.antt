use Rattle.std.proofs.Common.{◌≡◌, ◌+◌, map, None, sym, ◌∙◌, ap}
use Rattle.std.specs.Arc.{arc_value}
use Rattle.std.proofs.lemmas.Result.{IfOk-weaker}
use Rattle.agg_model.specs.Contents.{v_contents}
use Rattle.agg_model.specs.Pairs.{held_value, newest_word}
use Rattle.content_laws.specs.Steps.{befores_behind}
use Rattle.history_core.specs.VFile.{tagged_befores, v_tag}
use Rattle.collate_step.specs.Groups.{pairs_of, value_in_groups}
use Rattle.collate_step.proofs.GroupWalks.{own-groups}
use Rattle.collate_step.proofs.StepValues.{befores-step}
use Rattle.collate_step.proofs.step.v_file.Goals as goal

pub returns-clause-file : goal.returns-clause-file
returns-clause-file g c =
    λ list valid size are domain below.
    let e = c.args.place.entity in
    let step = c.args.place.step in
    let groups = map (λ g. arc_value g) c.args.before.now in
    let own = ap (map (λ g. arc_value g)) c.as_slice.ensures.value ∙ c.in_ok-own.ensures in
    let picked = ap (value_in_groups e) own ∙ ap (λ gs k. held_value (newest_word (map pairs_of gs) k)) (own-groups e groups) in
    let befores : c.in_ok-befores.befores ≡ v_contents list.size list.changes e step (step + 1) =
    c.in_ok-befores.ensures ∙ ap (λ look. befores_behind look None c.args.changes.now) picked ∙ ap (befores_behind (value_in_groups e groups) None) are ∙ befores-step list e step groups valid domain below in
    let tag : c.v_tag-tag.result ≡ v_tag e list.size step (step + 1) =
    c.v_tag-tag.ensures ∙ (λ i. v_tag e (sym size i) (c.range_of.ensures i).from (c.range_of.ensures i).to) in
    IfOk-weaker c.build_v_side_by_side.result _ _ (λ f is. is ∙ (λ i. tagged_befores (tag i) (befores i))) c.build_v_side_by_side.ensures
