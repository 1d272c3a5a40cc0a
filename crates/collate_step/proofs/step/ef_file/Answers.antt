use Rattle.std.proofs.Common.{◌≡◌, ◌+◌, sym, ◌∙◌, ap, subst}
use Rattle.std.proofs.lemmas.Result.{IfOk-weaker}
use Rattle.agg_model.specs.Contents.{ef_contents}
use Rattle.agg_model.proofs.ContentsLaws.{KeysRise, changes_over-KeysRise}
use Rattle.content_laws.specs.Steps.{lists_among}
use Rattle.content_laws.proofs.StepLists.{ef-among}
use Rattle.inverted_index.specs.EfFile.{tagged_lists, ef_tag}
use Rattle.collate_step.proofs.KeyRuns.{runs-lists}
use Rattle.collate_step.proofs.step.ef_file.Goals as goal

pub returns-clause-file : goal.returns-clause-file
returns-clause-file c =
    λ list valid small size are.
    let e = c.args.place.entity in
    let step = c.args.place.step in
    let rise : KeysRise c.args.changes.now = subst KeysRise (sym are) (changes_over-KeysRise list.size list.changes e step (step + 1)) in
    let lists : c.in_ok-lists.lists ≡ ef_contents list.size list.changes e step (step + 1) =
    c.in_ok-lists.ensures ∙ runs-lists c.args.changes.now rise ∙ ap lists_among are ∙ sym (ef-among list.size list.changes e step (step + 1) valid.ascend) in
    let tag : c.ef_tag-tag.result ≡ ef_tag e list.size step (step + 1) =
    c.ef_tag-tag.ensures ∙ (λ i. ef_tag e (sym size i) (c.range_of.ensures i).from (c.range_of.ensures i).to) in
    IfOk-weaker c.build_ef.result _ _ (λ f is. is ∙ (λ i. tagged_lists (tag i) (lists i))) c.build_ef.ensures
