use Rattle.std.proofs.Common.{◌≡◌, ℕ, List, sym, ◌∙◌, ap, subst}
use Rattle.std.specs.Arc.{arc_value}
use Rattle.std.specs.Prelude.{map}
use Rattle.std.proofs.lemmas.Result.{IfOk-weaker}
use Rattle.agg_model.specs.Contents.{v_contents}
use Rattle.agg_model.specs.declared.entity.FileKind.TheVariants.{V}
use Rattle.history_core.specs.VFile.{tagged_befores, v_tag}
use Rattle.merge_files.specs.MergedRows.{row_of}
use Rattle.merge_files.specs.Walks.{file_pairs, items_left}
use Rattle.merge_files.proofs.RowWords.{AllFit, rows-ascend, rows-look, groups-fit}
use Rattle.merge_files.proofs.Wholes.{befores-whole}
use Rattle.merge_files.proofs.whole.v_file.Goals as goal

pub returns-clause-file : goal.returns-clause-file
returns-clause-file c =
    λ list ranges valid size domain adjoin are.
    let e = c.args.whole.entity in
    let range = c.args.whole.range in
    let groups = map (λ g. arc_value g) c.args.groups.now in
    let inputs = map (file_pairs V) groups in
    let rows = map row_of (items_left V inputs) in
    let befores : rows ≡ v_contents list.size list.changes e range.from range.to =
    befores-whole list e range.from range.to ranges groups valid adjoin are rows domain (rows-ascend inputs)
    (λ (k : List ℕ) (n : ℕ). rows-look k n groups (subst (AllFit k n) (sym are) (groups-fit list e valid domain ranges k n))) in
    let tag : c.v_tag-tag.result ≡ v_tag e list.size range.from range.to =
    c.v_tag-tag.ensures ∙ (λ i. v_tag e (sym size i) range.from range.to) in
    IfOk-weaker c.merged_v.result _ _ (λ f is. is ∙ (λ i. tagged_befores (tag i) (befores i))) c.merged_v.ensures
