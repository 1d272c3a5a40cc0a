use Rattle.std.proofs.Common.{◌≡◌, ℕ, List, sym, ◌∙◌, ap}
use Rattle.std.specs.Arc.{arc_value}
use Rattle.std.specs.Prelude.{map}
use Rattle.agg_model.specs.Contents.{ef_contents}
use Rattle.agg_model.specs.declared.entity.FileKind.TheVariants.{Ef}
use Rattle.inverted_index.specs.EfFile.{tagged_lists, ef_tag}
use Rattle.merge_files.specs.MergedLists.{times_of}
use Rattle.merge_files.specs.Walks.{file_pairs, items_left}
use Rattle.merge_files.proofs.NumberWords.{lists-ascend, lists-look, both-ok}
use Rattle.merge_files.proofs.Wholes.{lists-whole}
use Rattle.merge_files.proofs.whole.ef_file.Goals as goal

pub returns-clause-file : goal.returns-clause-file
returns-clause-file c =
    λ list ranges valid size adjoin are.
    let e = c.args.whole.entity in
    let range = c.args.whole.range in
    let groups = map (λ g. arc_value g) c.args.groups.now in
    let inputs = map (file_pairs Ef) groups in
    let lists = map times_of (items_left Ef inputs) in
    let tag : c.ef_tag-tag.result ≡ ef_tag e list.size range.from range.to =
    c.ef_tag-tag.ensures ∙ (λ i. ef_tag e (sym size i) range.from range.to) in
    both-ok c.merged_ef.result _ _ _
    (λ f has is.
    is
    ∙ (λ i. tagged_lists (tag i) (lists-whole list e range.from range.to ranges groups valid adjoin are lists (lists-ascend inputs) (λ (k : List ℕ). lists-look k groups has) i)))
    c.merged_ef.ensures.lists c.merged_ef.ensures.file
