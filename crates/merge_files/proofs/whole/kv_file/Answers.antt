use Rattle.std.proofs.Common.{◌≡◌, sym, ◌∙◌, ap}
use Rattle.std.specs.Arc.{arc_value}
use Rattle.std.specs.Prelude.{map}
use Rattle.std.proofs.lemmas.Result.{IfOk-weaker}
use Rattle.agg_model.specs.Contents.{kv_contents}
use Rattle.agg_model.specs.declared.entity.FileKind.TheVariants.{Kv}
use Rattle.domain_core.specs.KvFile.{tagged_pairs, kv_tag}
use Rattle.merge_files.specs.KeptPairs.{kept_pairs}
use Rattle.merge_files.specs.Walks.{file_pairs, items_left}
use Rattle.merge_files.proofs.KeptWords.{kept-ascend, kept-look}
use Rattle.merge_files.proofs.Wholes.{pairs-whole}
use Rattle.merge_files.proofs.whole.kv_file.Goals as goal

pub returns-clause-file : goal.returns-clause-file
returns-clause-file c =
    λ list ranges valid size domain adjoin are.
    let e = c.args.whole.entity in
    let range = c.args.whole.range in
    let inputs = map (file_pairs Kv) (map (λ g. arc_value g) c.args.groups.now) in
    let kept = kept_pairs range.from (items_left Kv inputs) in
    let pairs : kept ≡ kv_contents list.size list.changes e range.from range.to =
    pairs-whole list e range.from range.to ranges (map (λ g. arc_value g) c.args.groups.now) valid adjoin are kept domain
    (kept-ascend inputs range.from) (kept-look inputs range.from) in
    let tag : c.kv_tag-tag.result ≡ kv_tag e list.size range.from range.to =
    c.kv_tag-tag.ensures ∙ (λ i. kv_tag e (sym size i) range.from range.to) in
    IfOk-weaker c.merged_kv.result _ _ (λ f is. is ∙ (λ i. tagged_pairs (tag i) (pairs i))) c.merged_kv.ensures
