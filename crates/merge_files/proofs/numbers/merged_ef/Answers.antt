use Rattle.std.proofs.Common.{◌≡◌, [], map, sym, ◌∙◌, ap, subst}
use Rattle.std.specs.Arc.{arc_value}
use Rattle.std.proofs.lemmas.Result.{IfOk-weaker}
use Rattle.agg_model.specs.declared.entity.FileKind.TheVariants.{Ef}
use Rattle.inverted_index.specs.EfFile.{tagged_lists}
use Rattle.word_file.specs.Spelling.{TaggedWords}
use Rattle.merge_files.specs.MergedLists.{times_of, ListsPut}
use Rattle.merge_files.specs.Walks.{file_pairs, items_left}
use Rattle.merge_files.proofs.NumberWords.{lists-file}
use Rattle.merge_files.proofs.numbers.merged_ef.Goals as goal

pub of-requires-2 : goal.of-requires-2
of-requires-2 c =
    let inputs = map (file_pairs Ef) (map (λ g. arc_value g) c.args.groups.now) in
    let total = c.in_ok-put_all.field-0 in
    let put : ListsPut 0 total c.in_ok-writer.writer c.put_all.new.writer (map times_of (items_left Ef inputs)) =
    subst (λ is. ListsPut 0 total c.in_ok-writer.writer c.put_all.new.writer (map times_of is)) c.in_ok-walk.ensures c.in_ok-put_all.ensures in
    (map times_of (items_left Ef inputs), lists-file inputs c.args.tag total c.in_ok-writer.writer c.put_all.new.writer c.finish.result c.in_ok-writer.ensures c.finish.ensures.file put)

pub returns-clause-file : goal.returns-clause-file
returns-clause-file c =
    let inputs = map (file_pairs Ef) (map (λ g. arc_value g) c.args.groups.now) in
    let total = c.in_ok-put_all.field-0 in
    let lists = map times_of (items_left Ef inputs) in
    let put : ListsPut 0 total c.in_ok-writer.writer c.put_all.new.writer lists =
    subst (λ is. ListsPut 0 total c.in_ok-writer.writer c.put_all.new.writer (map times_of is)) c.in_ok-walk.ensures c.in_ok-put_all.ensures in
    let file = lists-file inputs c.args.tag total c.in_ok-writer.writer c.put_all.new.writer c.finish.result c.in_ok-writer.ensures c.finish.ensures.file put in
    let tag = ap (λ (w : TaggedWords). w.tag) (c.finish.ensures.file ∙ put.words) ∙ ap (λ (w : TaggedWords). w.tag) c.in_ok-writer.ensures in
    IfOk-weaker c.of-2.result _ _ (λ f e. e lists file ∙ (λ i. tagged_lists (tag i) lists)) c.of-2.ensures
