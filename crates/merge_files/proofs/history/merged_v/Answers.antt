use Rattle.std.proofs.Common.{◌≡◌, [], ◌++◌, map, sym, ◌∙◌, ap, subst}
use Rattle.std.specs.Prelude.{All}
use Rattle.std.specs.Arc.{arc_value}
use Rattle.std.proofs.lemmas.Result.{IfOk-weaker}
use Rattle.agg_model.specs.declared.entity.FileKind.TheVariants.{V}
use Rattle.history_core.specs.Befores.{IsBefore, AreBefores}
use Rattle.history_core.specs.KeyWord.{words_of}
use Rattle.history_core.specs.VFile.{IsFileOf, tagged_befores}
use Rattle.word_file.specs.Spelling.{TaggedWords}
use Rattle.word_file.specs.Reading.{tagged}
use Rattle.merge_files.specs.MergedRows.{row_of, RowsPut}
use Rattle.merge_files.specs.Walks.{file_pairs, items_left}
use Rattle.merge_files.proofs.RowWords.{rows-file}
use Rattle.merge_files.proofs.history.merged_v.Goals as goal

pub of-requires-2 : goal.of-requires-2
of-requires-2 c =
    let inputs = map (file_pairs V) (map (λ g. arc_value g) c.args.groups.now) in
    let put : RowsPut c.in_ok-writer.writer c.put_all.new.writer (map row_of (items_left V inputs)) =
    subst (λ is. RowsPut c.in_ok-writer.writer c.put_all.new.writer (map row_of is)) c.in_ok-walk.ensures c.in_ok-put_all.ensures in
    (map row_of (items_left V inputs), rows-file inputs c.args.tag c.in_ok-writer.writer c.put_all.new.writer c.finish.result c.in_ok-writer.ensures c.finish.ensures.file put)

pub returns : goal.returns
returns c =
    let inputs = map (file_pairs V) (map (λ g. arc_value g) c.args.groups.now) in
    let rows = map row_of (items_left V inputs) in
    let put : RowsPut c.in_ok-writer.writer c.put_all.new.writer rows =
    subst (λ is. RowsPut c.in_ok-writer.writer c.put_all.new.writer (map row_of is)) c.in_ok-walk.ensures c.in_ok-put_all.ensures in
    let file = rows-file inputs c.args.tag c.in_ok-writer.writer c.put_all.new.writer c.finish.result c.in_ok-writer.ensures c.finish.ensures.file put in
    let tag : c.finish.result.tag ≡ c.args.tag = ap (λ (w : TaggedWords). w.tag) (c.finish.ensures.file ∙ put.words) ∙ ap (λ (w : TaggedWords). w.tag) c.in_ok-writer.ensures in
    IfOk-weaker c.of-2.result _ _ (λ f e. e ∙ (λ i. tagged_befores (tag i) rows)) (c.of-2.ensures rows file)
