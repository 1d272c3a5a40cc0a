use Rattle.std.proofs.Common.{◌≡◌, [], ◌++◌, map, sym, ◌∙◌, ap, subst}
use Rattle.std.specs.Arc.{arc_value}
use Rattle.std.proofs.lemmas.Result.{IfOk-weaker}
use Rattle.agg_model.specs.declared.entity.FileKind.TheVariants.{Kv}
use Rattle.agg_model.specs.Pairs.{ArePairs}
use Rattle.domain_core.specs.KvFile.{words_of}
use Rattle.domain_core.proofs.Built.{built_words, built_pairs}
use Rattle.word_file.specs.Reading.{tagged}
use Rattle.merge_files.specs.KeptPairs.{kept_pairs, ArePut}
use Rattle.merge_files.specs.Walks.{file_pairs, items_left}
use Rattle.merge_files.proofs.KeptWords.{kept-ascend}
use Rattle.merge_files.proofs.values.merged_kv.Goals as goal

pub of-requires-2 : goal.of-requires-2
of-requires-2 c =
    let from = c.args.from in
    let inputs = map (file_pairs Kv) (map (λ g. arc_value g) c.args.groups.now) in
    let kept = kept_pairs from (items_left Kv inputs) in
    let put : ArePut c.in_ok-writer.writer c.put_all.new.writer kept =
    subst (λ is. ArePut c.in_ok-writer.writer c.put_all.new.writer (kept_pairs from is)) c.in_ok-walk.ensures c.in_ok-put_all.ensures in
    let is : c.finish.result ≡ tagged c.args.tag (words_of kept) =
    c.finish.ensures.file ∙ put.words ∙ (λ i. tagged (c.in_ok-writer.ensures i).tag ((c.in_ok-writer.ensures i).words ++ words_of kept)) in
    let are : ArePairs kept = record { ascend = kept-ascend inputs from; fit = put.fit } in
    built_words c.args.tag kept c.finish.result are is

pub returns : goal.returns
returns c =
    let from = c.args.from in
    let inputs = map (file_pairs Kv) (map (λ g. arc_value g) c.args.groups.now) in
    let kept = kept_pairs from (items_left Kv inputs) in
    let put : ArePut c.in_ok-writer.writer c.put_all.new.writer kept =
    subst (λ is. ArePut c.in_ok-writer.writer c.put_all.new.writer (kept_pairs from is)) c.in_ok-walk.ensures c.in_ok-put_all.ensures in
    let is : c.finish.result ≡ tagged c.args.tag (words_of kept) =
    c.finish.ensures.file ∙ put.words ∙ (λ i. tagged (c.in_ok-writer.ensures i).tag ((c.in_ok-writer.ensures i).words ++ words_of kept)) in
    let are : ArePairs kept = record { ascend = kept-ascend inputs from; fit = put.fit } in
    IfOk-weaker c.of-2.result _ _ (λ f e. e ∙ built_pairs c.args.tag kept c.finish.result are is) c.of-2.ensures
