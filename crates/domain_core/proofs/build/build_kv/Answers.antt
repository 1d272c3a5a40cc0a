use Rattle.std.proofs.Common.{List, ◌∙◌, ap}
use Rattle.std.proofs.lemmas.Result.{IfOk-weaker}
use Rattle.agg_model.specs.declared.contents.Pair.{Pair}
use Rattle.word_file.specs.Reading.{tagged}
use Rattle.domain_core.specs.KvFile.{words_of}
use Rattle.domain_core.proofs.Built.{built_words, built_pairs}
use Rattle.domain_core.proofs.build.build_kv.Goals as goal

pub of-requires : goal.of-requires
of-requires c =
    let is = c.in_ok-words.ensures ∙ ap (λ (ps : List Pair). tagged c.args.tag (words_of ps)) c.as_slice.ensures in
    built_words c.args.tag c.args.pairs.now c.in_ok-words.words c.requires is

pub returns : goal.returns
returns c =
    let is = c.in_ok-words.ensures ∙ ap (λ (ps : List Pair). tagged c.args.tag (words_of ps)) c.as_slice.ensures in
    IfOk-weaker c.of.result _ _
    (λ file e. e ∙ built_pairs c.args.tag c.args.pairs.now c.in_ok-words.words c.requires is)
    c.of.ensures
