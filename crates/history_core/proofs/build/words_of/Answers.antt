use Rattle.std.proofs.Common.{List, sym, ap, subst, ◌∙◌}
use Rattle.std.specs.Prelude.{All}
use Rattle.std.proofs.lemmas.Result.{IfOk-weaker}
use Rattle.agg_model.specs.declared.contents.Before.{Before}
use Rattle.word_file.specs.Spelling.{TaggedWords}
use Rattle.word_file.specs.Reading.{tagged}
use Rattle.history_core.specs.Befores.{IsBefore}
use Rattle.history_core.specs.KeyWord.{words_of}
use Rattle.history_core.proofs.Held.{file_from}
use Rattle.history_core.proofs.build.words_of.Goals as goal

pub words_for-requires : goal.words_for-requires
words_for-requires c = subst (All (IsBefore c.args.tag)) (sym c.as_slice.ensures) c.requires.fit

pub returns-clause-tag : goal.returns-clause-tag
returns-clause-tag c = IfOk-weaker c.words_for.result _ _ (λ words is. ap (λ (w : TaggedWords). w.tag) is) c.words_for.ensures

pub returns-clause-file : goal.returns-clause-file
returns-clause-file c =
    let words = ap (λ (bs : List Before). tagged c.args.tag (words_of bs)) c.as_slice.ensures in
    IfOk-weaker c.words_for.result _ _ (λ file is. file_from c.args.tag file c.args.rows.now c.requires (is ∙ words)) c.words_for.ensures
