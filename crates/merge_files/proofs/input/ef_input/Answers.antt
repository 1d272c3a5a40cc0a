use Rattle.std.proofs.Common.{◌≡◌, map, sym, ◌∙◌, ap, subst}
use Rattle.agg_model.specs.declared.entity.FileKind.TheVariants.{Ef}
use Rattle.word_file.specs.Spelling.{TaggedWords}
use Rattle.merge_files.specs.Walks.{IsInput, times_pair}
use Rattle.merge_files.proofs.FileInputs.{pairs-are, are-pairs, times-words, ef-input}
use Rattle.merge_files.proofs.input.ef_input.Goals as goal

pub of-requires : goal.of-requires
of-requires c =
    are-pairs c.words.result.now.words (map times_pair c.args.ef.now.lists)
    (ap (λ (w : TaggedWords). w.words) c.words.ensures.words ∙ times-words c.args.ef.now.lists)

pub returns-clause-pairs : goal.returns-clause-pairs
returns-clause-pairs c =
    c.of.ensures
    ∙ pairs-are c.words.result.now.words (map times_pair c.args.ef.now.lists)
    (ap (λ (w : TaggedWords). w.words) c.words.ensures.words ∙ times-words c.args.ef.now.lists)

pub returns-clause-input : goal.returns-clause-input
returns-clause-input c =
    let ts = c.args.ef.now.lists in
    let are = c.of.ensures ∙ pairs-are c.words.result.now.words (map times_pair ts) (ap (λ (w : TaggedWords). w.words) c.words.ensures.words ∙ times-words ts) in
    subst (IsInput Ef) (sym are) (ef-input c.args.ef.now.tag ts c.words.ensures.lists)
