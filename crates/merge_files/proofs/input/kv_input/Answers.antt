use Rattle.std.proofs.Common.{◌≡◌, sym, ◌∙◌, ap, subst}
use Rattle.agg_model.specs.declared.entity.FileKind.TheVariants.{Kv}
use Rattle.domain_core.specs.KvFile.{words_of}
use Rattle.word_file.specs.Spelling.{TaggedWords}
use Rattle.merge_files.specs.Walks.{IsInput}
use Rattle.merge_files.proofs.FileInputs.{pairs-are, are-pairs, kv-input}
use Rattle.merge_files.proofs.input.kv_input.Goals as goal

pub of-requires : goal.of-requires
of-requires c = are-pairs c.words.result.now.words c.args.kv.now.pairs (ap (λ (w : TaggedWords). w.words) c.words.ensures)

pub returns-clause-pairs : goal.returns-clause-pairs
returns-clause-pairs c =
    c.of.ensures ∙ pairs-are c.words.result.now.words c.args.kv.now.pairs (ap (λ (w : TaggedWords). w.words) c.words.ensures)

pub returns-clause-input : goal.returns-clause-input
returns-clause-input c =
    let are = c.of.ensures ∙ pairs-are c.words.result.now.words c.args.kv.now.pairs (ap (λ (w : TaggedWords). w.words) c.words.ensures) in
    subst (IsInput Kv) (sym are) (kv-input c.args.kv.now.pairs c.len-count.ensures.pairs)
