use Rattle.std.proofs.Common.{◌≡◌, map, sym, ◌∙◌, ap, subst}
use Rattle.agg_model.specs.declared.entity.FileKind.TheVariants.{V}
use Rattle.word_file.specs.Spelling.{TaggedWords}
use Rattle.merge_files.specs.Walks.{IsInput, before_pair}
use Rattle.merge_files.proofs.FileInputs.{pairs-are, are-pairs, before-words, v-input}
use Rattle.merge_files.proofs.input.v_input.Goals as goal

pub of-requires : goal.of-requires
of-requires c =
    are-pairs c.words.result.now.words (map before_pair c.args.v.now.befores)
    (ap (λ (w : TaggedWords). w.words) c.words.ensures ∙ before-words c.args.v.now.befores)

pub returns-clause-pairs : goal.returns-clause-pairs
returns-clause-pairs c =
    c.of.ensures
    ∙ pairs-are c.words.result.now.words (map before_pair c.args.v.now.befores)
    (ap (λ (w : TaggedWords). w.words) c.words.ensures ∙ before-words c.args.v.now.befores)

pub returns-clause-input : goal.returns-clause-input
returns-clause-input c =
    let bs = c.args.v.now.befores in
    let are = c.of.ensures ∙ pairs-are c.words.result.now.words (map before_pair bs) (ap (λ (w : TaggedWords). w.words) c.words.ensures ∙ before-words bs) in
    subst (IsInput V) (sym are) (v-input c.args.v.now.tag bs c.len-count.ensures.befores)
