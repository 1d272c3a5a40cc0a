use Rattle.std.proofs.Common.{sym, ap, subst, ◌∙◌}
use Rattle.word_file.specs.Spelling.{TaggedWords}
use Rattle.history_core.specs.KeyWord.{befores_in}
use Rattle.history_core.specs.VFile.{tagged_befores, IsHeld}
use Rattle.history_core.proofs.Held.{file_paired, file_differ, file_held, file_value}
use Rattle.history_core.proofs.v_file.VFile.of.Goals as goal

pub of_known-requires-clause-paired : goal.of_known-requires-clause-paired
of_known-requires-clause-paired c = file_paired c.args.words c.requires.0 c.requires.1

pub of_known-requires-clause-differ : goal.of_known-requires-clause-differ
of_known-requires-clause-differ c = file_differ c.args.words c.requires.0 c.requires.1

pub invariant_of-result : goal.invariant_of-result
invariant_of-result c = subst IsHeld (sym c.in_ok-file.ensures) (file_held c.args.words c.requires.0 c.requires.1)

pub returns : goal.returns
returns c =
    λ befores is.
    ap (λ (w : TaggedWords). tagged_befores w.tag (befores_in w.words)) c.in_ok-file.ensures
    ∙ file_value c.args.words befores is
