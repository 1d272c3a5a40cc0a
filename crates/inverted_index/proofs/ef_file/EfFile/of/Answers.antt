use Rattle.std.proofs.Common.{sym, ap, ◌∙◌, subst}
use Rattle.word_file.specs.Spelling.{TaggedWords}
use Rattle.inverted_index.specs.EfFile.{IsHeld, tagged_lists, lists_in}
use Rattle.inverted_index.proofs.ListWords.{are_paired, are_different, are_held, are_seen}
use Rattle.inverted_index.proofs.ef_file.EfFile.of.Goals as goal

pub of-requires-clause-paired : goal.of-requires-clause-paired
of-requires-clause-paired c = are_paired c.args.words c.requires.0 c.requires.1

pub of-requires-clause-differ : goal.of-requires-clause-differ
of-requires-clause-differ c = are_different c.args.words c.requires.0 c.requires.1

pub invariant_of-result : goal.invariant_of-result
invariant_of-result c = subst IsHeld (sym c.in_ok-held.ensures) (are_held c.args.words c.requires.0 c.requires.1)

pub returns : goal.returns
returns c = λ ts are.
    ap (λ (f : TaggedWords). tagged_lists f.tag (lists_in f.words)) c.in_ok-held.ensures ∙ are_seen c.args.words ts are
