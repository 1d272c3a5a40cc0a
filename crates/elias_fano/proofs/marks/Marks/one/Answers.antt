use Rattle.std.proofs.Common.{◌∙◌, sym, arith}
use Rattle.elias_fano.proofs.Places.{place-is}
use Rattle.elias_fano.proofs.Marked.{none_first}
use Rattle.elias_fano.proofs.marks.Marks.one.Goals as goal

pub before_one-mark-requires-clause-first : goal.before_one-mark-requires-clause-first
before_one-mark-requires-clause-first c = c.requires.marks.ones 0 c.requires.marks.some ∙ none_first c.args.self.now.block c.args.upper.now

pub returns : goal.returns
returns c =
    let found = rw c.unwrap.ensures at c.select_one_from.ensures.found in
    let mark = c.requires.marks.ones c.before_one-mark.result c.before_one-mark.ensures.inside in
    sym (place-is c.args.upper.now c.args.k c.unwrap.result found.1 (omega (arith, found.2, mark, c.before_one-mark.ensures.low)))
