use Rattle.std.proofs.Common.{arith}
use Rattle.inverted_index.proofs.parts.opened.Goals as goal

pub of-requires-clause-small : goal.of-requires-clause-small
of-requires-clause-small c = let short = c.requires.1.short in omega (arith, short)

pub of-requires-clause-known : goal.of-requires-clause-known
of-requires-clause-known c = (c.requires.0, (c.requires.1.listable, c.requires.1.spelled))

pub returns : goal.returns
returns c = λ items t. c.of.ensures.only items t.listable t.spelled
