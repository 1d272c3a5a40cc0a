use Rattle.std.proofs.Common.{arith}
use Rattle.word_file.proofs.Places.{held_count, first_some, placed}
use Rattle.word_file.proofs.file.WordFile.first.Goals as goal

pub returns-else-self-eq0-clause-value : goal.returns-else-self-eq0-clause-value
returns-else-self-eq0-clause-value c = first_some c.args.self.now.words (omega (arith, held_count c.args.self.now c.self.invariant c.self.view_is))

pub returns-else-self-eq0-clause-place : goal.returns-else-self-eq0-clause-place
returns-else-self-eq0-clause-place c = placed _ c.args.self.now.words 0 (returns-else-self-eq0-clause-value c)
