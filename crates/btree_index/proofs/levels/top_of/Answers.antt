use Rattle.std.proofs.Common.{arith}
use Rattle.btree_index.proofs.Spellings.{top_here, top_more, top_last}
use Rattle.btree_index.proofs.levels.top_of.Goals as goal

pub returns-then-entries_of-le16-clause-value : goal.returns-then-entries_of-le16-clause-value
returns-then-entries_of-le16-clause-value c = top_here c.args.count c.loop-level.level c.loop-level-test.true (omega (arith, c.entries_of.ensures)) c.loop-level.invariant

pub loop-level-preserved : goal.loop-level-preserved
loop-level-preserved c = top_more c.args.count c.loop-level.level c.loop-level-test.true (omega (arith, c.entries_of.ensures)) c.loop-level.invariant

pub returns-clause-value : goal.returns-clause-value
returns-clause-value c = top_last c.args.count c.loop-level.level c.loop-level-test.false (omega arith) c.loop-level.invariant
