use Rattle.std.proofs.Common.{arith}
use Rattle.btree_index.proofs.Spellings.{shifted, stride_some}
use Rattle.btree_index.proofs.levels.stride_of.Goals as goal

pub returns-clause-value : goal.returns-clause-value
returns-clause-value c = shifted c.args.level c.requires

pub returns-clause-some : goal.returns-clause-some
returns-clause-some c = omega (arith, stride_some c.args.level, shifted c.args.level c.requires)
