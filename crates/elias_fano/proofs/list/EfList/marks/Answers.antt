use Rattle.std.proofs.Common.{arith}
use Rattle.elias_fano.proofs.list.EfList.marks.Goals as goal

pub of-requires : goal.of-requires
of-requires c = omega (arith, c.self.invariant.0.short)
