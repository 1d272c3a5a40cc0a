use Rattle.std.proofs.Common.{sym}
use Rattle.elias_fano.proofs.Places.{length-items_of}
use Rattle.elias_fano.proofs.list.EfList.len.Goals as goal

pub returns-clause-count : goal.returns-clause-count
returns-clause-count c = rw (← c.self.view_is) (sym (length-items_of c.self.inside.parts))

pub returns-clause-ascends : goal.returns-clause-ascends
returns-clause-ascends c = rw (← c.self.view_is) c.self.invariant.0.listed.ascends
