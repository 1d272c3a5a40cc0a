use Rattle.elias_fano.proofs.Marked.{zero_from_start}
use Rattle.elias_fano.proofs.marks.zero_of.Goals as goal

pub returns-in-None-clause-found : goal.returns-in-None-clause-found
returns-in-None-clause-found c = zero_from_start c.args.upper.now c.args.k c.select_zero_from.result c.select_zero_from.ensures.found
