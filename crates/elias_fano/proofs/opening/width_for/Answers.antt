use Rattle.elias_fano.proofs.Widths.{low_width-is, short_upper}
use Rattle.elias_fano.proofs.opening.width_for.Goals as goal

pub returns-else-last-count-clause-value : goal.returns-else-last-count-clause-value
returns-else-last-count-clause-value c = low_width-is c.args.count c.args.last c.ilog2.result c.if-last-count.false c.ilog2.ensures.bound c.ilog2.ensures.power_le c.ilog2.ensures.next_power_gt

pub returns-else-last-count-clause-short : goal.returns-else-last-count-clause-short
returns-else-last-count-clause-short c = short_upper c.args.count c.args.last c.ilog2.result c.requires c.ilog2.ensures.next_power_gt
