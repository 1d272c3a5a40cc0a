use Rattle.std.proofs.Common.{◌-◌, ◌*◌, ◌/◌, length, arith}
use Rattle.btree_index.proofs.Comparisons.{lowest_is}
use Rattle.btree_index.proofs.compare.lowest_in.Goals as goal

pub returns-in-Ok : goal.returns-in-Ok
returns-in-Ok c =
    lowest_is c.args.words.now.words c.args.bytes.now (length c.args.bytes.now - 8 * (c.count-count.result / 2)) c.in-Ok.field-0 (omega (arith, c.count-count.ensures.count)) c.in-Ok.ensures.end
