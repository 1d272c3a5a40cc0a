use Rattle.std.proofs.Common.{bit_and, ◌-◌, arith}
use Rattle.btree_index.proofs.Spellings.{rest_of, more_fits, entries_whole, entries_more}
use Rattle.btree_index.proofs.levels.entries_of.Goals as goal

pub returns-then-rest-eq0 : goal.returns-then-rest-eq0
returns-then-rest-eq0 c =
    let s = c.stride_of.result in
    entries_whole c.args.count c.args.level (bit_and c.args.count (s - 1)) (rest_of c.args.count c.args.level s c.stride_of.ensures.value) c.if-rest-eq0.true

pub returns-else-rest-eq0 : goal.returns-else-rest-eq0
returns-else-rest-eq0 c =
    let s = c.stride_of.result in
    entries_more c.args.count c.args.level (bit_and c.args.count (s - 1)) (rest_of c.args.count c.args.level s c.stride_of.ensures.value) c.if-rest-eq0.false

pub overflow_add-result : goal.overflow_add-result
overflow_add-result c =
    let s = c.stride_of.result in
    omega (arith, more_fits c.args.count c.args.level (bit_and c.args.count (s - 1)) (omega (arith, c.ranges.count)) (rest_of c.args.count c.args.level s c.stride_of.ensures.value) c.if-rest-eq0.false)
