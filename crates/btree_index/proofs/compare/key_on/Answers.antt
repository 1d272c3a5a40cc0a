use Rattle.std.proofs.Common.{◌+◌, ◌*◌, arith}
use Rattle.btree_index.proofs.Comparisons.{one_on, none_on, some_on}
use Rattle.btree_index.proofs.compare.key_on.Goals as goal

pub key_after-requires : goal.key_after-requires
key_after-requires c = (c.requires.0 + 2 * c.loop-passed._passed, c.loop-passed.invariant c.requires.0 c.requires.1)

pub returns-in_err-next : goal.returns-in_err-next
returns-in_err-next c = rw c.from_residual.ensures (none_on c.args.words.now.words c.args.at c.loop-passed.next c.loop-passed._passed c.args.keys c.key_after.result c.loop-passed-test.true c.loop-passed.invariant c.key_after.ensures c.in_err-next.was)

pub loop-passed-preserved : goal.loop-passed-preserved
loop-passed-preserved c = one_on c.args.words.now.words c.args.at c.loop-passed.next c.in_ok-next.next c.loop-passed._passed c.key_after.result c.loop-passed.invariant c.key_after.ensures c.in_ok-next.was

pub returns : goal.returns
returns c = some_on c.args.words.now.words c.args.at c.loop-passed.next c.loop-passed._passed c.args.keys (omega (arith, c.loop-passed.auto)) c.loop-passed.invariant
