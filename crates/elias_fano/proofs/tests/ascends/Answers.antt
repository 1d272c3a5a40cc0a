use Rattle.std.proofs.Common.{refl}
use Rattle.elias_fano.specs.Reading.{first_descent}
use Rattle.elias_fano.proofs.Faults.{descent-more, ended, ascends-none, ascending}
use Rattle.elias_fano.proofs.tests.ascends.Goals as goal

pub loop-item-preserved : goal.loop-item-preserved
loop-item-preserved c = descent-more c.args.items.now c.loop-item.before _ c.loop-item.item-index (first_descent 0 0 c.args.items.now) c.loop-item-test.true refl c.if-item-before.false c.loop-item.invariant

pub returns : goal.returns
returns c = ascending 0 c.args.items.now (ascends-none 0 0 c.args.items.now (ended c.args.items.now c.loop-item.before c.loop-item.item-index c.loop-item-test.false c.loop-item.invariant))
