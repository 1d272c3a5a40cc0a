use Rattle.std.proofs.Common.{◌<◌, ◌+◌, ◌-◌, ◌/◌, ℕ, arith}
use Rattle.elias_fano.proofs.Bounds.{item-order}
use Rattle.elias_fano.proofs.finding.first_in.Goals as goal

pub loop-low-preserved-then-item-at : goal.loop-low-preserved-then-item-at
loop-low-preserved-then-item-at c =
    let middle : ℕ = c.loop-low.low + (c.loop-low.top - c.loop-low.low) / 2 in
    let within : middle < c.loop-low.top = omega (arith, c.loop-low-test.true) in
    record {
      from = omega (arith, c.loop-low.invariant.from);
      order = omega arith;
      within = c.loop-low.invariant.within;
      below = λ i le lt. omega (arith, item-order c.args.parts.now i middle c.requires.listed (omega arith) (omega (arith, within, c.loop-low.invariant.within, c.requires.within)), c.item.ensures, c.if-item-at.true);
      above = c.loop-low.invariant.above;
    }

pub loop-low-preserved : goal.loop-low-preserved
loop-low-preserved c =
    let middle : ℕ = c.loop-low.low + (c.loop-low.top - c.loop-low.low) / 2 in
    let within : middle < c.loop-low.top = omega (arith, c.loop-low-test.true) in
    record {
      from = c.loop-low.invariant.from;
      order = omega arith;
      within = omega (arith, within, c.loop-low.invariant.within);
      below = c.loop-low.invariant.below;
      above = λ i le lt. omega (arith, item-order c.args.parts.now middle i c.requires.listed le (omega (arith, lt, c.requires.within)), c.item.ensures, c.if-item-at.false);
    }
