use Rattle.std.proofs.Common.{arith, ap, ◌≡◌, ◌+◌, ◌-◌, take}
use Rattle.std.proofs.lemmas.List.{length-take}
use Rattle.bit_store.specs.Bits.{ones_of}
use Rattle.bit_store.proofs.Numbers.{ones_of-le}
use Rattle.bit_store.proofs.Views.{ones_field}
use Rattle.bit_store.proofs.view.BitView.ones_between.Goals as goal

pub loop-at-init : goal.loop-at-init
loop-at-init c = record { begun = c.whole_ones-at.ensures.order; within = c.whole_ones-at.ensures.within; counted = rw c.self.view_is at c.whole_ones-at.ensures.counted }

pub overflow_add-total : goal.overflow_add-total
overflow_add-total c =
    let bits = c.args.self.now in
    let e = ones_field c.loop-at.at 64 c.field.result bits c.field.ensures in
    record { fits = omega (arith, e, c.from-total.ensures, c.loop-at.invariant.counted, ones_of-le (take (c.loop-at.at + 64) bits), length-take (c.loop-at.at + 64) bits, c.ranges.to.fits) }

pub loop-at-preserved : goal.loop-at-preserved
loop-at-preserved c =
    let e = ones_field c.loop-at.at 64 c.field.result c.args.self.now c.field.ensures in
    record { begun = omega (arith, c.loop-at.invariant.begun); within = omega arith; counted = omega (arith, e, c.from-total.ensures, c.loop-at.invariant.counted) }

pub overflow_add-result : goal.overflow_add-result
overflow_add-result c =
    let bits = c.args.self.now in
    let e = ones_field c.loop-at.at (c.args.to - c.loop-at.at) c.field-2.result bits c.field-2.ensures in
    record { fits = omega (arith, e, c.from.ensures, c.loop-at.invariant.counted, ones_of-le (take (c.loop-at.at + (c.args.to - c.loop-at.at)) bits), length-take (c.loop-at.at + (c.args.to - c.loop-at.at)) bits, c.ranges.to.fits) }

pub returns : goal.returns
returns c =
    let bits = c.args.self.now in
    let e = ones_field c.loop-at.at (c.args.to - c.loop-at.at) c.field-2.result bits c.field-2.ensures in
    let whole : c.loop-at.at + (c.args.to - c.loop-at.at) ≡ c.args.to = omega (arith, c.loop-at.invariant.within) in
    omega (arith, ap (λ n. ones_of (take n bits)) whole, e, c.from.ensures, c.loop-at.invariant.counted)
