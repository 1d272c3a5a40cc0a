use Rattle.std.proofs.Common.{arith, ◌≤◌, ◌+◌, length}
use Rattle.std.proofs.lemmas.List.{length-take}
use Rattle.bit_store.specs.Bits.{bits_of}
use Rattle.bit_store.proofs.Texts.{length-bits_of}
use Rattle.bit_store.proofs.Views.{ones_field}
use Rattle.bit_store.proofs.Zeros.{PlacedZero, placed_zero, ones_in_part, turned_all}
use Rattle.bit_store.proofs.view.BitView.select_zero_from.Goals as goal

pub loop-at-init : goal.loop-at-init
loop-at-init c =
    let bytes = c.self.inside.bytes.now in
    rw (← c.self.view_is) (record {
      begun = c.past_zeros-at.ensures.order;
      within = omega (arith, c.past_zeros-at.ensures.within, length-take c.self.inside.len (bits_of bytes), length-bits_of bytes, c.self.invariant);
      counted = omega (arith, c.past_zeros-at.ensures.left);
    })

pub loop-at-preserved : goal.loop-at-preserved
loop-at-preserved c =
    let e = ones_field c.loop-at.at c.min-width.result c.field-word.result c.args.self.now c.field-word.ensures in
    let few = ones_in_part c.args.self.now c.loop-at.at c.min-width.result c.field-word.result c.field-word.ensures in
    record { begun = omega (arith, c.loop-at.invariant.begun); within = omega arith; counted = omega (arith, e, few, c.from.ensures, c.loop-at.invariant.counted) }

pub overflow_sub-zeros : goal.overflow_sub-zeros
overflow_sub-zeros c = omega (arith, ones_in_part c.args.self.now c.loop-at.at c.min-width.result c.field-word.result c.field-word.ensures, c.from.ensures)

pub place_in-requires : goal.place_in-requires
place_in-requires c = omega (arith, turned_all c.field-word.result c.field-word.type_inv, c.if-left-zeros.true, c.from.ensures)

found : (c : goal.After-from-then-left-zeros) → PlacedZero c.args.self.now c.loop-at.at c.min-width.result c.place_in.result c.loop-at.left
found c =
    let within : c.loop-at.at + c.min-width.result ≤ length c.args.self.now = omega arith in
    placed_zero c.args.self.now c.loop-at.at c.min-width.result c.field-word.result c.place_in.result c.loop-at.left within (omega arith) c.field-word.ensures (omega (arith, c.if-left-zeros.true, c.from.ensures)) c.place_in.ensures

pub overflow_add-result : goal.overflow_add-result
overflow_add-result c = let f = found c in record { fits = omega (arith, f.within, c.from-then-left-zeros.ensures) }

pub returns-then-left-zeros-clause-found : goal.returns-then-left-zeros-clause-found
returns-then-left-zeros-clause-found c = let f = found c in rw c.from-then-left-zeros.ensures (omega (arith, c.loop-at.invariant.begun), f.none, omega (arith, f.before, c.loop-at.invariant.counted))
