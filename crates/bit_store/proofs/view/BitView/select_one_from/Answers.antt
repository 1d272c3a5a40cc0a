use Rattle.std.proofs.Common.{arith, ◌≤◌, ◌+◌, length}
use Rattle.std.proofs.lemmas.List.{length-take}
use Rattle.bit_store.specs.Bits.{bits_of}
use Rattle.bit_store.proofs.Texts.{length-bits_of}
use Rattle.bit_store.proofs.Views.{Placed, placed, ones_field}
use Rattle.bit_store.proofs.view.BitView.select_one_from.Goals as goal

pub loop-at-init : goal.loop-at-init
loop-at-init c =
    let bytes = c.self.inside.bytes.now in
    rw (← c.self.view_is) (record {
      begun = c.past_ones-at.ensures.order;
      within = omega (arith, c.past_ones-at.ensures.within, length-take c.self.inside.len (bits_of bytes), length-bits_of bytes, c.self.invariant);
      counted = omega (arith, c.past_ones-at.ensures.left);
    })

found : (c : goal.After-from) → Placed c.args.self.now c.loop-at.at c.min-width.result c.place_in.result c.loop-at.left
found c =
    let within : c.loop-at.at + c.min-width.result ≤ length c.args.self.now = omega arith in
    placed c.args.self.now c.loop-at.at c.min-width.result c.field-word.result c.place_in.result c.loop-at.left within c.field-word.ensures c.place_in.ensures

pub overflow_add-result : goal.overflow_add-result
overflow_add-result c = let f = found c in record { fits = omega (arith, f.within, c.from.ensures) }

pub returns-then-left-ones-clause-found : goal.returns-then-left-ones-clause-found
returns-then-left-ones-clause-found c = let f = found c in rw c.from.ensures (omega (arith, c.loop-at.invariant.begun), f.one, omega (arith, f.before, c.loop-at.invariant.counted))

pub loop-at-preserved : goal.loop-at-preserved
loop-at-preserved c =
    let e = ones_field c.loop-at.at c.min-width.result c.field-word.result c.args.self.now c.field-word.ensures in
    record { begun = omega (arith, c.loop-at.invariant.begun); within = omega arith; counted = omega (arith, e, c.from-ones.ensures, c.loop-at.invariant.counted) }
