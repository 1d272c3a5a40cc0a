use Rattle.std.proofs.Common.{arith, ap, sym, ◌∙◌, ◌≡◌, length, take, drop, get_or, ◌≤◌, ◌<◌, ◌+◌, ◌-◌, ◌*◌, ◌/◌, ◌%◌, ◌^◌, ℕ}
use Rattle.std.proofs.lemmas.List.{length-take}
use Rattle.bit_store.specs.Bits.{bits_of, number_of}
use Rattle.bit_store.specs.Counts.{number_in}
use Rattle.bit_store.proofs.Numbers.{number_of-lt}
use Rattle.bit_store.proofs.Views.{field_in, field_over, low_below, part_fits_above}
use Rattle.bit_store.proofs.view.BitView.field.Goals as goal

pub returns-then-used-width-le64 : goal.returns-then-used-width-le64
returns-then-used-width-le64 c =
    let bytes = c.self.inside.bytes.now in
    let asked : c.args.i + c.args.width ≤ length c.args.self.now = c.requires.inside in
    let le : c.args.i + c.args.width ≤ c.self.inside.len = omega (arith, length-take c.self.inside.len (bits_of bytes), rw (← c.self.view_is) at asked) in
    rw (← c.self.view_is) (c.low_part.ensures ∙ (rw c.window.ensures (field_in bytes c.args.i c.args.width c.self.inside.len 8 (omega (arith, c.if-used-width-le64.true)) le)))

pub overflow_add-result : goal.overflow_add-result
overflow_add-result c =
    let bytes = c.self.inside.bytes.now in
    let small = low_below (drop (c.args.i / 8) bytes) (c.args.i % 8) (omega arith) in
    let fits = part_fits_above (number_in (take 8 (drop (c.args.i / 8) bytes)) / 2 ^ (c.args.i % 8)) c.byte_at-last.result (c.args.i % 8) c.args.width (omega arith) (omega (arith, c.if-used-width-le64.false)) c.requires.wide small in
    rw (c.window.ensures, c.low_part-2.ensures, fits.0) (record { fits = fits.1 })

pub returns : goal.returns
returns c =
    let bytes = c.self.inside.bytes.now in
    let asked : c.args.i + c.args.width ≤ length c.args.self.now = c.requires.inside in
    let le : c.args.i + c.args.width ≤ c.self.inside.len = omega (arith, length-take c.self.inside.len (bits_of bytes), rw (← c.self.view_is) at asked) in
    let over : 64 < c.args.i % 8 + c.args.width = omega (arith, c.if-used-width-le64.false) in
    let small = low_below (drop (c.args.i / 8) bytes) (c.args.i % 8) (omega arith) in
    let fits = part_fits_above (number_in (take 8 (drop (c.args.i / 8) bytes)) / 2 ^ (c.args.i % 8)) c.byte_at-last.result (c.args.i % 8) c.args.width (omega arith) over c.requires.wide small in
    rw (← c.self.view_is, c.window.ensures, c.low_part-2.ensures, fits.0, c.byte_at-last.ensures.value) (field_over bytes c.args.i c.args.width c.self.inside.len (rw c.byte_at-last.ensures.value at c.byte_at-last.ensures.byte) over c.requires.wide le c.self.invariant)
