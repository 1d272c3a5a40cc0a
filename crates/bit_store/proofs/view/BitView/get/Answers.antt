use Rattle.std.proofs.Common.{arith, ap, ◌∙◌, length, ◌<◌, eqb, ◌/◌, ◌%◌, ◌^◌, get_or}
use Rattle.std.proofs.lemmas.List.{length-take}
use Rattle.std.proofs.lemmas.Nat.{and_mask}
use Rattle.bit_store.specs.Bits.{bits_of}
use Rattle.bit_store.proofs.Views.{bit_in}
use Rattle.bit_store.proofs.view.BitView.get.Goals as goal

pub returns : goal.returns
returns c =
    let bytes = c.self.inside.bytes.now in
    let asked : c.args.i < length c.args.self.now = c.requires in
    let lt : c.args.i < c.self.inside.len = omega (arith, length-take c.self.inside.len (bits_of bytes), rw (← c.self.view_is) at asked) in
    rw (← c.self.view_is) (ap (λ x. eqb x 1) (and_mask (get_or bytes (c.args.i / 8) 0 / 2 ^ (c.args.i % 8)) 1) ∙ bit_in bytes c.args.i c.self.inside.len c.slice_fits.ensures lt (omega (arith, c.self.invariant)))
