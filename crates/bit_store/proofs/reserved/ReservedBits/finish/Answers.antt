use Rattle.std.proofs.Common.{◌≡◌, ℕ, ◌+◌, ◌-◌, ◌*◌, ◌/◌, ◌%◌, ◌^◌, ◌<◌, ◌≤◌, Bool, false, List, [], ◌++◌, length, take, replicate, refl, sym, ap, ◌∙◌, arith}
use Rattle.bit_store.specs.Bits.{low_bits, bits_of, bytes_for, IsHeld}
use Rattle.bit_store.proofs.Texts.{IsBytes, text_of-held}
use Rattle.bit_store.proofs.Room.{reserved, same_reserved, held-length, behind, text_held}
use Rattle.bit_store.proofs.reserved.ReservedBits.finish.Goals as goal

pub returns : goal.returns
returns c =
    let bytes : IsBytes c.self.inside.bytes.items = rw (c.as_slice.ensures.value) at c.slice_fits.ensures in
    rw (c.from_vec.ensures, ← c.self.view_is) (sym (text_of-held c.self.inside.len c.self.inside.bytes.items bytes c.self.invariant.0))
