use Rattle.std.proofs.Common.{◌≡◌, ℕ, ◌+◌, ◌-◌, ◌*◌, ◌/◌, ◌%◌, ◌^◌, ◌<◌, ◌≤◌, Bool, false, List, [], ◌++◌, length, take, replicate, refl, sym, ap, ◌∙◌, arith}
use Rattle.bit_store.specs.Bits.{low_bits, bits_of, bytes_for, IsHeld}
use Rattle.bit_store.proofs.Room.{reserved, same_reserved, held-length, behind, text_held}
use Rattle.bit_store.proofs.reserved.ReservedBits.len.Goals as goal

pub returns : goal.returns
returns c = rw (← c.self.view_is) (sym (held-length c.self.inside.len c.self.inside.bytes.items c.self.invariant.0))
