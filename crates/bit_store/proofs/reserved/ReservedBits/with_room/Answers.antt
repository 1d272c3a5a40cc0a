use Rattle.std.proofs.Common.{◌≡◌, ℕ, ◌+◌, ◌-◌, ◌*◌, ◌/◌, ◌%◌, ◌^◌, ◌<◌, ◌≤◌, Bool, false, List, [], ◌++◌, length, take, replicate, refl, sym, ap, ◌∙◌, arith}
use Rattle.bit_store.specs.Bits.{low_bits, bits_of, bytes_for, IsHeld}
use Rattle.bit_store.proofs.Room.{reserved, same_reserved, held-length, behind, text_held}
use Rattle.bit_store.proofs.reserved.ReservedBits.with_room.Goals as goal

pub invariant_of-result : goal.invariant_of-result
invariant_of-result c = (rw (c.in_ok-bytes.ensures.items) (text_held []), (omega arith, (c.requires, omega (arith, c.in_ok-bytes.ensures.capacity))))
