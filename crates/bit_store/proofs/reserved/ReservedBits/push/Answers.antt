use Rattle.std.proofs.Common.{◌≡◌, ℕ, ◌+◌, ◌-◌, ◌*◌, ◌/◌, ◌%◌, ◌^◌, ◌<◌, ◌≤◌, Bool, false, List, [], ◌++◌, length, take, replicate, refl, sym, ap, ◌∙◌, arith}
use Rattle.bit_store.specs.Bits.{low_bits, bits_of, bytes_for, IsHeld}
use Rattle.bit_store.proofs.Texts.{appended}
use Rattle.bit_store.proofs.Room.{reserved, same_reserved, held-length, behind, text_held}
use Rattle.bit_store.proofs.reserved.ReservedBits.push.Goals as goal

pub invariant_of-self : goal.invariant_of-self
invariant_of-self c =
    let n : length c.args.self.now.bits ≡ c.self.inside.len = rw (← c.self.view_is) (held-length c.self.inside.len c.self.inside.bytes.items c.self.invariant.0) in
    let room : c.self.inside.room ≡ c.args.self.now.room = ap (λ r. r.room) c.self.view_is in
    let grown = appended c.self.inside.len c.args.width c.args.value c.low_part.result c.self.inside.bytes.items c.put.new.bytes.items c.self.invariant.0 c.low_part.ensures c.in-Ok.ensures.ok c.in-Ok.ensures.count in
    (grown.1, (omega (arith, n, room, c.requires.room), (c.self.invariant.1.1.0, omega (arith, c.self.invariant.1.1.1, c.in-Ok.ensures.capacity))))

pub unreachable-requires : goal.unreachable-requires
unreachable-requires c =
    let n : length c.args.self.now.bits ≡ c.self.inside.len = rw (← c.self.view_is) (held-length c.self.inside.len c.self.inside.bytes.items c.self.invariant.0) in
    let room : c.self.inside.room ≡ c.args.self.now.room = ap (λ r. r.room) c.self.view_is in
    omega (arith, n, room, c.requires.room, c.self.invariant.1.1.1, c.in-Err.ensures.full)

pub returns : goal.returns
returns c = rw (← c.self.view_is) (same_reserved _ _ c.self.inside.room (appended c.self.inside.len c.args.width c.args.value c.low_part.result c.self.inside.bytes.items c.put.new.bytes.items c.self.invariant.0 c.low_part.ensures c.in-Ok.ensures.ok c.in-Ok.ensures.count).0)
