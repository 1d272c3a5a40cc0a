use Rattle.std.proofs.Common.{◌≡◌, ℕ, ◌+◌, ◌-◌, ◌*◌, ◌/◌, ◌%◌, ◌^◌, ◌<◌, ◌≤◌, Bool, false, List, [], ◌++◌, length, take, replicate, refl, sym, ap, ◌∙◌, arith}
use Rattle.bit_store.specs.Bits.{low_bits, bits_of, bytes_for, IsHeld}
use Rattle.bit_store.proofs.Writing.{zeros_held}
use Rattle.bit_store.proofs.Room.{reserved, same_reserved, held-length, behind, text_held}
use Rattle.bit_store.proofs.reserved.ReservedBits.push_zeros.Goals as goal

pub invariant_of-self : goal.invariant_of-self
invariant_of-self c =
    let n : length c.args.self.now.bits ≡ c.self.inside.len = rw (← c.self.view_is) (held-length c.self.inside.len c.self.inside.bytes.items c.self.invariant.0) in
    let room : c.self.inside.room ≡ c.args.self.now.room = ap (λ r. r.room) c.self.view_is in
    let same : c.self.inside.bytes.len ≡ length c.self.inside.bytes.items = omega arith in
    let grown : c.resize.new.self.items ≡ take ((c.self.inside.len + c.args.count + 7) / 8) c.self.inside.bytes.items ++ replicate ((c.self.inside.len + c.args.count + 7) / 8 - length c.self.inside.bytes.items) 0 = c.in-Ok.ensures.items ∙ (rw same refl) in
    ((zeros_held c.self.inside.len c.args.count c.self.inside.bytes.items c.resize.new.self.items c.self.invariant.0 grown).1, (omega (arith, n, room, c.requires), (c.self.invariant.1.1.0, omega (arith, c.self.invariant.1.1.1, c.in-Ok.ensures.capacity))))

pub unreachable-requires : goal.unreachable-requires
unreachable-requires c =
    let n : length c.args.self.now.bits ≡ c.self.inside.len = rw (← c.self.view_is) (held-length c.self.inside.len c.self.inside.bytes.items c.self.invariant.0) in
    let room : c.self.inside.room ≡ c.args.self.now.room = ap (λ r. r.room) c.self.view_is in
    omega (arith, n, room, c.requires, c.self.invariant.1.1.1, c.in-Err.ensures.full)

pub returns : goal.returns
returns c =
    let same : c.self.inside.bytes.len ≡ length c.self.inside.bytes.items = omega arith in
    let grown : c.resize.new.self.items ≡ take ((c.self.inside.len + c.args.count + 7) / 8) c.self.inside.bytes.items ++ replicate ((c.self.inside.len + c.args.count + 7) / 8 - length c.self.inside.bytes.items) 0 = c.in-Ok.ensures.items ∙ (rw same refl) in
    rw (← c.self.view_is) (same_reserved _ _ c.self.inside.room (zeros_held c.self.inside.len c.args.count c.self.inside.bytes.items c.resize.new.self.items c.self.invariant.0 grown).0)
