use Rattle.std.proofs.Common.{◌≡◌, ℕ, ◌+◌, ◌*◌, ◌%◌, ◌^◌, ◌≤◌, ◌++◌, length, take, sym, ap, ◌∙◌, arith}
use Rattle.bit_store.specs.Bits.{bits_of, bytes_for, IsHeld}
use Rattle.bit_store.proofs.Room.{same_reserved, held-length, behind, text_held}
use Rattle.bit_store.proofs.reserved.ReservedBits.append.Goals as goal

pub invariant_of-self : goal.invariant_of-self
invariant_of-self c =
    let n : length c.args.self.now.bits ≡ c.self.inside.len = rw (← c.self.view_is) (held-length c.self.inside.len c.self.inside.bytes.items c.self.invariant.0) in
    let room : c.self.inside.room ≡ c.args.self.now.room = ap (λ r. r.room) c.self.view_is in
    let whole : c.self.inside.len % 8 ≡ 0 = ap (λ x. x % 8) (sym n) ∙ c.requires.aligned in
    let m : length c.args.others.bits ≡ c.others.inside.len = rw (← c.others.view_is) (held-length c.others.inside.len c.others.inside.bytes.items c.others.invariant.0) in
    (rw (c.in-Ok.ensures.items, c.as_slice.ensures.value) ((behind c.self.inside.len c.others.inside.len c.self.inside.bytes.items c.others.inside.bytes.items c.self.invariant.0 whole c.others.invariant.0).1), (omega (arith, n, room, m, c.requires.room), (c.self.invariant.1.1.0, omega (arith, c.self.invariant.1.1.1, c.in-Ok.ensures.capacity))))

pub unreachable-requires : goal.unreachable-requires
unreachable-requires c =
    let n : length c.args.self.now.bits ≡ c.self.inside.len = rw (← c.self.view_is) (held-length c.self.inside.len c.self.inside.bytes.items c.self.invariant.0) in
    let room : c.self.inside.room ≡ c.args.self.now.room = ap (λ r. r.room) c.self.view_is in
    let whole : c.self.inside.len % 8 ≡ 0 = ap (λ x. x % 8) (sym n) ∙ c.requires.aligned in
    let m : length c.args.others.bits ≡ c.others.inside.len = rw (← c.others.view_is) (held-length c.others.inside.len c.others.inside.bytes.items c.others.invariant.0) in
    omega (arith, n, room, whole, m, c.requires.room, c.others.invariant.0.count, c.self.invariant.0.count, c.self.invariant.1.1.1, c.in-Err.ensures.full)

pub returns : goal.returns
returns c =
    let n : length c.args.self.now.bits ≡ c.self.inside.len = rw (← c.self.view_is) (held-length c.self.inside.len c.self.inside.bytes.items c.self.invariant.0) in
    let whole : c.self.inside.len % 8 ≡ 0 = ap (λ x. x % 8) (sym n) ∙ c.requires.aligned in
    rw (← c.self.view_is, ← c.others.view_is) (same_reserved _ _ c.self.inside.room (ap (λ bytes. take (c.self.inside.len + c.others.inside.len) (bits_of bytes)) (c.in-Ok.ensures.items ∙ ap (λ text. c.self.inside.bytes.items ++ text) c.as_slice.ensures.value) ∙ (behind c.self.inside.len c.others.inside.len c.self.inside.bytes.items c.others.inside.bytes.items c.self.invariant.0 whole c.others.invariant.0).0))
