use Rattle.std.proofs.Common.{◌≡◌, ℕ, ◌+◌, ◌*◌, ◌%◌, ◌^◌, ◌≤◌, ◌++◌, length, take, sym, ap, ◌∙◌, arith}
use Rattle.bit_store.specs.Bits.{bits_of, bytes_for, IsHeld}
use Rattle.std.proofs.lemmas.List.{take_all}
use Rattle.bit_store.proofs.Texts.{length-bits_of}
use Rattle.bit_store.proofs.Room.{same_reserved, held-length, behind, text_held}
use Rattle.bit_store.proofs.reserved.ReservedBits.push_text.Goals as goal

pub invariant_of-self : goal.invariant_of-self
invariant_of-self c =
    let n : length c.args.self.now.bits ≡ c.self.inside.len = rw (← c.self.view_is) (held-length c.self.inside.len c.self.inside.bytes.items c.self.invariant.0) in
    let room : c.self.inside.room ≡ c.args.self.now.room = ap (λ r. r.room) c.self.view_is in
    let whole : c.self.inside.len % 8 ≡ 0 = ap (λ x. x % 8) (sym n) ∙ c.requires.aligned in
    (rw (c.in-Ok.ensures.items) ((behind c.self.inside.len (8 * length c.args.text.now) c.self.inside.bytes.items c.args.text.now c.self.invariant.0 whole (text_held c.args.text.now)).1), (omega (arith, n, room, c.requires.room), (c.self.invariant.1.1.0, omega (arith, c.self.invariant.1.1.1, c.in-Ok.ensures.capacity))))

pub unreachable-requires : goal.unreachable-requires
unreachable-requires c =
    let n : length c.args.self.now.bits ≡ c.self.inside.len = rw (← c.self.view_is) (held-length c.self.inside.len c.self.inside.bytes.items c.self.invariant.0) in
    let room : c.self.inside.room ≡ c.args.self.now.room = ap (λ r. r.room) c.self.view_is in
    let whole : c.self.inside.len % 8 ≡ 0 = ap (λ x. x % 8) (sym n) ∙ c.requires.aligned in
    omega (arith, n, room, whole, c.requires.room, c.self.invariant.0.count, c.self.invariant.1.1.1, c.in-Err.ensures.full)

pub returns : goal.returns
returns c =
    let n : length c.args.self.now.bits ≡ c.self.inside.len = rw (← c.self.view_is) (held-length c.self.inside.len c.self.inside.bytes.items c.self.invariant.0) in
    let whole : c.self.inside.len % 8 ≡ 0 = ap (λ x. x % 8) (sym n) ∙ c.requires.aligned in
    let all : take (8 * length c.args.text.now) (bits_of c.args.text.now) ≡ bits_of c.args.text.now = take_all (8 * length c.args.text.now) (bits_of c.args.text.now) (omega (arith, length-bits_of c.args.text.now)) in
    rw (← c.self.view_is) (same_reserved _ _ c.self.inside.room (ap (λ bytes. take (c.self.inside.len + 8 * length c.args.text.now) (bits_of bytes)) c.in-Ok.ensures.items ∙ (behind c.self.inside.len (8 * length c.args.text.now) c.self.inside.bytes.items c.args.text.now c.self.invariant.0 whole (text_held c.args.text.now)).0 ∙ ap (λ bits. take c.self.inside.len (bits_of c.self.inside.bytes.items) ++ bits) all))
