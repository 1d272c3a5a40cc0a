use Rattle.std.proofs.Common.{arith, refl, ◌∙◌, ◌≡◌, ℕ, ◌%◌, ◌^◌, ◌-◌, ◌+◌, ◌/◌, ◌*◌, ◌++◌, get_or, set, take, length}
use Rattle.std.specs.Int.{w64, to_le_bytes}
use Rattle.std.proofs.lemmas.Nat.{one_shl}
use Rattle.bit_store.proofs.Texts.{IsBytes}
use Rattle.bit_store.proofs.Writing.{last_low, part_fits, filled, whole_bytes}
use Rattle.bit_store.proofs.bits.put.Goals as goal

pub fill-requires-clause-low : goal.fill-requires-clause-low
fill-requires-clause-low c =
    let bytes : IsBytes c.extend_from_slice.new.self.items = rw (c.as_slice.ensures.value) at c.slice_fits.ensures in
    let end : c.len-end.result ≡ length c.args.bytes.now.items = omega arith in
    last_low c.args.len c.len-end.result c.args.bytes.now.items _ c.extend_from_slice.new.self.items end c.in_ok-extend_from_slice.ensures.items bytes c.requires.held (omega arith)

pub fill-requires-clause-part : goal.fill-requires-clause-part
fill-requires-clause-part c =
    let room : ℕ = (8 - c.args.len % 8) % 8 in
    rw (one_shl room 64 (omega arith)) (part_fits (c.args.len % 8) room c.args.value (omega arith))

pub returns-then-room-gt0-clause-ok : goal.returns-then-room-gt0-clause-ok
returns-then-room-gt0-clause-ok c =
    let room : ℕ = (8 - c.args.len % 8) % 8 in
    let bytes : IsBytes c.extend_from_slice.new.self.items = rw (c.as_slice.ensures.value) at c.slice_fits.ensures in
    let end : c.len-end.result ≡ length c.args.bytes.now.items = omega arith in
    let mid : c.extend_from_slice.new.self.items ≡ c.args.bytes.now.items ++ take ((c.args.width - room + 7) / 8) (to_le_bytes w64 (c.args.value / 2 ^ room)) = c.in_ok-extend_from_slice.ensures.items ∙ (rw (c.to_le_bytes.ensures, c.saturating_sub.ensures) refl) in
    let new : c.fill.new.bytes.items ≡ set c.extend_from_slice.new.self.items (c.len-end.result - 1) (get_or c.extend_from_slice.new.self.items (c.len-end.result - 1) 0 + 2 ^ (c.args.len % 8) * (c.args.value % 2 ^ room)) = c.fill.ensures.items ∙ (rw (one_shl room 64 (omega arith)) refl) in
    filled c.args.len c.args.width c.args.value room c.len-end.result c.args.bytes.now.items c.extend_from_slice.new.self.items c.fill.new.bytes.items end refl c.if-room-gt0.true c.requires.part c.ranges.value.fits c.requires.wide c.requires.held mid bytes new

pub returns-else-room-gt0-clause-ok : goal.returns-else-room-gt0-clause-ok
returns-else-room-gt0-clause-ok c =
    let room : ℕ = (8 - c.args.len % 8) % 8 in
    let mid : c.extend_from_slice.new.self.items ≡ c.args.bytes.now.items ++ take ((c.args.width - room + 7) / 8) (to_le_bytes w64 (c.args.value / 2 ^ room)) = c.in_ok-extend_from_slice.ensures.items ∙ (rw (c.to_le_bytes.ensures, c.saturating_sub.ensures) refl) in
    whole_bytes c.args.len c.args.width c.args.value room c.args.bytes.now.items c.extend_from_slice.new.self.items refl (omega arith) c.requires.part c.ranges.value.fits c.requires.wide c.requires.held mid
