use Rattle.std.proofs.Common.{◌≡◌, ℕ, ◌+◌, ◌-◌, ◌*◌, ◌/◌, ◌%◌, ◌^◌, ◌≤◌, Bool, false, List, ◌++◌, length, replicate, refl, sym, ap, ◌∙◌, arith}
use Rattle.std.proofs.lemmas.List.{length-append, length-replicate, append_assoc}
use Rattle.std.specs.Int.{w64, to_be_bytes}
use Rattle.bit_store.specs.Bits.{bits_of, bytes_for, text_of}
use Rattle.elias_fano.specs.Spelling.{spelling, spelled, last_of, low_width, lower_bits, upper_bits}
use Rattle.elias_fano.specs.Writing.{head_of, items_in}
use Rattle.elias_fano.proofs.Behind.{parts_behind, header_fits}
use Rattle.elias_fano.proofs.Written.{lower-long, upper-long}
use Rattle.elias_fano.proofs.writer.EfWriter.finish.Goals as goal

pub push_zeros-requires : goal.push_zeros-requires
push_zeros-requires c =
    let s = c.self.inside in
    let w = c.self.invariant in
    let items = items_in s.placed s.width s.lower.bits s.upper.bits in
    let n : length items ≡ s.count = rw (← c.self.view_is) at c.requires.whole in
    let end : last_of items ≡ s.last = rw (← c.self.view_is) at c.requires.last in
    let long = lower-long s.count s.last s.width s.lower.bits items w.lower_is in
    let fields : length items * s.width ≡ s.count * s.width = ap (λ k. k * s.width) n in
    let used : c.len-used.result ≡ length s.lower.bits = c.len-used.ensures in
    omega (arith, long, fields, used, w.lower_room)

pub append-requires-clause-room : goal.append-requires-clause-room
append-requires-clause-room c =
    let s = c.self.inside in
    let w = c.self.invariant in
    let items = items_in s.placed s.width s.lower.bits s.upper.bits in
    let n : length items ≡ s.count = rw (← c.self.view_is) at c.requires.whole in
    let end : last_of items ≡ s.last = rw (← c.self.view_is) at c.requires.last in
    let long = lower-long s.count s.last s.width s.lower.bits items w.lower_is in
    let fields : length items * s.width ≡ s.count * s.width = ap (λ k. k * s.width) n in
    let used : c.len-used.result ≡ length s.lower.bits = c.len-used.ensures in
    let pad : ℕ = (8 - c.len-used.result % 8) % 8 in
    let up = upper-long s.width s.upper.bits items w.upper_is in
    let top : last_of items / 2 ^ s.width ≡ s.last / 2 ^ s.width = ap (λ k. k / 2 ^ s.width) end in
    let bits : length c.push_zeros.new.self.bits ≡ length s.lower.bits + pad = ap (λ r. length r.bits) c.push_zeros.ensures ∙ length-append s.lower.bits (replicate pad false) ∙ ap (λ k. length s.lower.bits + k) (length-replicate pad false) in
    let room : c.push_zeros.new.self.room ≡ s.lower.room = ap (λ r. r.room) c.push_zeros.ensures in
    omega (arith, long, fields, used, w.lower_room, up, top, n, bits, room)

pub returns : goal.returns
unfolding spelling
returns c =
    let s = c.self.inside in
    let w = c.self.invariant in
    let items = items_in s.placed s.width s.lower.bits s.upper.bits in
    let n : length items ≡ s.count = rw (← c.self.view_is) at c.requires.whole in
    let end : last_of items ≡ s.last = rw (← c.self.view_is) at c.requires.last in
    let long = lower-long s.count s.last s.width s.lower.bits items w.lower_is in
    let fields : length items * s.width ≡ s.count * s.width = ap (λ k. k * s.width) n in
    let used : c.len-used.result ≡ length s.lower.bits = c.len-used.ensures in
    let head = head_of s.count s.last in
    let low = bits_of head ++ lower_bits s.width items in
    let pad : ℕ = (8 - c.len-used.result % 8) % 8 in
    let z : ℕ = 8 * bytes_for (length low) - length low in
    let size : length s.lower.bits ≡ length low = ap length w.lower_is in
    let same : pad ≡ z = omega (arith, used, size) in
    let filled : c.push_zeros.new.self.bits ≡ low ++ replicate z false =
    ap (λ r. r.bits) c.push_zeros.ensures ∙ ap (λ bs. bs ++ replicate pad false) w.lower_is ∙ ap (λ k. low ++ replicate k false) same in
    let whole : c.append.new.self.bits ≡ (low ++ replicate z false) ++ upper_bits s.width items =
    ap (λ r. r.bits) c.append.ensures ∙ ap (λ bs. bs ++ s.upper.bits) filled ∙ ap (λ bs. (low ++ replicate z false) ++ bs) w.upper_is in
    let rest = text_of (lower_bits s.width items) ++ text_of (upper_bits s.width items) in
    rw (← c.self.view_is) (c.finish.ensures ∙ ap text_of whole ∙ parts_behind head (lower_bits s.width items) (upper_bits s.width items) z (header_fits s.count s.last) refl
    ∙ append_assoc (to_be_bytes w64 s.count) (to_be_bytes w64 s.last) rest
    ∙ ap (λ k. to_be_bytes w64 k ++ (to_be_bytes w64 s.last ++ rest)) (sym n) ∙ ap (λ k. to_be_bytes w64 (length items) ++ (to_be_bytes w64 k ++ rest)) (sym end)
    ∙ ap (λ l. spelled l items) (w.width_is ∙ ap (λ k. low_width k s.last) (sym n) ∙ ap (low_width (length items)) (sym end)))
