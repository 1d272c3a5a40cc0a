use Rattle.std.proofs.Common.{◌≡◌, ℕ, ◌+◌, ◌*◌, ◌/◌, ◌%◌, ◌^◌, ◌<◌, ◌≤◌, Bool, List, [], ◌++◌, length, refl, sym, ap, ◌∙◌, arith}
use Rattle.std.specs.Int.{w64, to_be_bytes}
use Rattle.bit_store.specs.Bits.{bits_of}
use Rattle.bit_store.proofs.Texts.{length-bits_of, bits_of-append}
use Rattle.elias_fano.specs.Writing.{head_of, room_for}
use Rattle.elias_fano.proofs.Written.{begun, same_items}
use Rattle.elias_fano.proofs.writer.EfWriter.of.Goals as goal

pub push_text-requires-2-clause-aligned : goal.push_text-requires-2-clause-aligned
push_text-requires-2-clause-aligned c =
    let first : c.push_text.new.self.bits ≡ bits_of (to_be_bytes w64 c.args.count) =
    ap (λ r. r.bits) c.push_text.ensures ∙ ap (λ r. r.bits ++ bits_of c.to_be_bytes.result) c.in_ok-lower.ensures ∙ ap bits_of c.to_be_bytes.ensures in
    let room : c.push_text.new.self.room ≡ room_for c.width_for-width.result c.args.count c.args.last =
    ap (λ r. r.room) c.push_text.ensures ∙ ap (λ r. r.room) c.in_ok-lower.ensures ∙ ap (λ w. 128 + 8 * ((c.args.count * w + 7) / 8) + 8 * ((c.args.last / 2 ^ c.width_for-width.result + c.args.count + 7) / 8)) c.from.ensures in
    let count_bytes : length (to_be_bytes w64 c.args.count) ≡ 8 = refl in
    let long : length c.push_text.new.self.bits ≡ 64 = ap length first ∙ omega (arith, length-bits_of (to_be_bytes w64 c.args.count), count_bytes) in
    rw long refl

pub push_text-requires-2-clause-room : goal.push_text-requires-2-clause-room
push_text-requires-2-clause-room c =
    let first : c.push_text.new.self.bits ≡ bits_of (to_be_bytes w64 c.args.count) =
    ap (λ r. r.bits) c.push_text.ensures ∙ ap (λ r. r.bits ++ bits_of c.to_be_bytes.result) c.in_ok-lower.ensures ∙ ap bits_of c.to_be_bytes.ensures in
    let room : c.push_text.new.self.room ≡ room_for c.width_for-width.result c.args.count c.args.last =
    ap (λ r. r.room) c.push_text.ensures ∙ ap (λ r. r.room) c.in_ok-lower.ensures ∙ ap (λ w. 128 + 8 * ((c.args.count * w + 7) / 8) + 8 * ((c.args.last / 2 ^ c.width_for-width.result + c.args.count + 7) / 8)) c.from.ensures in
    let count_bytes : length (to_be_bytes w64 c.args.count) ≡ 8 = refl in
    let long : length c.push_text.new.self.bits ≡ 64 = ap length first ∙ omega (arith, length-bits_of (to_be_bytes w64 c.args.count), count_bytes) in
    let last_bytes : length c.to_be_bytes-2.result ≡ 8 = ap length c.to_be_bytes-2.ensures in
    omega (arith, long, room, last_bytes)

pub invariant_of-result : goal.invariant_of-result
invariant_of-result c =
    let first : c.push_text.new.self.bits ≡ bits_of (to_be_bytes w64 c.args.count) =
    ap (λ r. r.bits) c.push_text.ensures ∙ ap (λ r. r.bits ++ bits_of c.to_be_bytes.result) c.in_ok-lower.ensures ∙ ap bits_of c.to_be_bytes.ensures in
    let room : c.push_text.new.self.room ≡ room_for c.width_for-width.result c.args.count c.args.last =
    ap (λ r. r.room) c.push_text.ensures ∙ ap (λ r. r.room) c.in_ok-lower.ensures ∙ ap (λ w. 128 + 8 * ((c.args.count * w + 7) / 8) + 8 * ((c.args.last / 2 ^ c.width_for-width.result + c.args.count + 7) / 8)) c.from.ensures in
    let head : c.push_text-2.new.self.bits ≡ bits_of (head_of c.args.count c.args.last) =
    ap (λ r. r.bits) c.push_text-2.ensures ∙ ap (λ bs. bs ++ bits_of c.to_be_bytes-2.result) first ∙ ap (λ bytes. bits_of (to_be_bytes w64 c.args.count) ++ bits_of bytes) c.to_be_bytes-2.ensures ∙ sym (bits_of-append (to_be_bytes w64 c.args.count) (to_be_bytes w64 c.args.last)) in
    let done = begun c.args.count c.args.last c.width_for-width.result c.push_text-2.new.self c.in_ok-upper.upper c.requires.some c.requires.few (omega (arith, c.ranges.last.fits)) c.width_for-width.ensures.narrow c.width_for-width.ensures.value
    head (ap (λ r. r.room) c.push_text-2.ensures ∙ room) (ap (λ r. r.bits) c.in_ok-upper.ensures) (ap (λ r. r.room) c.in_ok-upper.ensures) in
    done.writing

pub returns : goal.returns
returns c =
    let first : c.push_text.new.self.bits ≡ bits_of (to_be_bytes w64 c.args.count) =
    ap (λ r. r.bits) c.push_text.ensures ∙ ap (λ r. r.bits ++ bits_of c.to_be_bytes.result) c.in_ok-lower.ensures ∙ ap bits_of c.to_be_bytes.ensures in
    let room : c.push_text.new.self.room ≡ room_for c.width_for-width.result c.args.count c.args.last =
    ap (λ r. r.room) c.push_text.ensures ∙ ap (λ r. r.room) c.in_ok-lower.ensures ∙ ap (λ w. 128 + 8 * ((c.args.count * w + 7) / 8) + 8 * ((c.args.last / 2 ^ c.width_for-width.result + c.args.count + 7) / 8)) c.from.ensures in
    let head : c.push_text-2.new.self.bits ≡ bits_of (head_of c.args.count c.args.last) =
    ap (λ r. r.bits) c.push_text-2.ensures ∙ ap (λ bs. bs ++ bits_of c.to_be_bytes-2.result) first ∙ ap (λ bytes. bits_of (to_be_bytes w64 c.args.count) ++ bits_of bytes) c.to_be_bytes-2.ensures ∙ sym (bits_of-append (to_be_bytes w64 c.args.count) (to_be_bytes w64 c.args.last)) in
    let done = begun c.args.count c.args.last c.width_for-width.result c.push_text-2.new.self c.in_ok-upper.upper c.requires.some c.requires.few (omega (arith, c.ranges.last.fits)) c.width_for-width.ensures.narrow c.width_for-width.ensures.value
    head (ap (λ r. r.room) c.push_text-2.ensures ∙ room) (ap (λ r. r.bits) c.in_ok-upper.ensures) (ap (λ r. r.room) c.in_ok-upper.ensures) in
    same_items c.args.count c.args.last _ _ done.are
