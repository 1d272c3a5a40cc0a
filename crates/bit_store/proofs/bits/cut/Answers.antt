use Rattle.std.proofs.Common.{arith, refl, ◌≡◌, ◌/◌, ◌%◌, ◌^◌, ◌*◌, get_or, set}
use Rattle.std.proofs.lemmas.Nat.{one_shl}
use Rattle.std.proofs.lemmas.List.{get_or_read}
use Rattle.bit_store.proofs.Texts.{IsBytes}
use Rattle.bit_store.proofs.Writing.{cut_whole, cut_inside}
use Rattle.bit_store.proofs.bits.cut.Goals as goal

pub returns-then-used-eq0-clause-value : goal.returns-then-used-eq0-clause-value
returns-then-used-eq0-clause-value c = cut_whole c.args.len c.args.bytes.now.items c.truncate.new.self.items c.if-used-eq0.true c.truncate.ensures.items

pub returns-clause-value : goal.returns-clause-value
returns-clause-value c =
    let bytes : IsBytes c.truncate-2.new.self.items = rw (c.as_slice.ensures.value) at c.slice_fits.ensures in
    let last : c.index-last.result.now ≡ get_or c.truncate-2.new.self.items (c.args.len / 8) 0 = get_or_read c.truncate-2.new.self.items (c.args.len / 8) _ (omega arith) c.index-last.ensures 0 in
    cut_inside c.args.len c.index-last.result.now c.args.bytes.now.items c.truncate-2.new.self.items (set c.truncate-2.new.self.items (c.args.len / 8) (c.index-last.result.now % (1 * 2 ^ (c.args.len % 8) % 256))) c.requires (omega arith) c.truncate-2.ensures.items bytes last (rw (one_shl (c.args.len % 8) 8 (omega arith)) refl)
