use Rattle.std.proofs.Common.{◌-◌, ◌*◌, ℕ, length, drop, ap, ◌∙◌, arith}
use Rattle.std.specs.Int.{w64, from_be_bytes}
use Rattle.btree_index.proofs.Spellings.{held_as, spelling_long, read_last}
use Rattle.btree_index.proofs.file.BTreeFile.offset_of.Goals as goal

pub overflow_mul-left : goal.overflow_mul-left
overflow_mul-left c =
    let h = held_as c.args.self.now c.self.invariant c.self.view_is in
    omega (arith, h.counted, spelling_long c.args.self.now c.as_slice-bytes.result.now (c.as_slice-bytes.ensures ∙ h.spelled))

pub overflow_sub-bytes : goal.overflow_sub-bytes
overflow_sub-bytes c =
    let h = held_as c.args.self.now c.self.invariant c.self.view_is in
    omega (arith, h.counted, spelling_long c.args.self.now c.as_slice-bytes.result.now (c.as_slice-bytes.ensures ∙ h.spelled))

pub u64_at-requires : goal.u64_at-requires
u64_at-requires c =
    let h = held_as c.args.self.now c.self.invariant c.self.view_is in
    omega (arith, h.counted, c.requires, spelling_long c.args.self.now c.as_slice-bytes.result.now (c.as_slice-bytes.ensures ∙ h.spelled))

pub returns : goal.returns
returns c =
    let h = held_as c.args.self.now c.self.invariant c.self.view_is in
    let read = read_last c.args.self.now c.as_slice-bytes.result.now c.args.place h.fits (c.as_slice-bytes.ensures ∙ h.spelled) c.requires in
    c.u64_at.ensures ∙ ap (λ (n : ℕ). from_be_bytes w64 (drop (length c.as_slice-bytes.result.now - 8 * (n - c.args.place)) c.as_slice-bytes.result.now)) h.counted ∙ read
