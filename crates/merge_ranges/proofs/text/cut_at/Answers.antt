use Rattle.std.proofs.Common.{length, arith}
use Rattle.merge_ranges.proofs.Texts.{parts_are, mark_there, mark_inside}
use Rattle.merge_ranges.proofs.text.cut_at.Goals as goal

pub returns-then-byte-mark-clause-only : goal.returns-then-byte-mark-clause-only
returns-then-byte-mark-clause-only c =
    λ front back without same. parts_are c.args.text.now front back c.args.mark without same c.loop-i.i c.if-byte-mark.true c.loop-i.invariant

pub returns-clause-only : goal.returns-clause-only
returns-clause-only c =
    λ front back without same.
    let inside = mark_inside c.args.text.now front back c.args.mark without same in
    c.loop-i.invariant (length front) (omega arith) (mark_there c.args.text.now front back c.args.mark without same)
