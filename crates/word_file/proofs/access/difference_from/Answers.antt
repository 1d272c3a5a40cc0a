use Rattle.std.proofs.Common.{◌≡◌, ℕ, take, sym, subst, arith}
use Rattle.word_file.proofs.Differences.{cells_differ, one_ends, both_end}
use Rattle.word_file.proofs.access.difference_from.Goals as goal

pub returns-then-one-i : goal.returns-then-one-i
returns-then-one-i c =
    sym (cells_differ c.args.one.now c.args.other.now c.loop-i.i (omega (arith, c.min-shorter.ensures)) (omega (arith, c.min-shorter.ensures)) c.loop-i.invariant c.if-one-i.true)

pub returns-then-one-other : goal.returns-then-one-other
returns-then-one-other c = sym (both_end c.args.one.now c.args.other.now c.loop-i.i (omega (arith, c.min-shorter.ensures, c.loop-i.auto)) (omega arith) c.loop-i.invariant)

pub returns-else-one-other : goal.returns-else-one-other
returns-else-one-other c =
    let ended : c.loop-i.i ≡ c.min-shorter.result = omega (arith, c.loop-i.auto) in
    let alike = subst (λ (i : ℕ). take i c.args.one.now ≡ take i c.args.other.now) ended c.loop-i.invariant in
    sym (one_ends c.args.one.now c.args.other.now c.min-shorter.result c.min-shorter.ensures c.if-one-other.false alike)
