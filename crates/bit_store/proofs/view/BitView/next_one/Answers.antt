use Rattle.std.proofs.Common.{arith, ◌∙◌, ◌≤◌, ◌+◌, length}
use Rattle.bit_store.proofs.Views.{Placed, placed, lowest, no_ones}
use Rattle.std.specs.Int.{w64, trailing_zeros}
use Rattle.bit_store.proofs.view.BitView.next_one.Goals as goal

found : (c : goal.After-from) → Placed c.args.self.now c.loop-at.at c.min-width.result (trailing_zeros w64 c.field-word.result) 0
found c =
    let within : c.loop-at.at + c.min-width.result ≤ length c.args.self.now = omega arith in
    placed c.args.self.now c.loop-at.at c.min-width.result c.field-word.result (trailing_zeros w64 c.field-word.result) 0 within c.field-word.ensures (lowest c.field-word.result (omega arith) (omega arith))

pub overflow_add-result : goal.overflow_add-result
overflow_add-result c = let f = found c in record { fits = omega (arith, f.within, c.from.ensures) }

pub returns-then-word-ne0-clause-found : goal.returns-then-word-ne0-clause-found
returns-then-word-ne0-clause-found c = let f = found c in rw c.from.ensures (omega arith, f.one, omega (arith, f.before, c.loop-at.invariant.none))

pub loop-at-preserved : goal.loop-at-preserved
loop-at-preserved c =
    let e = no_ones c.loop-at.at c.min-width.result c.field-word.result c.args.self.now c.field-word.ensures c.if-word-ne0.false in
    record { from = omega arith; within = omega arith; none = e ∙ c.loop-at.invariant.none }
