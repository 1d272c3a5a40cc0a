use Rattle.std.proofs.Common.{arith, sym, ap, ◌∙◌, ◌≡◌, ◌≤◌, ◌+◌, ◌-◌, length, take, ℕ}
use Rattle.bit_store.specs.Bits.{ones_of}
use Rattle.bit_store.proofs.Views.{placed, highest, no_ones, ones_field, ones_of-nil}
use Rattle.bit_store.proofs.view.BitView.last_one.Goals as goal

pub returns-then-word-ne0-clause-found : goal.returns-then-word-ne0-clause-found
returns-then-word-ne0-clause-found c =
    let bits = c.args.self.now in
    let start : ℕ = c.loop-at.at - c.min-width.result in
    let top = highest c.field-word.result c.ilog2.result c.ilog2.ensures.power_le c.ilog2.ensures.next_power_gt c.ilog2.ensures.bound in
    let within : start + c.min-width.result ≤ length bits = omega arith in
    let f = placed bits start c.min-width.result c.field-word.result c.ilog2.result top.0 within c.field-word.ensures top.1 in
    let all = ones_field start c.min-width.result c.field-word.result bits c.field-word.ensures in
    let whole : start + c.min-width.result ≡ c.loop-at.at = omega arith in
    let same = ap (λ n. ones_of (take n bits)) whole in
    rw c.from.ensures (omega (arith, f.within), f.one, omega (arith, f.before, top.2, all, same, c.loop-at.invariant.none))

pub loop-at-preserved : goal.loop-at-preserved
loop-at-preserved c =
    let bits = c.args.self.now in
    let start : ℕ = c.loop-at.at - c.min-width.result in
    let whole : start + c.min-width.result ≡ c.loop-at.at = omega arith in
    let same = ap (λ n. ones_of (take n bits)) whole in
    record { within = omega arith; none = c.loop-at.invariant.none ∙ sym same ∙ no_ones start c.min-width.result c.field-word.result bits c.field-word.ensures c.if-word-ne0.false }

pub returns-clause-none : goal.returns-clause-none
returns-clause-none c =
    let bits = c.args.self.now in
    let stop : c.loop-at.at ≡ 0 = omega arith in
    c.loop-at.invariant.none ∙ ap (λ n. ones_of (take n bits)) stop ∙ ones_of-nil
