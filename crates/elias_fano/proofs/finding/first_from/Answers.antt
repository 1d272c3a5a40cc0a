use Rattle.std.proofs.Common.{◌<◌, ◌≤◌, ◌+◌, ◌/◌, ◌^◌, ℕ, arith, inl, inr}
use Rattle.std.proofs.lemmas.Bool.{cases_lt}
use Rattle.elias_fano.proofs.Bounds.{start_inside, ones_at_start, item-below}
use Rattle.elias_fano.proofs.finding.first_from.Goals as goal

pub returns-then-start-parts-clause-none : goal.returns-then-start-parts-clause-none
returns-then-start-parts-clause-none c = λ i lt. item-below c.args.parts.now i c.args.at c.requires.listed.sound lt (c.items_below-start.ensures.below i (omega (arith, lt, c.if-start-parts.true)))

pub overflow_add-high : goal.overflow_add-high
overflow_add-high c =
    let p = c.args.parts.now in
    let sound = c.requires.listed.sound in
    record { fits = omega (arith, sound.room, start_inside p (c.args.at / 2 ^ p.width) c.items_below-start.result sound.ones c.items_below-start.ensures (omega (arith, c.items_below-start.ensures.within, c.if-start-parts.false))) }

pub first_near-requires-clause-inside : goal.first_near-requires-clause-inside
first_near-requires-clause-inside c =
    let p = c.args.parts.now in
    omega (arith, start_inside p (c.args.at / 2 ^ p.width) c.items_below-start.result c.requires.listed.sound.ones c.items_below-start.ensures (omega (arith, c.items_below-start.ensures.within, c.if-start-parts.false)))

pub first_near-requires-clause-before : goal.first_near-requires-clause-before
first_near-requires-clause-before c =
    let p = c.args.parts.now in
    ones_at_start p (c.args.at / 2 ^ p.width) c.items_below-start.result c.requires.listed.sound.ones c.items_below-start.ensures

pub returns-in-Some-clause-first : goal.returns-in-Some-clause-first
returns-in-Some-clause-first c = λ i lt.
    elim (cases_lt i c.items_below-start.result) [
      | inl less ↦ item-below c.args.parts.now i c.args.at c.requires.listed.sound (omega (arith, less, c.items_below-start.ensures.within)) (c.items_below-start.ensures.below i less)
      | inr le ↦ c.in-Some.ensures.first i le lt
    ]
