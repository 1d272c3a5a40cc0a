use Rattle.std.proofs.Common.{◌<◌, ◌≤◌, ◌+◌, ◌/◌, ◌^◌, ℕ, arith, inl, inr}
use Rattle.std.proofs.lemmas.Bool.{cases_lt}
use Rattle.elias_fano.specs.Reading.{item_at, IsListed}
use Rattle.elias_fano.specs.declared.parts.Parts.{Parts}
use Rattle.elias_fano.specs.Marks.{AreBelow}
use Rattle.elias_fano.proofs.Bounds.{in_order, end_inside, places_at, ones_among, item-below, item-above}
use Rattle.elias_fano.proofs.finding.first_far.Goals as goal

-- the items before the place are below
below : (p : Parts) (at start place : ℕ) → IsListed p → place ≤ p.count → AreBelow p (at / 2 ^ p.width) start → ((i : ℕ) → start ≤ i → i < place → item_at p i < at) → (i : ℕ) → i < place → item_at p i < at
below p at start place listed within low rest i lt =
    elim (cases_lt i start) [
      | inl less ↦ item-below p i at listed.sound (omega arith) (low.below i less)
      | inr le ↦ rest i le lt
    ]

-- and the item there is not
above : (p : Parts) (at end place : ℕ) → IsListed p → place < p.count → place ≤ end → AreBelow p (at / 2 ^ p.width + 1) end → ((i : ℕ) → place ≤ i → i < end → at ≤ item_at p i) → at ≤ item_at p place
above p at end place listed within le up rest =
    elim (cases_lt place end) [
      | inl less ↦ rest place (omega arith) less
      | inr ge ↦ item-above p place at listed.sound within (up.above place ge within)
    ]

pub first_in-place-requires-clause-order : goal.first_in-place-requires-clause-order
first_in-place-requires-clause-order c = in_order c.args.parts.now (c.args.at / 2 ^ c.args.parts.now.width) c.args.start c.items_up_to-end.result c.requires.lower c.items_up_to-end.ensures

pub first_in-place-requires-clause-room : goal.first_in-place-requires-clause-room
first_in-place-requires-clause-room c =
    let p = c.args.parts.now in
    let sound = c.requires.listed.sound in
    omega (arith, sound.room, end_inside p (c.args.at / 2 ^ c.args.parts.now.width) c.args.start c.items_up_to-end.result sound.ones c.requires.lower c.items_up_to-end.ensures c.requires.more)

pub first_in-place-requires-clause-places : goal.first_in-place-requires-clause-places
first_in-place-requires-clause-places c =
    let p = c.args.parts.now in
    λ i from to. places_at p (c.args.at / 2 ^ c.args.parts.now.width) c.args.start c.items_up_to-end.result i c.requires.listed.sound.ones c.requires.lower c.items_up_to-end.ensures from to

pub returns-then-place-parts-clause-none : goal.returns-then-place-parts-clause-none
returns-then-place-parts-clause-none c = λ i lt.
    below c.args.parts.now c.args.at c.args.start c.first_in-place.result c.requires.listed (omega (arith, c.if-place-parts.true)) c.requires.lower c.first_in-place.ensures.below i (omega (arith, lt, c.if-place-parts.true))

pub overflow_add-high : goal.overflow_add-high
overflow_add-high c =
    let p = c.args.parts.now in
    let sound = c.requires.listed.sound in
    record { fits = omega (arith, sound.room, c.first_in-place.ensures.to, end_inside p (c.args.at / 2 ^ c.args.parts.now.width) c.args.start c.items_up_to-end.result sound.ones c.requires.lower c.items_up_to-end.ensures c.requires.more) }

pub one_from-requires-clause-inside : goal.one_from-requires-clause-inside
one_from-requires-clause-inside c =
    let p = c.args.parts.now in
    let sound = c.requires.listed.sound in
    omega (arith, c.first_in-place.ensures.to, end_inside p (c.args.at / 2 ^ c.args.parts.now.width) c.args.start c.items_up_to-end.result sound.ones c.requires.lower c.items_up_to-end.ensures c.requires.more)

pub one_from-requires-clause-before : goal.one_from-requires-clause-before
one_from-requires-clause-before c =
    let p = c.args.parts.now in
    ones_among p (c.args.at / 2 ^ c.args.parts.now.width) c.args.start c.items_up_to-end.result c.first_in-place.result c.requires.listed.sound.ones c.requires.lower c.items_up_to-end.ensures c.first_in-place.ensures.from c.first_in-place.ensures.to

pub returns-clause-found : goal.returns-clause-found
returns-clause-found c =
    let within : c.first_in-place.result < c.args.parts.now.count = omega (arith, c.first_in-place.ensures.to, c.items_up_to-end.ensures.within, c.if-place-parts.false) in
    (within, c.one_from.ensures, above c.args.parts.now c.args.at c.items_up_to-end.result c.first_in-place.result c.requires.listed within c.first_in-place.ensures.to c.items_up_to-end.ensures c.first_in-place.ensures.above)

pub returns-clause-first : goal.returns-clause-first
returns-clause-first c =
    below c.args.parts.now c.args.at c.args.start c.first_in-place.result c.requires.listed (omega (arith, c.first_in-place.ensures.to, c.items_up_to-end.ensures.within)) c.requires.lower c.first_in-place.ensures.below
