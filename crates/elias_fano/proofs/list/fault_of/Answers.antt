use Rattle.std.proofs.Common.{◌≡◌, ◌≤◌, ◌<◌, ◌+◌, ◌-◌, ◌*◌, ◌/◌, ◌^◌, ◌∙◌, ℕ, ap, sym, refl, arith, length, take, get_or}
use Rattle.std.proofs.lemmas.List.{take_all, length-take}
use Rattle.bit_store.specs.Bits.{ones_of}
use Rattle.bit_store.proofs.Numbers.{ones_of-le}
use Rattle.bit_store.proofs.Views.{ones_of-nil}
use Rattle.elias_fano.specs.Spelling.{last_of}
use Rattle.elias_fano.specs.Reading.{items_of, first_descent, place_of_one}
use Rattle.elias_fano.proofs.Places.{high-fits, next-place, ones-past, place-room, length-items_of, get_or-items_of}
use Rattle.elias_fano.proofs.Faults.{fall-more, fall-ended, last-more}
use Rattle.elias_fano.proofs.Checked.{fault-count, fault-ended}
use Rattle.elias_fano.proofs.list.fault_of.Goals as goal

pub loop-i-init : goal.loop-i-init
loop-i-init c = record { inside = omega arith; passed = ones_of-nil; rest = refl; last = refl }

pub overflow_sub-place : goal.overflow_sub-place
overflow_sub-place c =
    let up = c.args.parts.now.upper in
    let place : ℕ = c.in-Some.place in
    omega (arith, c.in-Some.ensures.found.2, c.loop-i.invariant.passed, ones_of-le (take place up), length-take place up)

pub overflow_add-found : goal.overflow_add-found
overflow_add-found c =
    let up = c.args.parts.now.upper in
    record { fits = omega (arith, c.ones_between.ensures, c.loop-i.invariant.passed, ones_of-le (take c.len-len.result up), length-take c.len-len.result up, c.requires.room) }

pub returns-then-place-i : goal.returns-then-place-i
returns-then-place-i c =
    let p = c.args.parts.now in
    let found = c.in-Some.ensures.found in
    let at = next-place p c.loop-i.i c.loop-i.at c.in-Some.place c.loop-i.invariant.passed found.1 found.2 in
    let all : ones_of (take c.len-len.result p.upper) ≡ ones_of p.upper = ap ones_of (take_all c.len-len.result p.upper (omega (arith, c.len-len.ensures))) in
    let more : c.loop-i.i + c.ones_between.result ≡ ones_of p.upper = omega (arith, all, c.ones_between.ensures, c.loop-i.invariant.passed) in
    let other : ones_of p.upper ≡ p.count → ⊥ = λ e. omega (arith, at, (place-room p.upper c.loop-i.i (omega (arith, e, c.loop-i-test.true))).1, e, c.requires.upper, c.if-place-i.true) in
    fault-count c.args.last (c.loop-i.i + c.ones_between.result) p other more

pub overflow_sub-item : goal.overflow_sub-item
overflow_sub-item c =
    let up = c.args.parts.now.upper in
    let place : ℕ = c.in-Some.place in
    omega (arith, c.in-Some.ensures.found.2, c.loop-i.invariant.passed, ones_of-le (take place up), length-take place up)

pub overflow_add-item : goal.overflow_add-item
overflow_add-item c =
    let fits = high-fits c.args.parts.now.width c.args.last (c.in-Some.place - c.loop-i.i) c.low.result c.requires.narrow c.ranges.last.fits c.if-place-i.false c.low.ensures.small in
    rw fits.0 (record { fits = fits.1 })

pub loop-i-preserved : goal.loop-i-preserved
loop-i-preserved c =
    let p = c.args.parts.now in
    let i : ℕ = c.loop-i.i in
    let place : ℕ = c.in-Some.place in
    let w : ℕ = p.width in
    let item : ℕ = (place - i) * 2 ^ w + c.low.result in
    let found = c.in-Some.ensures.found in
    let at = next-place p i c.loop-i.at place c.loop-i.invariant.passed found.1 found.2 in
    let lt : i < length (items_of p) = omega (arith, length-items_of p, c.loop-i-test.true) in
    let fits = high-fits w c.args.last (place - i) c.low.result c.requires.narrow c.ranges.last.fits c.if-place-i.false c.low.ensures.small in
    let is : item ≡ get_or (items_of p) i 0 = ap (λ x. (x - i) * 2 ^ w + c.low.result) at ∙ ap (λ f. (place_of_one p.upper i - i) * 2 ^ w + f) c.low.ensures.value ∙ sym (get_or-items_of p i c.loop-i-test.true) in
    let fall = rw fits.0 at c.fall_at-fall.ensures in
    rw fits.0 (record {
      inside = omega (arith, found.1.0);
      passed = omega (arith, ones-past p.upper place found.1, found.2, c.loop-i.invariant.passed);
      rest = rw fall (fall-more (items_of p) c.loop-i.before item i c.loop-i.fall (first_descent 0 0 (items_of p)) lt is c.loop-i.invariant.rest);
      last = is ∙ sym (last-more (items_of p) i lt);
    })

pub overflow_add-result : goal.overflow_add-result
overflow_add-result c =
    let up = c.args.parts.now.upper in
    record { fits = omega (arith, c.ones_between-more.ensures, c.loop-i.invariant.passed, c.loop-i-test.false, c.loop-i.auto.i-end, ones_of-le (take c.len-len.result up), length-take c.len-len.result up, c.requires.room) }

pub returns : goal.returns
returns c =
    let p = c.args.parts.now in
    let all : ones_of (take c.len-len.result p.upper) ≡ ones_of p.upper = ap ones_of (take_all c.len-len.result p.upper (omega (arith, c.len-len.ensures))) in
    let whole : ones_of p.upper ≡ p.count = omega (arith, all, c.ones_between-more.ensures, c.loop-i.invariant.passed, c.loop-i-test.false, c.loop-i.auto.i-end, c.if-more-gt0.false) in
    let past : length (items_of p) ≤ c.loop-i.i = omega (arith, length-items_of p, c.loop-i-test.false) in
    let fall = fall-ended (items_of p) c.loop-i.before c.loop-i.i c.loop-i.fall (first_descent 0 0 (items_of p)) past c.loop-i.invariant.rest in
    c.ending.ensures ∙ fault-ended c.args.last c.loop-i.before c.loop-i.fall p whole fall (c.loop-i.invariant.last ∙ ap last_of (take_all c.loop-i.i (items_of p) past))
