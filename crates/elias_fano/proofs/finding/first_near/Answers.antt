use Rattle.std.proofs.Common.{◌≡◌, ◌<◌, ◌+◌, ◌∙◌, ℕ, take, sym, ap, arith, inl, inr}
use Rattle.std.proofs.lemmas.Bool.{cases_lt}
use Rattle.bit_store.specs.Bits.{ones_of}
use Rattle.elias_fano.specs.Reading.{item_at, place_of_one}
use Rattle.elias_fano.proofs.Places.{place-one, ones-past}
use Rattle.elias_fano.proofs.finding.first_near.Goals as goal

pub overflow_add-bit : goal.overflow_add-bit
overflow_add-bit c =
    let p = c.args.parts.now in
    let one = place-one p.upper c.loop-passed.place (omega (arith, c.if-place-parts.false, c.loop-passed.invariant.within, c.requires.sound.ones)) in
    record { fits = omega (arith, one.0.0, c.one_from-one.ensures, c.requires.sound.room) }

pub loop-passed-preserved : goal.loop-passed-preserved
loop-passed-preserved c =
    let p = c.args.parts.now in
    let place : ℕ = c.loop-passed.place in
    let at : ℕ = place_of_one p.upper place in
    let within : place < p.count = omega (arith, c.if-place-parts.false, c.loop-passed.invariant.within) in
    let one = place-one p.upper place (omega (arith, within, c.requires.sound.ones)) in
    let past : ones_of (take (c.one_from-one.result + 1) p.upper) ≡ place + 1 = ap (λ n. ones_of (take (n + 1) p.upper)) c.one_from-one.ensures ∙ ones-past p.upper at one.0 ∙ ap (λ n. n + 1) one.1 in
    let here : item_at p place < c.args.at = omega (arith, c.item.ensures, c.if-item-at.false) in
    record {
      begun = omega (arith, c.loop-passed.invariant.begun);
      within = omega (arith, within);
      inside = omega (arith, one.0.0, c.one_from-one.ensures);
      before = past;
      below = λ i from to.
          elim (cases_lt i place) [
            | inl lt ↦ c.loop-passed.invariant.below i from lt
            | inr le ↦ let same : i ≡ place = omega arith in omega (arith, ap (item_at p) same, here)
          ];
    }
