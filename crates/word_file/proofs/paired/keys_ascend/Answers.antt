use Rattle.std.proofs.Common.{refl, arith}
use Rattle.word_file.proofs.Ascents.{here, goes_on, said_below, untrue, not_below, all_ascend, ascending_differ}
use Rattle.word_file.proofs.paired.keys_ascend.Goals as goal

pub overflow_add-place : goal.overflow_add-place
overflow_add-place g c =
    let at = here c.args.words.now.words c.loop-last.last c.in-Some.key c.loop-last.place c.loop-last.invariant.ascending c.in-Some.is in
    omega (arith, at.within, c.count-count.ensures.fits.count)

pub loop-last-preserved : goal.loop-last-preserved
loop-last-preserved g c =
    let at = here c.args.words.now.words c.loop-last.last c.in-Some.key c.loop-last.place c.loop-last.invariant.ascending c.in-Some.is in
    let below = said_below c.args.words.now.words c.in-Some.key c.key_after-next.result c.goes_up.result c.if-not-goes_up.false c.goes_up.ensures.value in
    record {
      ascending = goes_on c.args.words.now.words c.loop-last.last c.in-Some.key c.loop-last.place c.key_after-next.result c.loop-last.invariant.ascending c.in-Some.is c.key_after-next.ensures below;
      within = omega (arith, at.within, c.requires);
      few = omega (arith, c.loop-last.invariant.few, c.goes_up.ensures.steps);
    }

pub returns-then-not-goes_up-clause-ascend : goal.returns-then-not-goes_up-clause-ascend
returns-then-not-goes_up-clause-ascend g c = (
  λ no. absurd (untrue no),
  λ up. absurd (not_below c.args.words.now.words c.loop-last.last c.in-Some.key c.loop-last.place c.key_after-next.result c.goes_up.result c.requires c.loop-last.invariant.ascending c.in-Some.is c.key_after-next.ensures c.goes_up.ensures.value c.goes_up.ensures.last c.if-not-goes_up.true up),
)

pub returns-then-not-goes_up-clause-steps : goal.returns-then-not-goes_up-clause-steps
returns-then-not-goes_up-clause-steps g c =
    let at = here c.args.words.now.words c.loop-last.last c.in-Some.key c.loop-last.place c.loop-last.invariant.ascending c.in-Some.is in
    omega (arith, at.within, c.requires, c.loop-last.invariant.few, c.goes_up.ensures.steps)

pub returns-clause-ascend : goal.returns-clause-ascend
returns-clause-ascend g c = (
  λ _. all_ascend c.args.words.now.words c.loop-last.last c.loop-last.place c.requires c.loop-last.invariant.ascending c.in_default.is,
  λ _. refl,
)

pub returns-clause-differ : goal.returns-clause-differ
returns-clause-differ g c = λ _.
    ascending_differ c.args.words.now.words (all_ascend c.args.words.now.words c.loop-last.last c.loop-last.place c.requires c.loop-last.invariant.ascending c.in_default.is)

pub returns-clause-steps : goal.returns-clause-steps
returns-clause-steps g c = omega (arith, c.loop-last.invariant.within, c.loop-last.invariant.few)
