use Rattle.std.proofs.Common.{subst}
use Rattle.std.specs.Arc.{arc_value}
use Rattle.state_store.specs.Settling.{IsOfStep}
use Rattle.state_store.proofs.SetLaws.{all_taken, all_whole}
use Rattle.state_store.proofs.steps.are_of_step.Goals as goal

pub loop-at-preserved : goal.loop-at-preserved
loop-at-preserved c =
    all_taken (IsOfStep c.args.step) (λ a. arc_value a) c.args.groups.now c.loop-at.at c.index-groups-at.result c.loop-at-test.true c.index-groups-at.is c.loop-at.invariant
    (subst (IsOfStep c.args.step) c.deref.ensures (c.is_of_step.ensures c.if-not-is_of_step.false))

pub returns : goal.returns
returns c = λ _. all_whole (IsOfStep c.args.step) (λ a. arc_value a) c.args.groups.now c.loop-at.at c.loop-at-test.false c.loop-at.invariant
