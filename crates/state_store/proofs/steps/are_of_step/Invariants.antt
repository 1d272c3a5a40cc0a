use Rattle.std.proofs.Common.{All, map, take}
use Rattle.std.specs.Arc.{arc_value}
use Rattle.state_store.specs.Settling.{IsOfStep}
use Rattle.state_store.proofs.steps.are_of_step.Given as goal

abbrev pub invariant-loop-at : goal.invariant-loop-at
invariant-loop-at l = All (IsOfStep l.step) (map (λ a. arc_value a) (take l.at l.groups))
