use Rattle.std.proofs.Common.{◌≡◌, map, take}
use Rattle.std.specs.Arc.{arc_value}
use Rattle.state_store.proofs.steps.copies.Given as goal

abbrev pub invariant-loop-group : goal.invariant-loop-group
invariant-loop-group l = map (λ a. arc_value a) l.copies.items ≡ map (λ a. arc_value a) (take l.group-index l.groups)
