use Rattle.std.proofs.Common.{◌≤◌, All, take}
use Rattle.hot_keeper.proofs.ahead.are_from.Given as goal

abbrev pub invariant-loop-change : goal.invariant-loop-change
invariant-loop-change l = All (λ c. l.tx ≤ c.tx) (take l.change-index l.changes)
