use Rattle.std.proofs.Common.{◌≤◌}
use Rattle.bit_store.proofs.Views.{Narrowed}
use Rattle.bit_store.proofs.view.place_in.Given as goal

abbrev pub invariant-loop-size : goal.invariant-loop-size
invariant-loop-size l = record { few : l.size ≤ 6; narrowed : Narrowed l.word l.k l.left l.at l.size }

abbrev pub decreases-loop-size : goal.decreases-loop-size
decreases-loop-size l = l.size
