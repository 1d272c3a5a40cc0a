use Rattle.std.proofs.Common.{◌≡◌, ◌-◌, ◌≤◌, take, length}
use Rattle.bit_store.specs.Bits.{ones_of}
use Rattle.bit_store.proofs.view.BitView.next_one.Given as goal

abbrev pub invariant-loop-at : goal.invariant-loop-at
invariant-loop-at l = record { from : l.from ≤ l.at; within : l.at ≤ length l.self; none : ones_of (take l.at l.self) ≡ ones_of (take l.from l.self) }

abbrev pub decreases-loop-at : goal.decreases-loop-at
decreases-loop-at l = length l.self - l.at
