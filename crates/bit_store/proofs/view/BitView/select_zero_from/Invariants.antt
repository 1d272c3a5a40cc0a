use Rattle.std.proofs.Common.{◌≡◌, ◌+◌, ◌-◌, ◌≤◌, take, length}
use Rattle.bit_store.specs.Bits.{ones_of}
use Rattle.bit_store.proofs.view.BitView.select_zero_from.Given as goal

abbrev pub invariant-loop-at : goal.invariant-loop-at
invariant-loop-at l = record { begun : l.from ≤ l.at; within : l.at ≤ length l.self; counted : l.at + ones_of (take l.from l.self) + l.left ≡ l.from + ones_of (take l.at l.self) + l.k }

abbrev pub decreases-loop-at : goal.decreases-loop-at
decreases-loop-at l = length l.self - l.at
