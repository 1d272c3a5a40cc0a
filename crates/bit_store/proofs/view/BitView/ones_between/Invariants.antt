use Rattle.std.proofs.Common.{◌≡◌, ◌+◌, ◌-◌, ◌≤◌, take}
use Rattle.bit_store.specs.Bits.{ones_of}
use Rattle.bit_store.proofs.view.BitView.ones_between.Given as goal

abbrev pub invariant-loop-at : goal.invariant-loop-at
invariant-loop-at l = record { begun : l.from ≤ l.at; within : l.at ≤ l.to; counted : ones_of (take l.from l.self) + l.total ≡ ones_of (take l.at l.self) }

abbrev pub decreases-loop-at : goal.decreases-loop-at
decreases-loop-at l = l.to - l.at
