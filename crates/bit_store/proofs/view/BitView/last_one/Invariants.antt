use Rattle.std.proofs.Common.{◌≡◌, ◌≤◌, take}
use Rattle.bit_store.specs.Bits.{ones_of}
use Rattle.bit_store.proofs.view.BitView.last_one.Given as goal

abbrev pub invariant-loop-at : goal.invariant-loop-at
invariant-loop-at l = record { within : l.at ≤ l.to; none : ones_of (take l.to l.self) ≡ ones_of (take l.at l.self) }

abbrev pub decreases-loop-at : goal.decreases-loop-at
decreases-loop-at l = l.at
