use Rattle.std.proofs.Common.{◌≡◌, ◌+◌, ◌-◌, ◌%◌, ◌≤◌, take}
use Rattle.bit_store.specs.Bits.{bits_of, ones_of}
use Rattle.bit_store.proofs.view.whole_ones.Given as goal

abbrev pub invariant-loop-at : goal.invariant-loop-at
invariant-loop-at l = record {
  begun : l.from ≤ l.at;
  within : l.at ≤ l.to;
  whole : l.at % 8 ≡ 0;
  counted : ones_of (take l.from (take l.len (bits_of l.bytes))) + l.total ≡ ones_of (take l.at (take l.len (bits_of l.bytes)));
}

abbrev pub decreases-loop-at : goal.decreases-loop-at
decreases-loop-at l = l.to - l.at
