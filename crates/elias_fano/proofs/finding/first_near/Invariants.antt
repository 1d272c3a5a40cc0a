use Rattle.std.proofs.Common.{◌≡◌, ◌<◌, ◌≤◌, ℕ, length, take}
use Rattle.bit_store.specs.Bits.{ones_of}
use Rattle.elias_fano.specs.Reading.{item_at}
use Rattle.elias_fano.proofs.finding.first_near.Given as goal

abbrev pub invariant-loop-passed : goal.invariant-loop-passed
invariant-loop-passed l = record {
  begun : l.start ≤ l.place;
  within : l.place ≤ l.parts.count;
  inside : l.bit ≤ length l.parts.upper;
  before : ones_of (take l.bit l.parts.upper) ≡ l.place;
  below : (i : ℕ) → l.start ≤ i → i < l.place → item_at l.parts i < l.at;
}
