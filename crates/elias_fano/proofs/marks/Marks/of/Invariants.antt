use Rattle.std.proofs.Common.{◌≡◌, ℕ, ◌<◌, ◌≤◌, ◌-◌, ◌*◌, length, take}
use Rattle.std.specs.Prelude.{slice_index}
use Rattle.bit_store.specs.Bits.{ones_of}
use Rattle.elias_fano.proofs.marks.Marks.of.Given as goal

abbrev pub invariant-loop-used : goal.invariant-loop-used
invariant-loop-used l = record {
  some : 0 < l.used;
  most : l.used ≤ 512;
  size : length l.ones ≡ 512;
  place : l.at ≡ (l.used - 1) * l.block;
  within : l.at ≤ length l.upper;
  counted : l.total ≡ ones_of (take l.at l.upper);
  ones : (j : ℕ) → j < l.used → slice_index l.ones j ≡ ones_of (take (j * l.block) l.upper);
}

abbrev pub decreases-loop-used : goal.decreases-loop-used
decreases-loop-used l = 512 - l.used
