use Rattle.std.proofs.Common.{◌≡◌, ◌≤◌, length, take, drop}
use Rattle.std.specs.Option.{option_or}
use Rattle.bit_store.specs.Bits.{ones_of}
use Rattle.elias_fano.specs.Spelling.{last_of}
use Rattle.elias_fano.specs.Reading.{items_of, first_descent}
use Rattle.elias_fano.proofs.list.fault_of.Given as goal

abbrev pub invariant-loop-i : goal.invariant-loop-i
invariant-loop-i l = record {
  inside : l.at ≤ length l.parts.upper;
  passed : ones_of (take l.at l.parts.upper) ≡ l.i;
  rest : option_or l.fall (first_descent l.before l.i (drop l.i (items_of l.parts))) ≡ first_descent 0 0 (items_of l.parts);
  last : l.before ≡ last_of (take l.i (items_of l.parts));
}
