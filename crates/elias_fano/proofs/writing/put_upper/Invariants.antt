use Rattle.std.proofs.Common.{◌≡◌, ◌≤◌, ◌<◌, ◌/◌, ◌^◌, ◌++◌, ℕ, take, length, get_or}
use Rattle.bit_store.specs.Bits.{low_bits}
use Rattle.elias_fano.proofs.Upper.{walk, top}
use Rattle.elias_fano.proofs.writing.put_upper.Given as goal

abbrev pub invariant-loop-item : goal.invariant-loop-item
invariant-loop-item l = record {
  narrow : l.used < 64;
  small : l.word < 2 ^ l.used;
  walked : l.bits ++ low_bits l.used l.word ≡ l.fn.bits ++ walk l.width 0 (take l.item-index l.items);
  reached : l.high ≡ top l.width 0 (take l.item-index l.items);
  low : (k : ℕ) → l.item-index ≤ k → k < length l.items → l.high ≤ get_or l.items k 0 / 2 ^ l.width;
}
