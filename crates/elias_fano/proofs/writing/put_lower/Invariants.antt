use Rattle.std.proofs.Common.{◌≡◌, ◌<◌, ◌^◌, ◌++◌, take}
use Rattle.bit_store.specs.Bits.{low_bits}
use Rattle.elias_fano.proofs.Lower.{fields}
use Rattle.elias_fano.proofs.writing.put_lower.Given as goal

abbrev pub invariant-loop-item : goal.invariant-loop-item
invariant-loop-item l = record {
  narrow : l.used < 64;
  small : l.word < 2 ^ l.used;
  held : l.bits ++ low_bits l.used l.word ≡ l.fn.bits ++ fields l.width (take l.item-index l.items);
}
