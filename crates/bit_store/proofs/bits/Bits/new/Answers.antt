use Rattle.std.proofs.Common.{arith, refl}
use Rattle.bit_store.proofs.Texts.{number_in-nil}
use Rattle.bit_store.proofs.bits.Bits.new.Goals as goal

pub invariant_of-result : goal.invariant_of-result
invariant_of-result c = rw c.new.ensures.items (record { count = refl; rest = rw number_in-nil (omega arith) })
