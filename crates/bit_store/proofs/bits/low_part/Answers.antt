use Rattle.std.proofs.lemmas.Nat.{one_shl, and_mask}
use Rattle.bit_store.proofs.bits.low_part.Goals as goal

pub returns-then-width-lt64 : goal.returns-then-width-lt64
returns-then-width-lt64 c = rw (one_shl c.args.width 64 c.if-width-lt64.true) (and_mask c.args.value c.args.width)
