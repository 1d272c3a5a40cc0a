use Rattle.std.proofs.lemmas.Nat.{one_shl, and_mask}
use Rattle.elias_fano.proofs.writing.low_of.Goals as goal

pub returns : goal.returns
returns c = rw (one_shl c.args.width 64 c.requires) (and_mask c.args.value c.args.width)
