use Rattle.std.proofs.Common.{arith}
use Rattle.agg_outside.proofs.bytes.slice_fits.Goals as goal

pub returns : goal.returns
returns c = λ i. omega (arith, c.type_inv.bytes i)
