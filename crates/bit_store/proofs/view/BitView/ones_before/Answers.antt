use Rattle.std.proofs.Common.{arith}
use Rattle.bit_store.proofs.Views.{ones_of-nil}
use Rattle.bit_store.proofs.view.BitView.ones_before.Goals as goal

pub returns : goal.returns
returns c = omega (arith, c.ones_between.ensures, ones_of-nil)
