use Rattle.std.proofs.Common.{arith, rules}
use Rattle.real_side.proofs.std_sink.StdSinkSink.TheImpl.Goals as goal

pub put-tells : goal.put-tells
put-tells g c = grind (arith, rules)
