use Rattle.std.proofs.Common.{refl}
use Rattle.core_machine.specs.Publishing.{size_from}
use Rattle.core_run.proofs.publish.size_from.Goals as goal

pub loop-count-init : goal.loop-count-init
unfolding size_from
loop-count-init c = refl
