use Rattle.std.proofs.Common.{refl}
use Rattle.core_machine.specs.Publishing.{size_to}
use Rattle.core_run.proofs.publish.does_end.Goals as goal

pub loop-count-init : goal.loop-count-init
unfolding size_to
loop-count-init c = refl
