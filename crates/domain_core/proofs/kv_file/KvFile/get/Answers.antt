use Rattle.std.proofs.Common.{◌∙◌, ap}
use Rattle.domain_core.specs.KvFile.{kvi_form}
use Rattle.domain_core.proofs.Held.{held_form}
use Rattle.domain_core.proofs.kv_file.KvFile.get.Goals as goal

pub returns-clause-split_steps : goal.returns-clause-split_steps
returns-clause-split_steps g c = λ one.
    c.look_up.ensures.split_steps (held_form c.self.inside.words c.self.invariant.words ∙ ap kvi_form c.self.view_is ∙ one)
