use Rattle.std.proofs.Common.{◌∙◌, ap}
use Rattle.domain_core.specs.KvFile.{kvi_form}
use Rattle.domain_core.proofs.Held.{held_form}
use Rattle.domain_core.proofs.kv_file.KvFile.form.Goals as goal

pub returns : goal.returns
returns c = c.form.ensures ∙ held_form c.self.inside.words c.self.invariant.words ∙ ap kvi_form c.self.view_is
