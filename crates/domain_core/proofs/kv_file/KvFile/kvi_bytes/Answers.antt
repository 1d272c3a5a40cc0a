use Rattle.std.proofs.Common.{◌∙◌, ap}
use Rattle.domain_core.specs.KvFile.{kvi_spelling}
use Rattle.domain_core.proofs.Held.{held_kvi}
use Rattle.domain_core.proofs.kv_file.KvFile.kvi_bytes.Goals as goal

pub returns : goal.returns
returns c = c.accessor.ensures ∙ held_kvi c.self.inside.words c.self.invariant.words ∙ ap kvi_spelling c.self.view_is
