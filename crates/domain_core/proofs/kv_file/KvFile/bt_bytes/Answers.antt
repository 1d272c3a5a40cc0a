use Rattle.std.proofs.Common.{◌∙◌, ap}
use Rattle.btree_index.specs.Levels.{spelling}
use Rattle.domain_core.specs.KvFile.{bt_spelling}
use Rattle.domain_core.proofs.Held.{held_bt}
use Rattle.domain_core.proofs.kv_file.KvFile.bt_bytes.Goals as goal

pub returns : goal.returns
returns c =
    c.bytes.ensures
    ∙ ap spelling c.self.invariant.indexed
    ∙ held_bt c.self.inside.words c.self.invariant.words
    ∙ ap bt_spelling c.self.view_is
