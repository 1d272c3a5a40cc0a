use Rattle.std.proofs.Common.{◌∙◌, ap}
use Rattle.word_file.specs.Spelling.{spelling}
use Rattle.domain_core.specs.KvFile.{kv_spelling}
use Rattle.domain_core.proofs.Held.{held_spelling}
use Rattle.domain_core.proofs.kv_file.KvFile.bytes.Goals as goal

pub returns : goal.returns
returns c =
    c.bytes.ensures.spelled
    ∙ ap spelling c.words.ensures
    ∙ held_spelling c.self.inside.words c.self.invariant.words
    ∙ ap kv_spelling c.self.view_is
