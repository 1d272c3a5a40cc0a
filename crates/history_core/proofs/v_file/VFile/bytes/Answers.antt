use Rattle.std.proofs.Common.{ap, ◌∙◌}
use Rattle.word_file.specs.Spelling.{spelling}
use Rattle.history_core.specs.KeyWord.{befores_in}
use Rattle.history_core.specs.VFile.{v_spelling}
use Rattle.history_core.proofs.Held.{file_spelling}
use Rattle.history_core.proofs.v_file.VFile.bytes.Goals as goal

pub returns : goal.returns
returns c =
    c.bytes.ensures.spelled
    ∙ ap spelling c.words.ensures
    ∙ file_spelling c.self.inside.file (befores_in c.self.inside.file.words) c.self.invariant
    ∙ ap v_spelling c.self.view_is
