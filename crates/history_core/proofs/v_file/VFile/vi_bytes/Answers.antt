use Rattle.std.proofs.Common.{ap, ◌∙◌}
use Rattle.history_core.specs.KeyWord.{befores_in}
use Rattle.history_core.specs.VFile.{vi_spelling}
use Rattle.history_core.proofs.Held.{file_accessor}
use Rattle.history_core.proofs.v_file.VFile.vi_bytes.Goals as goal

pub returns : goal.returns
returns c =
    c.accessor.ensures
    ∙ file_accessor c.self.inside.file (befores_in c.self.inside.file.words) c.self.invariant
    ∙ ap vi_spelling c.self.view_is
