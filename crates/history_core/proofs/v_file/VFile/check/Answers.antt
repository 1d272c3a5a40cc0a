use Rattle.std.proofs.Common.{◌∙◌}
use Rattle.history_core.specs.KeyWord.{befores_in}
use Rattle.history_core.proofs.Held.{file_spelling, file_accessor, v_spelling-words, vi_spelling-words, read_back}
use Rattle.history_core.proofs.v_file.VFile.check.Goals as goal

pub returns-in-Ok-clause-found : goal.returns-in-Ok-clause-found
returns-in-Ok-clause-found c =
    c.in-Ok.ensures.found ∙ file_spelling c.in-Ok.file (befores_in c.in-Ok.file.words) c.in-Ok.ensures.held

pub returns-in-Ok-clause-accessor : goal.returns-in-Ok-clause-accessor
returns-in-Ok-clause-accessor c =
    c.in-Ok.ensures.accessor ∙ file_accessor c.in-Ok.file (befores_in c.in-Ok.file.words) c.in-Ok.ensures.held

pub returns-in-Ok-clause-same : goal.returns-in-Ok-clause-same
returns-in-Ok-clause-same c =
    λ f tag_is are v_is.
    read_back c.args.tag f tag_is are c.in-Ok.file (c.in-Ok.ensures.same f.befores are (v_is ∙ v_spelling-words c.args.tag f tag_is))

pub returns-in-Err-clause-only : goal.returns-in-Err-clause-only
returns-in-Err-clause-only c =
    λ f tag_is are v_is vi_is.
    c.in-Err.ensures.only f.befores are (v_is ∙ v_spelling-words c.args.tag f tag_is) (vi_is ∙ vi_spelling-words c.args.tag f tag_is)
