use Rattle.std.proofs.Common.{◌≡◌, sym, subst}
use Rattle.std.specs.Prelude.{Err, Some}
use Rattle.agg_model.specs.declared.entity.FileKind.{FileKind}
use Rattle.hashed_words.specs.declared.error.FileError.TheVariants.{Bad}
use Rattle.history_core.specs.KeyWord.{befores_in}
use Rattle.history_core.specs.VFile.{file_fault}
use Rattle.history_core.proofs.Held.{file_paired, file_differ}
use Rattle.history_core.proofs.Opened.{err_same, fault_of_words, fault_of_accessor}
use Rattle.history_core.proofs.open.open_pair.Goals as goal

pub check-requires-clause-paired : goal.check-requires-clause-paired
check-requires-clause-paired c = file_paired c.in-Ok.words (befores_in c.in-Ok.words.words) c.in-Ok.ensures.held

pub check-requires-clause-differ : goal.check-requires-clause-differ
check-requires-clause-differ c = file_differ c.in-Ok.words (befores_in c.in-Ok.words.words) c.in-Ok.ensures.held

pub returns-in-Ok-clause-exact : goal.returns-in-Ok-clause-exact
returns-in-Ok-clause-exact c =
    λ kind at is.
    let same = c.check.ensures.kind kind at is in
    let here = subst (λ (k : FileKind). c.check.result ≡ Err (Bad k at)) same is in
    subst (λ (k : FileKind). file_fault c.args.tag c.args.v c.args.vi ≡ Some (Bad k at)) (sym same)
    (fault_of_accessor c.args.tag c.args.v c.args.vi c.in-Ok.words c.in-Ok.ensures.exact at (c.check.ensures.exact at here))

pub returns-in-Err-clause-exact : goal.returns-in-Err-clause-exact
returns-in-Err-clause-exact c =
    λ kind at is.
    fault_of_words c.args.tag c.args.v c.args.vi c.in-Err.error c.in-Err.ensures.exact kind at (err_same c.in-Err.error (Bad kind at) is)
