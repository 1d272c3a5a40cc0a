use Rattle.std.proofs.lemmas.Bool.{false≢true}
use Rattle.core_run.proofs.Ingests.{refused}
use Rattle.core_run.proofs.batches.is_batch.Goals as goal

pub returns-in-Err : goal.returns-in-Err
returns-in-Err c =
    (λ e. absurd (false≢true e), λ b. absurd (refused c.args.next c.args.far c.args.batch.now c.in-Err.field-0 c.in-Err.ensures.exact b))
