use Rattle.std.proofs.Common.{sym, ◌∙◌}
use Rattle.core_run.proofs.Ingests.{kept-all, kept-fewer}
use Rattle.core_run.proofs.batches.without_repeats.Goals as goal

pub returns-then-len : goal.returns-then-len
returns-then-len c =
    kept-all c.args.batch.now c.in_ok-copy.copy c.in_ok-kept.kept c.in_ok-copy.ensures c.in_ok-kept.ensures (sym c.len.ensures ∙ c.if-len.true ∙ c.len-2.ensures)

pub returns-else-len : goal.returns-else-len
returns-else-len c =
    kept-fewer c.args.batch.now c.in_ok-copy.copy c.in_ok-kept.kept c.in_ok-copy.ensures c.in_ok-kept.ensures (λ same. c.if-len.false (c.len.ensures ∙ same ∙ sym c.len-2.ensures))
