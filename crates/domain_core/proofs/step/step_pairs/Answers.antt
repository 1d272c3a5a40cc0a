use Rattle.std.proofs.Common.{◌+◌, sym, ◌∙◌, ap, arith}
use Rattle.std.proofs.lemmas.Result.{IfOk-weaker}
use Rattle.agg_model.specs.LastChanges.{step_pairs}
use Rattle.agg_model.proofs.LastChangesLaws.{kv_contents-step_pairs}
use Rattle.domain_core.proofs.step.step_pairs.Goals as goal

pub returns : goal.returns
returns c =
    λ list e valid are.
    let step = c.args.step in
    IfOk-weaker c.pairs_of.result _ _
    (λ pairs is. is ∙ ap (step_pairs step) are ∙ sym (kv_contents-step_pairs list.size list.changes e step (step + 1) (omega arith) valid.ascend))
    c.pairs_of.ensures
