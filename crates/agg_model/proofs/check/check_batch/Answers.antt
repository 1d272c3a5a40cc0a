use Rattle.std.proofs.Common.{length, ◌≤◌, ap, sym, ◌∙◌, arith}
use Rattle.std.proofs.lemmas.List.{drop_all}
use Rattle.agg_model.specs.BatchRefusals.{refusal_from, first_refusal}
use Rattle.agg_model.proofs.Checks.{refusal_from-None, all_fit}
use Rattle.agg_model.proofs.check.check_batch.Goals as goal

-- nothing is left, so nothing refuses
pub returns-clause-ok : goal.returns-clause-ok
unfolding first_refusal
returns-clause-ok c =
    let over : length c.as_slice-change-items.result.now ≤ c.loop-change.change-index = omega arith in
    let left = c.loop-change.invariant.left in
    let none = refusal_from-None _ _ _ _ (sym left ∙ ap (refusal_from c.loop-change.least c.loop-change.last c.args.far) (drop_all _ _ over)) in
    let same = c.as_slice-change-items.ensures in
    record { ascend = none.0; below_far = none.1; fit = all_fit _ _ _ same over c.loop-change.invariant.fit }
