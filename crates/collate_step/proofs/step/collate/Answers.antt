use Rattle.std.proofs.Common.{◌∙◌}
use Rattle.std.proofs.lemmas.Result.{IfOk-weaker}
use Rattle.agg_model.specs.declared.entity.Entity.{Entity}
use Rattle.collate_step.specs.Groups.{group_of, step_range, step_changes}
use Rattle.collate_step.proofs.StepValues.{from-accounts, groups-all}
use Rattle.collate_step.proofs.step.collate.Goals as goal

pub returns : goal.returns
returns g c =
    λ list valid small size rows below.
    let step = c.args.rows.now.step in
    let f = λ (e : Entity). group_of list e (step_range step) in
    IfOk-weaker c.groups_from.result _ _ (λ gs is. is ∙ groups-all f)
    (c.groups_from.ensures list valid small size (c.as_slice.ensures ∙ rows ∙ from-accounts (step_changes list step)) below)
