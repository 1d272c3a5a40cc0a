use Rattle.std.proofs.Common.{map, ap, sym, subst, ◌∙◌}
use Rattle.std.specs.Arc.{arc_value}
use Rattle.collate_step.specs.Groups.{AreGroupsBelow, step_changes, step_groups}
use Rattle.state_store.proofs.SettlingLaws.{rows_are}
use Rattle.state_store.proofs.steps.groups_of_step.Goals as goal

pub returns-clause-groups : goal.returns-clause-groups
returns-clause-groups g c = λ list valid small size_is sees below.
    let at = c.in_ok-rows.ensures.step in
    c.in_ok-shared.ensures
    ∙ c.in_ok-groups.ensures list valid small size_is
    (rows_are list c.args.hot.now c.args.size c.args.step c.in_ok-rows.rows.changes size_is sees c.in_ok-rows.ensures.changes ∙ ap (step_changes list) (sym at))
    (subst (λ n. AreGroupsBelow list n (map (λ a. arc_value a) c.args.below.now)) (sym at) below)
    ∙ ap (step_groups list) at
