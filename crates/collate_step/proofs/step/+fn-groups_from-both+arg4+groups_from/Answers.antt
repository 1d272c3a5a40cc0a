use Rattle.std.proofs.Common.{◌≡◌, ◌+◌, ◌∷◌, [], map, drop, IfOk, sym, ◌∙◌, ap, subst, refl, arith}
use Rattle.std.specs.List.{filter}
use Rattle.std.proofs.lemmas.Result.{IfOk-weaker}
use Rattle.agg_model.specs.declared.entity.Entity.{Entity}
use Rattle.agg_model.specs.Entity.{entity_number}
use Rattle.collate_step.specs.Runs.{is_from}
use Rattle.collate_step.specs.Groups.{group_of, step_range, step_changes, entities}
use Rattle.collate_step.proofs.StepValues.{runs-of, number-low, none-behind, groups-from}
use Rattle.collate_step.proofs.step.+fn-groups_from-both+arg4+groups_from.Goals as goal

pub overflow_add-number : goal.overflow_add-number
overflow_add-number g t c =
    let low = number-low c.args.place.entity in
    let is = c.number.ensures in
    omega (arith, low, is)

pub returns-in_default : goal.returns-in_default
returns-in_default g t c =
    λ list valid small size rest below.
    let e = c.args.place.entity in
    let step = c.args.place.step in
    let f = λ (e : Entity). group_of list e (step_range step) in
    let runs = runs-of list step e c.args.rest.now c.split_run.result.0.now c.split_run.result.1.now rest c.split_run.ensures.run c.split_run.ensures.rest in
    let group : c.in_ok-group.group ≡ f e = c.in_ok-group.ensures list valid small size runs.run below in
    let last : drop (entity_number e + 1) entities ≡ [] = none-behind e (let none = c.in_default.ensures.none.0 refl in let is = c.number.ensures in omega (arith, none, is)) in
    IfOk-weaker c.before_others.result _ _
    (λ gs is. is ∙ (λ i. group i ∷ c.new.ensures i) ∙ ap (λ es. f e ∷ map f es) (sym last) ∙ groups-from f e) c.before_others.ensures

pub returns : goal.returns
returns g t c =
    λ list valid small size rest below.
    let e = c.args.place.entity in
    let step = c.args.place.step in
    let f = λ (e : Entity). group_of list e (step_range step) in
    let all = step_changes list step in
    let next : entity_number c.in-Some.entity ≡ entity_number e + 1 = c.in-Some.ensures.found ∙ ap (λ n. n + 1) c.number.ensures in
    let runs = runs-of list step e c.args.rest.now c.split_run.result.0.now c.split_run.result.1.now rest c.split_run.ensures.run c.split_run.ensures.rest in
    let group : c.in_ok-group-2.field-0 ≡ f e =
    subst (λ r. IfOk r (λ g. g ≡ f e)) c.in_ok-group-2.was (c.both-group.ensures.first list valid small size runs.run below) in
    let others : c.in_ok-groups.field-0 ≡ map f (drop (entity_number e + 1) entities) =
    subst (λ r. IfOk r (λ gs. gs ≡ map f (drop (entity_number c.in-Some.entity) entities))) c.in_ok-groups.was
    (c.both-group.ensures.second list valid small size (runs.others ∙ ap (λ n. filter (is_from n) all) (sym next)) below)
    ∙ ap (λ n. map f (drop n entities)) next in
    IfOk-weaker c.before_others-3.result _ _ (λ gs is. is ∙ (λ i. group i ∷ others i) ∙ groups-from f e) c.before_others-3.ensures
