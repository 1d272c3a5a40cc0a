use Rattle.std.proofs.Common.{◌≡◌, sym, subst, ◌∙◌}
use Rattle.agg_outside.specs.declared.rows.RowId.{RowId}
use Rattle.agg_outside.specs.Rows.{Held, first_from}
use Rattle.row_epochs.specs.Versions.{AreVersions}
use Rattle.row_epochs.proofs.Answering.{tell, fall}
use Rattle.hot_keeper.specs.Notes.{IsLeft}
use Rattle.hot_keeper.proofs.StepLaws.{left_passed, left_none, left_found}
use Rattle.hot_keeper.proofs.steps.look_at.Goals as goal

pub returns-then-is_before-clause-left : goal.returns-then-is_before-clause-left
returns-then-is_before-clause-left g c =
    tell c.args.rows.now.told _ (λ h told rest left.
    left_passed c.args.epoch c.args.numbers.from c.args.numbers.to h.rows c.args.place c.args.id rest c.args.changes.now (sym c.is_before.ensures ∙ c.if-is_before.true) left)

pub returns-in_default-clause-left : goal.returns-in_default-clause-left
returns-in_default-clause-left g c =
    tell c.args.rows.now.told _ (λ h told rest left.
    left_none c.args.epoch c.args.numbers.from c.args.numbers.to h.rows c.args.place c.args.id rest c.args.changes.now (sym c.is_before.ensures ∙ c.if-is_before.false)
    (sym (fall c.args.rows.now.told (λ (x : Held). c.in_ok-found.found ≡ first_from c.args.id x.rows) c.in_ok-found.ensures.row h told) ∙ c.in_default.is) left)

pub returns-clause-left : goal.returns-clause-left
returns-clause-left g c =
    tell c.args.rows.now.told _ (λ h told rest left.
    let F : RowId → Type 0 = λ p. IsLeft c.args.epoch c.args.numbers.from c.args.numbers.to h.rows p rest c.take_change.new.changes in
    subst F (sym c.in_ok-next.ensures)
    (left_found c.args.epoch c.args.numbers.from c.args.numbers.to h.rows c.args.place c.args.id c.in-Some.row rest c.args.changes.now c.take_change.new.changes
    (fall c.args.rows.now.told (AreVersions c.args.rows.now.epoch) c.requires h told).in_order
    (sym c.is_before.ensures ∙ c.if-is_before.false)
    (sym (fall c.args.rows.now.told (λ (x : Held). c.in_ok-found.found ≡ first_from c.args.id x.rows) c.in_ok-found.ensures.row h told) ∙ c.in-Some.is)
    c.in_ok-take_change.ensures left))
