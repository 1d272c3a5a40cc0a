use Rattle.std.proofs.Common.{◌≡◌, ℕ, All, true, sym, ap, subst, ◌∙◌}
use Rattle.std.specs.List.{Contains}
use Rattle.agg_outside.specs.declared.rows.Row.{Row}
use Rattle.agg_outside.specs.Rows.{Held}
use Rattle.row_epochs.specs.Versions.{Versions, AreVersions}
use Rattle.row_epochs.proofs.Answering.{tell, fall}
use Rattle.hot_keeper.specs.Notes.{is_in_step, IsNoted}
use Rattle.hot_keeper.proofs.StepLaws.{noted_in_step}
use Rattle.hot_keeper.proofs.steps.changes_within.Goals as goal

pub changes_at-requires-clause-noted : goal.changes_at-requires-clause-noted
changes_at-requires-clause-noted g c =
    tell c.kept_or_made.new.rows.told (λ (h : Held). All (λ (r : Row). is_in_step c.kept_or_made.new.rows.epoch c.args.numbers.from c.args.numbers.to r ≡ true → Contains c.in_ok-ids.ids.items r.id) h.rows) (λ h there.
    let told = sym (ap (λ (v : Versions). v.told) c.in_ok-kept.ensures.same) ∙ there in
    let F : ℕ → Type 0 = λ e. All (λ (r : Row). is_in_step e c.args.numbers.from c.args.numbers.to r ≡ true → Contains c.in_ok-ids.ids.items r.id) h.rows in
    subst F (sym (ap (λ (v : Versions). v.epoch) c.in_ok-kept.ensures.same))
    (noted_in_step c.args.rows.now.epoch c.args.numbers.from c.args.numbers.to c.in_ok-kept.kept c.in_ok-ids.ids.items h (fall c.args.rows.now.told (AreVersions c.args.rows.now.epoch) c.requires.versions h told)
    (fall c.args.rows.now.told (λ (k : Held). All (IsNoted c.in_ok-kept.kept) k.rows) c.in_ok-kept.ensures.noted h told) c.in_ok-ids.ensures.all))
