use Rattle.std.proofs.Common.{◌≡◌, List, Option, Some, None, refl, sym, ap, subst, ◌∙◌, arith}
use Rattle.agg_outside.specs.declared.rows.RowId.{RowId}
use Rattle.agg_outside.specs.declared.rows.Row.{Row}
use Rattle.agg_outside.specs.Rows.{Held, last_before, is_before}
use Rattle.agg_model.specs.declared.change.Change.{Change}
use Rattle.agg_model.specs.Pairs.{hot_change}
use Rattle.row_epochs.specs.Changes.{changes_seen}
use Rattle.row_epochs.proofs.Answering.{tell, fall}
use Rattle.row_epochs.proofs.LastWalks.{StillLast, hot_change-last, still_first, still_none, still_under, still_seen, still_unseen, found_form}
use Rattle.row_epochs.proofs.scan.last_seen.Goals as goal

pub loop-look-init : goal.loop-look-init
loop-look-init g c = record {
  held = refl;
  faults = omega arith;
  still = λ h told.
      let F : RowId → Type 0 = λ p. StillLast c.args.epoch c.args.entity c.args.key.now c.args.from c.args.before h.rows p in
      subst F (sym c.in_ok-place.ensures) (still_first c.args.epoch c.args.entity c.args.key.now c.args.from c.args.before (c.requires h told).0 h.rows (c.requires h told).1.versions);
}

pub returns-in_default-clause-change : goal.returns-in_default-clause-change
returns-in_default-clause-change g c =
    let at = c.loop-look in
    tell (g.K.Keeper.held c.args.keeper.now) (λ (h : Held). None ≡ hot_change (changes_seen c.args.epoch h.rows) c.args.entity c.args.key.now c.args.from c.args.before) (λ h told.
    let look = fall (g.K.Keeper.held at.keeper) (λ (x : Held). c.in_ok-found.found ≡ last_before at.place x.rows) c.in_ok-found.ensures.row h (at.invariant.held ∙ told) in
    sym (hot_change-last c.args.epoch c.args.entity c.args.key.now c.args.from c.args.before h.rows
    ∙ still_none c.args.epoch c.args.entity c.args.key.now c.args.from c.args.before h.rows at.place (at.invariant.still h told) (sym look ∙ c.in_default.is)))

pub returns-then-is_before-clause-change : goal.returns-then-is_before-clause-change
returns-then-is_before-clause-change g c =
    let at = c.loop-look in
    tell (g.K.Keeper.held c.args.keeper.now) (λ (h : Held). None ≡ hot_change (changes_seen c.args.epoch h.rows) c.args.entity c.args.key.now c.args.from c.args.before) (λ h told.
    let look = fall (g.K.Keeper.held at.keeper) (λ (x : Held). c.in_ok-found.found ≡ last_before at.place x.rows) c.in_ok-found.ensures.row h (at.invariant.held ∙ told) in
    let are = (c.requires h told).1 in
    let is = sym look ∙ c.in-Some.is in
    let under = ap (λ (p : RowId). is_before c.in-Some.row.id p) (sym c.in_ok-low.ensures) ∙ sym c.is_before.ensures ∙ c.if-is_before.true in
    sym (hot_change-last c.args.epoch c.args.entity c.args.key.now c.args.from c.args.before h.rows
    ∙ still_under c.args.epoch c.args.entity c.args.key.now c.args.from c.args.before (c.requires h told).0 h.rows at.place c.in-Some.row are.in_order are.versions (found_form (c.requires h told).0 h.rows at.place c.in-Some.row are.versions is).entity (at.invariant.still h told) is under))

pub returns-then-is_seen-clause-change : goal.returns-then-is_seen-clause-change
returns-then-is_seen-clause-change g c =
    let at = c.loop-look in
    tell (g.K.Keeper.held c.args.keeper.now) (λ (h : Held). Some c.in_ok-change_of.field-0 ≡ hot_change (changes_seen c.args.epoch h.rows) c.args.entity c.args.key.now c.args.from c.args.before) (λ h told.
    let look = fall (g.K.Keeper.held at.keeper) (λ (x : Held). c.in_ok-found.found ≡ last_before at.place x.rows) c.in_ok-found.ensures.row h (at.invariant.held ∙ told) in
    let are = (c.requires h told).1 in
    let is = sym look ∙ c.in-Some.is in
    let form = found_form (c.requires h told).0 h.rows at.place c.in-Some.row are.versions is in
    let above = ap (λ (p : RowId). is_before c.in-Some.row.id p) (sym c.in_ok-low.ensures) ∙ sym c.is_before.ensures ∙ c.if-is_before.false in
    let here = still_seen c.args.epoch c.args.entity c.args.key.now c.args.from c.args.before h.rows at.place c.in-Some.row are.in_order form.entity (at.invariant.still h told) is above (sym c.is_seen.ensures ∙ c.if-is_seen.true) in
    ap (λ (x : Change). Some x) c.in_ok-change_of.ensures
    ∙ sym here
    ∙ sym (hot_change-last c.args.epoch c.args.entity c.args.key.now c.args.from c.args.before h.rows))

pub loop-look-preserved : goal.loop-look-preserved
loop-look-preserved g c =
    let at = c.loop-look in
    record {
      held = c.in_ok-found.ensures.held ∙ at.invariant.held;
      faults = omega (arith, at.invariant.faults, c.in_ok-found.ensures.cause.no_fall);
      still = λ h told.
          let look = fall (g.K.Keeper.held at.keeper) (λ (x : Held). c.in_ok-found.found ≡ last_before at.place x.rows) c.in_ok-found.ensures.row h (at.invariant.held ∙ told) in
          still_unseen c.args.epoch c.args.entity c.args.key.now c.args.from c.args.before h.rows at.place c.in-Some.row (c.requires h told).1.in_order (at.invariant.still h told) (sym look ∙ c.in-Some.is) (sym c.is_seen.ensures ∙ c.if-is_seen.false);
    }
