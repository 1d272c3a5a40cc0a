use Rattle.std.proofs.Common.{◌≡◌, ℕ, length, List, ◌∷◌, All, true, refl, sym, ap, subst, ◌∙◌, arith, rules}
use Rattle.std.specs.List.{filter, Contains}
use Rattle.std.specs.Vec.Iter.{into_iter_items}
use Rattle.agg_outside.specs.declared.rows.RowId.{RowId}
use Rattle.agg_outside.specs.declared.rows.Row.{Row}
use Rattle.agg_outside.specs.Rows.{Held}
use Rattle.row_epochs.specs.Changes.{changes_seen}
use Rattle.row_epochs.specs.Versions.{Versions}
use Rattle.row_epochs.proofs.Answering.{tell, fall}
use Rattle.hot_keeper.specs.Windows.{is_within_numbers}
use Rattle.hot_keeper.specs.Notes.{is_in_step, IsLeft}
use Rattle.hot_keeper.proofs.StepLaws.{left_first, left_last, changes_in-is}
use Rattle.hot_keeper.proofs.steps.changes_at.Goals as goal

pub loop-id-init : goal.loop-id-init
loop-id-init g c = record {
  can = tt;
  ends = tt;
  told = refl;
  epoch = refl;
  faults = omega arith;
  left = λ h told.
      let F : List RowId → Type 0 = λ l. IsLeft c.epoch-present.result c.args.numbers.from c.args.numbers.to h.rows c.in_ok-place.place l c.new-changes.result in
      let G : ℕ → Type 0 = λ e. All (λ (r : Row). is_in_step e c.args.numbers.from c.args.numbers.to r ≡ true → Contains c.args.ids.items r.id) h.rows in
      subst F (sym c.into_iter-id-iterator.ensures.into_iter_gives.0)
      (left_first c.epoch-present.result c.args.numbers.from c.args.numbers.to h.rows c.in_ok-place.place c.args.ids.items c.new-changes.result c.in_ok-place.ensures c.new-changes.ensures c.requires.sorted
      (subst G (sym c.epoch-present.ensures.epoch) (fall c.args.rows.now.told (λ (x : Held). All (λ (r : Row). is_in_step c.args.rows.now.epoch c.args.numbers.from c.args.numbers.to r ≡ true → Contains c.args.ids.items r.id) x.rows) c.requires.noted h told)));
}

pub loop-id-preserved : goal.loop-id-preserved
loop-id-preserved g c =
    let at = c.loop-id in
    record {
      can = tt;
      ends = tt;
      told = ap (λ (v : Versions). v.told) c.in_ok-place-2.ensures.same ∙ at.invariant.told;
      epoch = ap (λ (v : Versions). v.epoch) c.in_ok-place-2.ensures.same ∙ at.invariant.epoch;
      faults = omega (arith, at.invariant.faults, c.in_ok-place-2.ensures.cause.no_fall);
      left = λ h told.
          let F : List RowId → Type 0 = λ l. IsLeft c.epoch-present.result c.args.numbers.from c.args.numbers.to h.rows at.place l at.changes in
          fall at.rows.told (λ (x : Held). (rest : List RowId) → IsLeft c.epoch-present.result c.args.numbers.from c.args.numbers.to x.rows at.place (c.in-Some.id ∷ rest) at.changes
          → IsLeft c.epoch-present.result c.args.numbers.from c.args.numbers.to x.rows c.in_ok-place-2.place rest c.look_at.new.changes) c.in_ok-place-2.ensures.left h (at.invariant.told ∙ told)
          (into_iter_items c.next.new.self) (subst F c.in-Some.ensures.steps.0 (at.invariant.left h told));
    }

pub returns-clause-changes : goal.returns-clause-changes
returns-clause-changes g c =
    let at = c.loop-id in
    let done : length (into_iter_items c.loop-id.id-iterator) ≡ 0 = search rules in
    tell c.args.rows.now.told (λ (h : Held). at.changes ≡ filter (is_within_numbers c.args.numbers.from c.args.numbers.to) (changes_seen c.args.rows.now.epoch h.rows)) (λ h told.
    left_last c.epoch-present.result c.args.numbers.from c.args.numbers.to h.rows at.place (into_iter_items c.loop-id.id-iterator) at.changes done (at.invariant.left h told)
    ∙ changes_in-is c.epoch-present.result c.args.numbers.from c.args.numbers.to h.rows
    ∙ ap (λ (e : ℕ). filter (is_within_numbers c.args.numbers.from c.args.numbers.to) (changes_seen e h.rows)) c.epoch-present.ensures.epoch)
