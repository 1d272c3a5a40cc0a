use Rattle.std.proofs.Common.{◌≡◌, ℕ, List, length, take, reverse, refl, sym, ap, subst, ◌∙◌, arith}
use Rattle.agg_outside.specs.declared.rows.RowId.{RowId}
use Rattle.agg_outside.specs.Rows.{Held, is_before, last_before}
use Rattle.agg_model.specs.Contents.{times}
use Rattle.row_epochs.specs.Changes.{changes_seen}
use Rattle.row_epochs.specs.Versions.{Versions, AreVersions}
use Rattle.row_epochs.proofs.Answering.{tell, fall}
use Rattle.row_epochs.specs.Places.{place_at}
use Rattle.hot_keeper.proofs.TimesLaws.{Falling, falling_first, falling_full, falling_none, falling_all, falling_under, falling_look, still_short}
use Rattle.hot_keeper.proofs.times.times_down.Goals as goal

pub loop-look-init : goal.loop-look-init
loop-look-init g c = record {
  told = refl;
  epoch = refl;
  faults = omega arith;
  short = omega (arith, ap length c.new-found.ensures);
  still = λ h told. let F : RowId → Type 0 = λ p. Falling c.args.epoch c.args.entity c.args.key.now c.args.numbers.from c.args.numbers.to c.args.limit h.rows p c.new-found.result in let G : List ℕ → Type 0 = λ l. Falling c.args.epoch c.args.entity c.args.key.now c.args.numbers.from c.args.numbers.to c.args.limit h.rows (place_at c.args.entity c.args.key.now c.args.numbers.to) l in subst F (sym c.in_ok-place.ensures) (subst G (sym c.new-found.ensures) (falling_first c.args.epoch c.args.entity c.args.key.now c.args.numbers.from c.args.numbers.to c.args.limit c.args.rows.now.epoch h (fall c.args.rows.now.told (AreVersions c.args.rows.now.epoch) c.requires h told)));
}

pub returns-then-len-limit-clause-numbers : goal.returns-then-len-limit-clause-numbers
returns-then-len-limit-clause-numbers g c =
    let at = c.loop-look in
    tell c.args.rows.now.told (λ (h : Held). at.found ≡ take c.args.limit (reverse (times (changes_seen c.args.epoch h.rows) c.args.entity c.args.key.now c.args.numbers.from c.args.numbers.to))) (λ h told.
    falling_full c.args.epoch c.args.entity c.args.key.now c.args.numbers.from c.args.numbers.to c.args.limit h.rows at.place at.found at.invariant.short (omega (arith, c.if-len-limit.true, c.len.ensures)) (at.invariant.still h told))

pub returns-in_default-clause-numbers : goal.returns-in_default-clause-numbers
returns-in_default-clause-numbers g c =
    let at = c.loop-look in
    tell c.args.rows.now.told (λ (h : Held). at.found ≡ take c.args.limit (reverse (times (changes_seen c.args.epoch h.rows) c.args.entity c.args.key.now c.args.numbers.from c.args.numbers.to))) (λ h told.
    falling_all c.args.epoch c.args.entity c.args.key.now c.args.numbers.from c.args.numbers.to c.args.limit h.rows at.found at.invariant.short (falling_none c.args.epoch c.args.entity c.args.key.now c.args.numbers.from c.args.numbers.to c.args.limit h at.place at.found (sym (fall at.rows.told (λ (x : Held). c.in_ok-next.next ≡ last_before at.place x.rows) c.in_ok-next.ensures.row h (at.invariant.told ∙ told)) ∙ c.in_default.is) (at.invariant.still h told)))

pub returns-then-is_before-clause-numbers : goal.returns-then-is_before-clause-numbers
returns-then-is_before-clause-numbers g c =
    let at = c.loop-look in
    tell c.args.rows.now.told (λ (h : Held). at.found ≡ take c.args.limit (reverse (times (changes_seen c.args.epoch h.rows) c.args.entity c.args.key.now c.args.numbers.from c.args.numbers.to))) (λ h told.
    falling_all c.args.epoch c.args.entity c.args.key.now c.args.numbers.from c.args.numbers.to c.args.limit h.rows at.found at.invariant.short (falling_under c.args.epoch c.args.entity c.args.key.now c.args.numbers.from c.args.numbers.to c.args.limit c.args.rows.now.epoch h at.place c.in-Some.row at.found (fall c.args.rows.now.told (AreVersions c.args.rows.now.epoch) c.requires h told) (sym (fall at.rows.told (λ (x : Held). c.in_ok-next.next ≡ last_before at.place x.rows) c.in_ok-next.ensures.row h (at.invariant.told ∙ told)) ∙ c.in-Some.is) (ap (λ (p : RowId). is_before c.in-Some.row.id p) (sym c.in_ok-low.ensures) ∙ sym c.is_before.ensures ∙ c.if-is_before.true) (at.invariant.still h told)))

pub loop-look-preserved : goal.loop-look-preserved
loop-look-preserved g c =
    let at = c.loop-look in
    record {
      told = ap (λ (v : Versions). v.told) c.in_ok-next.ensures.same ∙ at.invariant.told;
      epoch = ap (λ (v : Versions). v.epoch) c.in_ok-next.ensures.same ∙ at.invariant.epoch;
      faults = omega (arith, at.invariant.faults, c.in_ok-next.ensures.cause.no_fall);
      short = still_short c.args.limit c.args.epoch c.in-Some.row at.found c.take_number.new.found (omega (arith, c.if-len-limit.false, c.len.ensures)) c.in_ok-take_number.ensures;
      still = λ h told. falling_look c.args.epoch c.args.entity c.args.key.now c.args.numbers.from c.args.numbers.to c.args.limit c.args.rows.now.epoch h at.place c.in-Some.row at.found c.take_number.new.found (fall c.args.rows.now.told (AreVersions c.args.rows.now.epoch) c.requires h told) (sym (fall at.rows.told (λ (x : Held). c.in_ok-next.next ≡ last_before at.place x.rows) c.in_ok-next.ensures.row h (at.invariant.told ∙ told)) ∙ c.in-Some.is) (ap (λ (p : RowId). is_before c.in-Some.row.id p) (sym c.in_ok-low.ensures) ∙ sym c.is_before.ensures ∙ c.if-is_before.false) c.in_ok-take_number.ensures (at.invariant.still h told);
    }
