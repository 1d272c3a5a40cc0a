use Rattle.std.proofs.Common.{◌≡◌, ℕ, IfSome, List, length, take, refl, sym, ap, subst, ◌∙◌, arith, eqb-true}
use Rattle.std.proofs.lemmas.Bool.{eqb-false}
use Rattle.agg_model.specs.Entity.{entity_number}
use Rattle.agg_outside.specs.declared.rows.RowId.{RowId}
use Rattle.agg_outside.specs.Rows.{Held, first_from}
use Rattle.row_epochs.specs.Changes.{changes_seen}
use Rattle.row_epochs.specs.Versions.{Versions, AreVersions}
use Rattle.row_epochs.proofs.Answering.{tell, fall}
use Rattle.hot_keeper.specs.Skips.{AreAmong}
use Rattle.hot_keeper.specs.Windows.{window_keys}
use Rattle.row_epochs.specs.Places.{place_at}
use Rattle.hot_keeper.proofs.KeyLaws.{KeyWalk, key_first, key_skip, key_passed, key_none, key_beyond, key_on, key_full, key_all, keys_short}
use Rattle.hot_keeper.proofs.keys.keys_within.Goals as goal

pub loop-look-init : goal.loop-look-init
loop-look-init g c = record {
  told = refl;
  epoch = refl;
  faults = omega arith;
  short = omega (arith, ap length c.new-found.ensures);
  still = λ h told. let F : RowId → Type 0 = λ p. KeyWalk c.args.epoch c.args.entity c.args.from.now c.args.numbers.from c.args.numbers.to c.args.limit h.rows p c.new-found.result in let G : List (List ℕ) → Type 0 = λ l. KeyWalk c.args.epoch c.args.entity c.args.from.now c.args.numbers.from c.args.numbers.to c.args.limit h.rows (place_at c.args.entity c.args.from.now c.args.numbers.from) l in subst F (sym c.in_ok-place.ensures) (subst G (sym c.new-found.ensures) (key_first c.args.epoch c.args.entity c.args.from.now c.args.numbers.from c.args.numbers.to c.args.limit c.args.rows.now.epoch h (fall c.args.rows.now.told (AreVersions c.args.rows.now.epoch) c.requires.versions h told)));
}

pub returns-then-len-limit-clause-keys : goal.returns-then-len-limit-clause-keys
returns-then-len-limit-clause-keys g c =
    let at = c.loop-look in
    tell c.args.rows.now.told (λ (h : Held). at.found ≡ take c.args.limit (window_keys (changes_seen c.args.epoch h.rows) c.args.entity c.args.from.now c.args.numbers.from c.args.numbers.to)) (λ h told.
    key_full c.args.epoch c.args.entity c.args.from.now c.args.numbers.from c.args.numbers.to c.args.limit h.rows at.place at.found at.invariant.short (omega (arith, c.if-len-limit.true, c.len.ensures)) (at.invariant.still h told))

pub returns-in_default-clause-keys : goal.returns-in_default-clause-keys
returns-in_default-clause-keys g c =
    let at = c.loop-look in
    tell c.args.rows.now.told (λ (h : Held). at.found ≡ take c.args.limit (window_keys (changes_seen c.args.epoch h.rows) c.args.entity c.args.from.now c.args.numbers.from c.args.numbers.to)) (λ h told.
    key_all c.args.epoch c.args.entity c.args.from.now c.args.numbers.from c.args.numbers.to c.args.limit h.rows at.found at.invariant.short (key_passed c.args.epoch c.args.entity c.args.from.now c.args.numbers.from c.args.numbers.to c.args.limit c.args.rows.now.epoch h at.place c.in_ok-look.look at.found (fall c.args.rows.now.told (AreVersions c.args.rows.now.epoch) c.requires.versions h told) c.in_default.is (c.in_ok-look.ensures c.args.epoch c.args.numbers.from c.args.numbers.to h.rows (fall c.args.rows.now.told (λ (x : Held). IfSome c.args.noted.now (λ l. AreAmong c.args.epoch c.args.numbers.from c.args.numbers.to l.items x.rows)) c.requires.among h told)) (at.invariant.still h told)))

pub returns-in_default-next-clause-keys : goal.returns-in_default-next-clause-keys
returns-in_default-next-clause-keys g c =
    let at = c.loop-look in
    tell c.args.rows.now.told (λ (h : Held). at.found ≡ take c.args.limit (window_keys (changes_seen c.args.epoch h.rows) c.args.entity c.args.from.now c.args.numbers.from c.args.numbers.to)) (λ h told.
    key_all c.args.epoch c.args.entity c.args.from.now c.args.numbers.from c.args.numbers.to c.args.limit h.rows at.found at.invariant.short (key_none c.args.epoch c.args.entity c.args.from.now c.args.numbers.from c.args.numbers.to c.args.limit h c.in-Some.start at.found (sym (fall at.rows.told (λ (x : Held). c.in_ok-next.next ≡ first_from c.in-Some.start x.rows) c.in_ok-next.ensures.row h (at.invariant.told ∙ told)) ∙ c.in_default-next.is) (key_skip c.args.epoch c.args.entity c.args.from.now c.args.numbers.from c.args.numbers.to c.args.limit c.args.rows.now.epoch h at.place c.in_ok-look.look c.in-Some.start at.found (fall c.args.rows.now.told (AreVersions c.args.rows.now.epoch) c.requires.versions h told) c.in-Some.is (c.in_ok-look.ensures c.args.epoch c.args.numbers.from c.args.numbers.to h.rows (fall c.args.rows.now.told (λ (x : Held). IfSome c.args.noted.now (λ l. AreAmong c.args.epoch c.args.numbers.from c.args.numbers.to l.items x.rows)) c.requires.among h told)) (at.invariant.still h told))))

pub returns-then-not-is_of-clause-keys : goal.returns-then-not-is_of-clause-keys
returns-then-not-is_of-clause-keys g c =
    let at = c.loop-look in
    tell c.args.rows.now.told (λ (h : Held). at.found ≡ take c.args.limit (window_keys (changes_seen c.args.epoch h.rows) c.args.entity c.args.from.now c.args.numbers.from c.args.numbers.to)) (λ h told.
    key_all c.args.epoch c.args.entity c.args.from.now c.args.numbers.from c.args.numbers.to c.args.limit h.rows at.found at.invariant.short (key_beyond c.args.epoch c.args.entity c.args.from.now c.args.numbers.from c.args.numbers.to c.args.limit c.args.rows.now.epoch h c.in-Some.start c.in-Some-next.row at.found (fall c.args.rows.now.told (AreVersions c.args.rows.now.epoch) c.requires.versions h told) (sym (fall at.rows.told (λ (x : Held). c.in_ok-next.next ≡ first_from c.in-Some.start x.rows) c.in_ok-next.ensures.row h (at.invariant.told ∙ told)) ∙ c.in-Some-next.is) (eqb-false c.in-Some-next.row.id.entity (entity_number c.args.entity) (sym c.is_of.ensures ∙ c.if-not-is_of.true)) (key_skip c.args.epoch c.args.entity c.args.from.now c.args.numbers.from c.args.numbers.to c.args.limit c.args.rows.now.epoch h at.place c.in_ok-look.look c.in-Some.start at.found (fall c.args.rows.now.told (AreVersions c.args.rows.now.epoch) c.requires.versions h told) c.in-Some.is (c.in_ok-look.ensures c.args.epoch c.args.numbers.from c.args.numbers.to h.rows (fall c.args.rows.now.told (λ (x : Held). IfSome c.args.noted.now (λ l. AreAmong c.args.epoch c.args.numbers.from c.args.numbers.to l.items x.rows)) c.requires.among h told)) (at.invariant.still h told))))

pub loop-look-preserved : goal.loop-look-preserved
loop-look-preserved g c =
    let at = c.loop-look in
    record {
      told = ap (λ (v : Versions). v.told) c.in_ok-next.ensures.same ∙ at.invariant.told;
      epoch = ap (λ (v : Versions). v.epoch) c.in_ok-next.ensures.same ∙ at.invariant.epoch;
      faults = omega (arith, at.invariant.faults, c.in_ok-next.ensures.cause.no_fall);
      short = keys_short c.args.limit c.args.epoch c.args.numbers.from c.args.numbers.to c.in-Some-next.row at.found c.take_key.new.found (omega (arith, c.if-len-limit.false, c.len.ensures)) c.in_ok-take_key.ensures.found;
      still = λ h told. key_on c.args.epoch c.args.entity c.args.from.now c.args.numbers.from c.args.numbers.to c.args.limit c.args.rows.now.epoch h c.in-Some.start c.in-Some-next.row c.in_ok-place-2.place at.found c.take_key.new.found (fall c.args.rows.now.told (AreVersions c.args.rows.now.epoch) c.requires.versions h told) (sym (fall at.rows.told (λ (x : Held). c.in_ok-next.next ≡ first_from c.in-Some.start x.rows) c.in_ok-next.ensures.row h (at.invariant.told ∙ told)) ∙ c.in-Some-next.is) (eqb-true c.in-Some-next.row.id.entity (entity_number c.args.entity) (sym c.is_of.ensures ∙ c.if-not-is_of.false)) c.in_ok-take_key.ensures.fits c.in_ok-place-2.ensures.place c.in_ok-place-2.ensures.after c.in_ok-take_key.ensures.found (key_skip c.args.epoch c.args.entity c.args.from.now c.args.numbers.from c.args.numbers.to c.args.limit c.args.rows.now.epoch h at.place c.in_ok-look.look c.in-Some.start at.found (fall c.args.rows.now.told (AreVersions c.args.rows.now.epoch) c.requires.versions h told) c.in-Some.is (c.in_ok-look.ensures c.args.epoch c.args.numbers.from c.args.numbers.to h.rows (fall c.args.rows.now.told (λ (x : Held). IfSome c.args.noted.now (λ l. AreAmong c.args.epoch c.args.numbers.from c.args.numbers.to l.items x.rows)) c.requires.among h told)) (at.invariant.still h told));
    }
