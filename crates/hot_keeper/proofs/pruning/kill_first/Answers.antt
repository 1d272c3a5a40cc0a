use Rattle.std.proofs.Common.{◌≡◌, ◌↔◌, ◌≤◌, ℕ, ◌+◌, false, List, length, take, All, Option, Some, None, IfNone, IsSomeAnd, refl, sym, ap, subst, ◌∙◌}
use Rattle.std.specs.Prelude.{nat_lt}
use Rattle.agg_outside.specs.declared.rows.RowId.{RowId}
use Rattle.agg_outside.specs.Rows.{Held}
use Rattle.row_epochs.specs.Seen.{SameUpTo}
use Rattle.row_epochs.specs.Versions.{Versions, AreVersions, IsAlive}
use Rattle.row_epochs.proofs.Answering.{tell, fall}
use Rattle.hot_keeper.specs.Pruning.{low_rows, pruned_ids, does_prune, pruned, epoch_pruned}
use Rattle.hot_keeper.proofs.PruneLaws.{pruned_alive, length_pruned, does_prune_is, pruned_no, epoch_yes, epoch_no, prune_ok, moved, left_is}
use Rattle.hot_keeper.proofs.AheadLaws.{ahead_kept, ahead_left}
use Rattle.hot_keeper.proofs.pruning.kill_first.Goals as goal

pub kill-requires : goal.kill-requires
kill-requires g c = record {
  alive = λ h there.
      let told = sym ((ap (λ (v : Versions). v.told) c.in_ok-present.ensures.same ∙ ap (λ (v : Versions). v.told) c.in_ok-low.ensures.same)) ∙ there in
      let are = fall c.args.rows.now.told (AreVersions c.args.rows.now.epoch) c.requires.versions h told in
      let F : List RowId → Type 0 = λ l. All (IsAlive h.rows) l in
      subst F (sym (c.as_slice-dead.ensures.value ∙ fall c.args.rows.now.told (λ (x : Held). c.in_ok-low.low.ids.items ≡ pruned_ids c.args.tx c.args.limit x.rows) c.in_ok-low.ensures.ids h told)) (pruned_alive c.args.tx c.args.limit h.rows are.in_order);
}

pub returns-then-not-does_prune-clause-ok : goal.returns-then-not-does_prune-clause-ok
returns-then-not-does_prune-clause-ok g c =
    tell c.args.rows.now.told (λ (h : Held). c.floor.new.self.told ≡ Some (pruned (c.args.rows.now.epoch + 1) c.args.tx c.args.floor c.args.limit h)) (λ h told. (ap (λ (v : Versions). v.told) c.in_ok-present.ensures.same ∙ ap (λ (v : Versions). v.told) c.in_ok-low.ensures.same) ∙ told ∙ ap (λ (x : Held). Some x) (sym (pruned_no (c.args.rows.now.epoch + 1) c.args.tx c.args.floor c.args.limit h (sym (does_prune_is c.args.tx c.args.floor c.args.limit c.in_ok-present.present h c.as_slice-dead.result.now c.does_prune.result (c.as_slice-dead.ensures.value ∙ fall c.args.rows.now.told (λ (x : Held). c.in_ok-low.low.ids.items ≡ pruned_ids c.args.tx c.args.limit x.rows) c.in_ok-low.ensures.ids h told) (fall c.first_below.new.rows.told (λ (x : Held). c.in_ok-present.present ≡ x.floor) c.in_ok-present.ensures.floor h ((ap (λ (v : Versions). v.told) c.in_ok-low.ensures.same) ∙ told)) c.does_prune.ensures) ∙ c.if-not-does_prune.true))))

pub returns-then-not-does_prune-clause-earlier : goal.returns-then-not-does_prune-clause-earlier
returns-then-not-does_prune-clause-earlier g c =
    tell c.args.rows.now.told (λ (h : Held). IsSomeAnd c.floor.new.self.told (λ (k : Held). SameUpTo c.args.rows.now.epoch h.rows k.rows)) (λ h told. let F : Option Held → Type 0 = λ o. IsSomeAnd o (λ (k : Held). SameUpTo c.args.rows.now.epoch h.rows k.rows) in subst F (sym ((ap (λ (v : Versions). v.told) c.in_ok-present.ensures.same ∙ ap (λ (v : Versions). v.told) c.in_ok-low.ensures.same) ∙ told)) (λ v up. refl))

pub returns-then-not-does_prune-clause-killed : goal.returns-then-not-does_prune-clause-killed
returns-then-not-does_prune-clause-killed g c =
    tell c.args.rows.now.told (λ (h : Held). length c.as_slice-dead.result.now ≡ length (take c.args.limit (low_rows c.args.tx h.rows))) (λ h told. length_pruned c.args.tx c.args.limit h.rows c.as_slice-dead.result.now (c.as_slice-dead.ensures.value ∙ fall c.args.rows.now.told (λ (x : Held). c.in_ok-low.low.ids.items ≡ pruned_ids c.args.tx c.args.limit x.rows) c.in_ok-low.ensures.ids h told))

pub returns-then-not-does_prune-clause-left : goal.returns-then-not-does_prune-clause-left
returns-then-not-does_prune-clause-left g c =
    tell c.args.rows.now.told (λ (h : Held). (c.left_of.result ≡ 0) ↔ (length (low_rows c.args.tx h.rows) ≤ c.args.limit)) (λ h told. left_is c.args.limit (length (low_rows c.args.tx h.rows)) c.left_of.result c.in_ok-low.low.more c.left_of.ensures (fall c.args.rows.now.told (λ (x : Held). c.in_ok-low.low.more ≡ nat_lt c.args.limit (length (low_rows c.args.tx x.rows))) c.in_ok-low.ensures.more h told))

pub returns-then-not-does_prune-clause-epoch : goal.returns-then-not-does_prune-clause-epoch
returns-then-not-does_prune-clause-epoch g c =
    tell c.args.rows.now.told (λ (h : Held). c.floor.new.self.epoch ≡ epoch_pruned c.args.rows.now.epoch c.args.tx c.args.floor c.args.limit h) (λ h told. (ap (λ (v : Versions). v.epoch) c.in_ok-present.ensures.same ∙ ap (λ (v : Versions). v.epoch) c.in_ok-low.ensures.same) ∙ sym (epoch_no c.args.rows.now.epoch c.args.tx c.args.floor c.args.limit h (sym (does_prune_is c.args.tx c.args.floor c.args.limit c.in_ok-present.present h c.as_slice-dead.result.now c.does_prune.result (c.as_slice-dead.ensures.value ∙ fall c.args.rows.now.told (λ (x : Held). c.in_ok-low.low.ids.items ≡ pruned_ids c.args.tx c.args.limit x.rows) c.in_ok-low.ensures.ids h told) (fall c.first_below.new.rows.told (λ (x : Held). c.in_ok-present.present ≡ x.floor) c.in_ok-present.ensures.floor h ((ap (λ (v : Versions). v.told) c.in_ok-low.ensures.same) ∙ told)) c.does_prune.ensures) ∙ c.if-not-does_prune.true)))

pub returns-then-not-does_prune-clause-rises : goal.returns-then-not-does_prune-clause-rises
returns-then-not-does_prune-clause-rises g c =
    λ top. tell c.args.rows.now.told (λ (h : Held). does_prune c.args.tx c.args.floor c.args.limit h ≡ false) (λ h told. sym (does_prune_is c.args.tx c.args.floor c.args.limit c.in_ok-present.present h c.as_slice-dead.result.now c.does_prune.result (c.as_slice-dead.ensures.value ∙ fall c.args.rows.now.told (λ (x : Held). c.in_ok-low.low.ids.items ≡ pruned_ids c.args.tx c.args.limit x.rows) c.in_ok-low.ensures.ids h told) (fall c.first_below.new.rows.told (λ (x : Held). c.in_ok-present.present ≡ x.floor) c.in_ok-present.ensures.floor h ((ap (λ (v : Versions). v.told) c.in_ok-low.ensures.same) ∙ told)) c.does_prune.ensures) ∙ c.if-not-does_prune.true)

pub returns-clause-ok : goal.returns-clause-ok
returns-clause-ok g c =
    prune_ok c.floor.new.self.told c.args.rows.now.told c.kill.new.self.told c.floor.new.self.epoch c.args.rows.now.epoch c.args.tx c.args.floor c.args.limit c.as_slice-dead.result.now ((ap (λ (v : Versions). v.told) c.in_ok-present.ensures.same ∙ ap (λ (v : Versions). v.told) c.in_ok-low.ensures.same)) ((ap (λ (v : Versions). v.epoch) c.in_ok-present.ensures.same ∙ ap (λ (v : Versions). v.epoch) c.in_ok-low.ensures.same)) (λ h told. (c.as_slice-dead.ensures.value ∙ fall c.args.rows.now.told (λ (x : Held). c.in_ok-low.low.ids.items ≡ pruned_ids c.args.tx c.args.limit x.rows) c.in_ok-low.ensures.ids h told)) (λ h told. sym (does_prune_is c.args.tx c.args.floor c.args.limit c.in_ok-present.present h c.as_slice-dead.result.now c.does_prune.result (c.as_slice-dead.ensures.value ∙ fall c.args.rows.now.told (λ (x : Held). c.in_ok-low.low.ids.items ≡ pruned_ids c.args.tx c.args.limit x.rows) c.in_ok-low.ensures.ids h told) (fall c.first_below.new.rows.told (λ (x : Held). c.in_ok-present.present ≡ x.floor) c.in_ok-present.ensures.floor h ((ap (λ (v : Versions). v.told) c.in_ok-low.ensures.same) ∙ told)) c.does_prune.ensures) ∙ c.if-not-does_prune.false) c.in_ok-kill.ensures.ok

pub returns-clause-earlier : goal.returns-clause-earlier
returns-clause-earlier g c =
    moved c.floor.new.self.told c.args.rows.now.told (λ (h : Held). IsSomeAnd c.kill.new.self.told (λ (k : Held). SameUpTo c.floor.new.self.epoch h.rows k.rows)) (λ (h : Held). IsSomeAnd c.kill.new.self.told (λ (k : Held). SameUpTo c.args.rows.now.epoch h.rows k.rows)) ((ap (λ (v : Versions). v.told) c.in_ok-present.ensures.same ∙ ap (λ (v : Versions). v.told) c.in_ok-low.ensures.same)) (λ h told p. let F : ℕ → Type 0 = λ n. IsSomeAnd c.kill.new.self.told (λ (k : Held). SameUpTo n h.rows k.rows) in subst F ((ap (λ (v : Versions). v.epoch) c.in_ok-present.ensures.same ∙ ap (λ (v : Versions). v.epoch) c.in_ok-low.ensures.same)) p) c.in_ok-kill.ensures.earlier

pub returns-clause-killed : goal.returns-clause-killed
returns-clause-killed g c =
    tell c.args.rows.now.told (λ (h : Held). length c.as_slice-dead.result.now ≡ length (take c.args.limit (low_rows c.args.tx h.rows))) (λ h told. length_pruned c.args.tx c.args.limit h.rows c.as_slice-dead.result.now (c.as_slice-dead.ensures.value ∙ fall c.args.rows.now.told (λ (x : Held). c.in_ok-low.low.ids.items ≡ pruned_ids c.args.tx c.args.limit x.rows) c.in_ok-low.ensures.ids h told))

pub returns-clause-left : goal.returns-clause-left
returns-clause-left g c =
    tell c.args.rows.now.told (λ (h : Held). (c.left_of.result ≡ 0) ↔ (length (low_rows c.args.tx h.rows) ≤ c.args.limit)) (λ h told. left_is c.args.limit (length (low_rows c.args.tx h.rows)) c.left_of.result c.in_ok-low.low.more c.left_of.ensures (fall c.args.rows.now.told (λ (x : Held). c.in_ok-low.low.more ≡ nat_lt c.args.limit (length (low_rows c.args.tx x.rows))) c.in_ok-low.ensures.more h told))

pub returns-clause-epoch : goal.returns-clause-epoch
returns-clause-epoch g c =
    tell c.args.rows.now.told (λ (h : Held). c.kill.new.self.epoch ≡ epoch_pruned c.args.rows.now.epoch c.args.tx c.args.floor c.args.limit h) (λ h told. c.in_ok-kill.ensures.epoch ∙ ap (λ n. n + 1) ((ap (λ (v : Versions). v.epoch) c.in_ok-present.ensures.same ∙ ap (λ (v : Versions). v.epoch) c.in_ok-low.ensures.same)) ∙ sym (epoch_yes c.args.rows.now.epoch c.args.tx c.args.floor c.args.limit h (sym (does_prune_is c.args.tx c.args.floor c.args.limit c.in_ok-present.present h c.as_slice-dead.result.now c.does_prune.result (c.as_slice-dead.ensures.value ∙ fall c.args.rows.now.told (λ (x : Held). c.in_ok-low.low.ids.items ≡ pruned_ids c.args.tx c.args.limit x.rows) c.in_ok-low.ensures.ids h told) (fall c.first_below.new.rows.told (λ (x : Held). c.in_ok-present.present ≡ x.floor) c.in_ok-present.ensures.floor h ((ap (λ (v : Versions). v.told) c.in_ok-low.ensures.same) ∙ told)) c.does_prune.ensures) ∙ c.if-not-does_prune.false)))

pub returns-clause-rises : goal.returns-clause-rises
returns-clause-rises g c =
    λ top. absurd (c.in_ok-kill.ensures.worn.1 ((ap (λ (v : Versions). v.epoch) c.in_ok-present.ensures.same ∙ ap (λ (v : Versions). v.epoch) c.in_ok-low.ensures.same) ∙ top))

pub returns-then-not-does_prune-clause-ahead : goal.returns-then-not-does_prune-clause-ahead
returns-then-not-does_prune-clause-ahead g c =
    ahead_kept c.in_ok-low.low.rest c.floor.new.self.told c.args.rows.now.told c.args.tx c.args.rows.now.epoch c.args.floor c.args.limit (ap (λ (v : Versions). v.told) c.in_ok-present.ensures.same ∙ ap (λ (v : Versions). v.told) c.in_ok-low.ensures.same) c.in_ok-low.ensures.tx c.requires.versions c.in_ok-low.ensures.rest
    (λ h told. sym (does_prune_is c.args.tx c.args.floor c.args.limit c.in_ok-present.present h c.as_slice-dead.result.now c.does_prune.result (c.as_slice-dead.ensures.value ∙ fall c.args.rows.now.told (λ (x : Held). c.in_ok-low.low.ids.items ≡ pruned_ids c.args.tx c.args.limit x.rows) c.in_ok-low.ensures.ids h told) (fall c.first_below.new.rows.told (λ (x : Held). c.in_ok-present.present ≡ x.floor) c.in_ok-present.ensures.floor h ((ap (λ (v : Versions). v.told) c.in_ok-low.ensures.same) ∙ told)) c.does_prune.ensures) ∙ c.if-not-does_prune.true)

pub returns-clause-ahead : goal.returns-clause-ahead
returns-clause-ahead g c =
    let F : Option Held → Type 0 = λ o. IfNone o (c.kill.new.self.told ≡ None) in
    ahead_left c.in_ok-low.low.rest c.args.rows.now.told c.kill.new.self.told c.args.tx c.args.rows.now.epoch c.args.floor c.args.limit c.in_ok-low.ensures.tx c.requires.versions c.in_ok-low.ensures.rest (returns-clause-ok g c)
    (subst F (ap (λ (v : Versions). v.told) c.in_ok-present.ensures.same ∙ ap (λ (v : Versions). v.told) c.in_ok-low.ensures.same) c.in_ok-kill.ensures.silent)
