use Rattle.std.proofs.Common.{◌≡◌, ◌+◌, ℕ, List, map, All, Option, Some, None, refl, sym, ap, subst, ◌∙◌}
use Rattle.agg_outside.specs.declared.rows.RowId.{RowId}
use Rattle.agg_outside.specs.Rows.{Held, applied}
use Rattle.agg_model.specs.Arranged.{arranged_from}
use Rattle.row_epochs.specs.Seen.{SameUpTo, SameFrom, without_dead}
use Rattle.row_epochs.specs.Changes.{changes_seen, writes_of, kills_of}
use Rattle.row_epochs.specs.Versions.{Versions, AreVersions}
use Rattle.row_epochs.specs.Kills.{AreKillsNoted}
use Rattle.row_epochs.proofs.Answering.{tell, fall, made, kept, becomes, batched, killed_by, purged_by}
use Rattle.row_epochs.proofs.KillLaws.{purge_noted}
use Rattle.row_epochs.proofs.rows.Rows.purge.Goals as goal

pub apply-requires : goal.apply-requires
apply-requires g c = λ h told. (purged_by (g.K.Keeper.held c.dead_ids.new.keeper) (g.K.Keeper.held c.self.inside.keeper) c.self.inside.epoch c.args.oldest c.in_ok-ids.ids.items c.as_slice.result.now c.in_ok-ids.ensures.held c.self.invariant.1 c.in_ok-ids.ensures.ids (c.as_slice.ensures.value ∙ c.in_ok-writes.ensures) h told).can

pub invariant_of-self-2 : goal.invariant_of-self-2
invariant_of-self-2 g c = (
  c.self.invariant.0,
  made (g.K.Keeper.held c.dead_ids.new.keeper) (g.K.Keeper.held c.apply.new.self) (applied c.as_slice.result.now) (AreVersions c.self.inside.epoch)
      (λ h told. (purged_by (g.K.Keeper.held c.dead_ids.new.keeper) (g.K.Keeper.held c.self.inside.keeper) c.self.inside.epoch c.args.oldest c.in_ok-ids.ids.items c.as_slice.result.now c.in_ok-ids.ensures.held c.self.invariant.1 c.in_ok-ids.ensures.ids (c.as_slice.ensures.value ∙ c.in_ok-writes.ensures) h told).are) c.in_ok-apply.ensures.ok c.in_ok-apply.ensures.silent,
  made (g.K.Keeper.held c.dead_ids.new.keeper) (g.K.Keeper.held c.apply.new.self) (applied c.as_slice.result.now) (λ (h : Held). AreKillsNoted c.forget_dead.new.kills h.rows)
      (λ h told. purge_noted c.dead_ids.new.kills c.forget_dead.new.kills c.args.oldest c.as_slice.result.now h (purged_by (g.K.Keeper.held c.dead_ids.new.keeper) (g.K.Keeper.held c.self.inside.keeper) c.self.inside.epoch c.args.oldest c.in_ok-ids.ids.items c.as_slice.result.now c.in_ok-ids.ensures.held c.self.invariant.1 c.in_ok-ids.ensures.ids (c.as_slice.ensures.value ∙ c.in_ok-writes.ensures) h told).is
      (fall (g.K.Keeper.held c.self.inside.keeper) (λ (x : Held). AreKillsNoted c.dead_ids.new.kills x.rows) c.in_ok-ids.ensures.kills h (sym c.in_ok-ids.ensures.held ∙ told)) c.forget_dead.ensures)
      c.in_ok-apply.ensures.ok c.in_ok-apply.ensures.silent,
)

pub returns-clause-sound : goal.returns-clause-sound
returns-clause-sound g c =
    made (g.K.Keeper.held c.dead_ids.new.keeper) (g.K.Keeper.held c.apply.new.self) (applied c.as_slice.result.now) (AreVersions c.self.inside.epoch)
    (λ h told. (purged_by (g.K.Keeper.held c.dead_ids.new.keeper) (g.K.Keeper.held c.self.inside.keeper) c.self.inside.epoch c.args.oldest c.in_ok-ids.ids.items c.as_slice.result.now c.in_ok-ids.ensures.held c.self.invariant.1 c.in_ok-ids.ensures.ids (c.as_slice.ensures.value ∙ c.in_ok-writes.ensures) h told).are) c.in_ok-apply.ensures.ok c.in_ok-apply.ensures.silent

pub returns-clause-ok : goal.returns-clause-ok
returns-clause-ok g c =
    becomes (g.K.Keeper.held c.dead_ids.new.keeper) c.args.self.now.told (g.K.Keeper.held c.apply.new.self) (applied c.as_slice.result.now) (λ (h : Held). record h { rows = without_dead c.args.oldest h.rows }) (c.in_ok-ids.ensures.held ∙ (ap (λ (v : Versions). v.told) c.self.view_is))
    (λ h told. (purged_by (g.K.Keeper.held c.dead_ids.new.keeper) (g.K.Keeper.held c.self.inside.keeper) c.self.inside.epoch c.args.oldest c.in_ok-ids.ids.items c.as_slice.result.now c.in_ok-ids.ensures.held c.self.invariant.1 c.in_ok-ids.ensures.ids (c.as_slice.ensures.value ∙ c.in_ok-writes.ensures) h told).is) c.in_ok-apply.ensures.ok

pub returns-clause-later : goal.returns-clause-later
returns-clause-later g c =
    kept (g.K.Keeper.held c.dead_ids.new.keeper) c.args.self.now.told (g.K.Keeper.held c.apply.new.self) (applied c.as_slice.result.now) (λ (h k : Held). SameFrom c.args.oldest h.rows k.rows) (c.in_ok-ids.ensures.held ∙ (ap (λ (v : Versions). v.told) c.self.view_is))
    (λ h told. (purged_by (g.K.Keeper.held c.dead_ids.new.keeper) (g.K.Keeper.held c.self.inside.keeper) c.self.inside.epoch c.args.oldest c.in_ok-ids.ids.items c.as_slice.result.now c.in_ok-ids.ensures.held c.self.invariant.1 c.in_ok-ids.ensures.ids (c.as_slice.ensures.value ∙ c.in_ok-writes.ensures) h told).later) c.in_ok-apply.ensures.ok
