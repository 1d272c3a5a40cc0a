use Rattle.std.proofs.Common.{arith, ◌≡◌, ◌+◌, ℕ, List, map, All, Option, Some, None, refl, sym, ap, subst, ◌∙◌}
use Rattle.agg_outside.specs.declared.rows.RowId.{RowId}
use Rattle.agg_outside.specs.Rows.{Held, applied}
use Rattle.agg_model.specs.Arranged.{arranged_from}
use Rattle.row_epochs.specs.Seen.{SameUpTo, SameFrom, without_dead}
use Rattle.row_epochs.specs.Changes.{changes_seen, writes_of, kills_of}
use Rattle.row_epochs.specs.Versions.{Versions, AreVersions}
use Rattle.row_epochs.specs.Kills.{AreKillsNoted}
use Rattle.row_epochs.proofs.Answering.{tell, fall, made, kept, becomes, batched, killed_by, purged_by}
use Rattle.row_epochs.proofs.KillLaws.{kills_noted}
use Rattle.row_epochs.proofs.rows.Rows.kill.Goals as goal

pub note_kills-requires : goal.note_kills-requires
note_kills-requires g c = omega (arith, c.in_ok-epoch.ensures.next)

pub apply-requires : goal.apply-requires
apply-requires g c = λ h told. (killed_by (g.K.Keeper.held c.self.inside.keeper) c.args.self.now.told c.self.inside.epoch c.args.self.now.epoch c.in_ok-epoch.epoch c.args.floor c.args.ids.now c.as_slice.result.now (ap (λ (v : Versions). v.told) c.self.view_is) (ap (λ (v : Versions). v.epoch) c.self.view_is) c.in_ok-epoch.ensures.next (c.as_slice.ensures.value ∙ c.in_ok-writes.ensures) c.self.invariant.1 c.requires.alive h told).can

pub invariant_of-self-2 : goal.invariant_of-self-2
invariant_of-self-2 g c = (
  c.in_ok-epoch.ensures.within,
  made (g.K.Keeper.held c.self.inside.keeper) (g.K.Keeper.held c.apply.new.self) (applied c.as_slice.result.now) (AreVersions c.in_ok-epoch.epoch)
      (λ h told. (killed_by (g.K.Keeper.held c.self.inside.keeper) c.args.self.now.told c.self.inside.epoch c.args.self.now.epoch c.in_ok-epoch.epoch c.args.floor c.args.ids.now c.as_slice.result.now (ap (λ (v : Versions). v.told) c.self.view_is) (ap (λ (v : Versions). v.epoch) c.self.view_is) c.in_ok-epoch.ensures.next (c.as_slice.ensures.value ∙ c.in_ok-writes.ensures) c.self.invariant.1 c.requires.alive h told).are) c.in_ok-apply.ensures.ok c.in_ok-apply.ensures.silent,
  made (g.K.Keeper.held c.self.inside.keeper) (g.K.Keeper.held c.apply.new.self) (applied c.as_slice.result.now) (λ (h : Held). AreKillsNoted c.note_kills.new.kills h.rows)
      (λ h told. kills_noted (g.K.Keeper.held c.self.inside.keeper) c.args.self.now.told c.self.inside.kills c.note_kills.new.kills c.self.inside.epoch c.in_ok-epoch.epoch c.args.floor c.args.ids.now c.as_slice.result.now (ap (λ (v : Versions). v.told) c.self.view_is) (c.as_slice.ensures.value ∙ c.in_ok-writes.ensures) c.self.invariant.1 c.self.invariant.2 c.requires.alive c.note_kills.ensures h told)
      c.in_ok-apply.ensures.ok c.in_ok-apply.ensures.silent,
)

pub returns-clause-sound : goal.returns-clause-sound
returns-clause-sound g c =
    made (g.K.Keeper.held c.self.inside.keeper) (g.K.Keeper.held c.apply.new.self) (applied c.as_slice.result.now) (AreVersions c.in_ok-epoch.epoch)
    (λ h told. (killed_by (g.K.Keeper.held c.self.inside.keeper) c.args.self.now.told c.self.inside.epoch c.args.self.now.epoch c.in_ok-epoch.epoch c.args.floor c.args.ids.now c.as_slice.result.now (ap (λ (v : Versions). v.told) c.self.view_is) (ap (λ (v : Versions). v.epoch) c.self.view_is) c.in_ok-epoch.ensures.next (c.as_slice.ensures.value ∙ c.in_ok-writes.ensures) c.self.invariant.1 c.requires.alive h told).are) c.in_ok-apply.ensures.ok c.in_ok-apply.ensures.silent

pub returns-clause-earlier : goal.returns-clause-earlier
returns-clause-earlier g c =
    kept (g.K.Keeper.held c.self.inside.keeper) c.args.self.now.told (g.K.Keeper.held c.apply.new.self) (applied c.as_slice.result.now) (λ (h k : Held). SameUpTo c.args.self.now.epoch h.rows k.rows) (ap (λ (v : Versions). v.told) c.self.view_is)
    (λ h told. (killed_by (g.K.Keeper.held c.self.inside.keeper) c.args.self.now.told c.self.inside.epoch c.args.self.now.epoch c.in_ok-epoch.epoch c.args.floor c.args.ids.now c.as_slice.result.now (ap (λ (v : Versions). v.told) c.self.view_is) (ap (λ (v : Versions). v.epoch) c.self.view_is) c.in_ok-epoch.ensures.next (c.as_slice.ensures.value ∙ c.in_ok-writes.ensures) c.self.invariant.1 c.requires.alive h told).earlier) c.in_ok-apply.ensures.ok
