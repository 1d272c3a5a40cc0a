use Rattle.std.proofs.Common.{◌≡◌, cond, ◌∙◌, ◌↔◌, ◌≤◌, ◌+◌, length}
use Rattle.agg_outside.specs.Rows.{Held}
use Rattle.row_epochs.specs.Versions.{AreVersions}
use Rattle.row_epochs.proofs.Answering.{fall, made}
use Rattle.hot_keeper.specs.Notes.{AreNoted}
use Rattle.hot_keeper.specs.Pruning.{low_rows, pruned}
use Rattle.hot_keeper.proofs.PruneLeft.{are_noted_pruned, high_pruned}
use Rattle.std.specs.Prelude.{◌==◌}
use Rattle.hot_keeper.proofs.SkipLaws.{killed_told}
use Rattle.hot_keeper.proofs.hot.Hot.kill_below.Goals as goal

pub invariant_of-self-then-pruned-eq0 : goal.invariant_of-self-then-pruned-eq0
invariant_of-self-then-pruned-eq0 g c = (
  c.in_ok-pruned.ensures.sound,
  made c.self.inside.rows.told c.kill_first.new.rows.told (λ (h : Held). pruned (c.self.inside.rows.epoch + 1) c.args.tx c.args.floor c.args.limit h) _
      (λ h told. c.drop_below.ensures (pruned (c.self.inside.rows.epoch + 1) c.args.tx c.args.floor c.args.limit h).rows
      (are_noted_pruned c.self.inside.notes c.self.inside.rows.epoch c.args.tx c.args.floor c.args.limit h (fall c.self.inside.rows.told (λ (k : Held). AreNoted c.self.inside.notes k.rows) c.self.invariant.1 h told))
      (high_pruned c.self.inside.rows.epoch c.args.tx c.args.floor c.args.limit c.in_ok-pruned.pruned.left h (fall c.self.inside.rows.told (AreVersions c.self.inside.rows.epoch) c.self.invariant.0 h told).in_order
      (fall c.self.inside.rows.told (λ (x : Held). (c.in_ok-pruned.pruned.left ≡ 0) ↔ (length (low_rows c.args.tx x.rows) ≤ c.args.limit)) c.in_ok-pruned.ensures.left h told) c.if-pruned-eq0.true))
      c.in_ok-pruned.ensures.ok c.in_ok-pruned.ensures.silent,
  c.in_ok-pruned.ensures.ahead,
  killed_told c.self.inside.last_kill c.self.inside.rows.epoch c.kill_first.new.rows.epoch c.kill_after-self-inside.result c.args.tx c.args.floor c.args.limit c.self.inside.rows.told c.kill_first.new.rows.told
      (c.kill_after-self-inside.ensures ∙ (λ i. cond (c.epoch-before.ensures.epoch i == c.epoch.ensures.epoch i) c.self.inside.last_kill (c.epoch.ensures.epoch i)))
      c.in_ok-pruned.ensures.ok c.in_ok-pruned.ensures.epoch c.in_ok-pruned.ensures.silent c.in_ok-pruned.ensures.sound c.self.invariant.3,
)

pub invariant_of-self-else-pruned-eq0 : goal.invariant_of-self-else-pruned-eq0
invariant_of-self-else-pruned-eq0 g c = (
  c.in_ok-pruned.ensures.sound,
  made c.self.inside.rows.told c.kill_first.new.rows.told (λ (h : Held). pruned (c.self.inside.rows.epoch + 1) c.args.tx c.args.floor c.args.limit h) _
      (λ h told. are_noted_pruned c.self.inside.notes c.self.inside.rows.epoch c.args.tx c.args.floor c.args.limit h (fall c.self.inside.rows.told (λ (k : Held). AreNoted c.self.inside.notes k.rows) c.self.invariant.1 h told))
      c.in_ok-pruned.ensures.ok c.in_ok-pruned.ensures.silent,
  c.in_ok-pruned.ensures.ahead,
  killed_told c.self.inside.last_kill c.self.inside.rows.epoch c.kill_first.new.rows.epoch c.kill_after-self-inside.result c.args.tx c.args.floor c.args.limit c.self.inside.rows.told c.kill_first.new.rows.told
      (c.kill_after-self-inside.ensures ∙ (λ i. cond (c.epoch-before.ensures.epoch i == c.epoch.ensures.epoch i) c.self.inside.last_kill (c.epoch.ensures.epoch i)))
      c.in_ok-pruned.ensures.ok c.in_ok-pruned.ensures.epoch c.in_ok-pruned.ensures.silent c.in_ok-pruned.ensures.sound c.self.invariant.3,
)
