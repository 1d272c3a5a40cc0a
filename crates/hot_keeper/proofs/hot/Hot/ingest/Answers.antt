use Rattle.std.proofs.Common.{ℕ, ◌+◌, subst}
use Rattle.agg_outside.specs.Rows.{Held, applied}
use Rattle.row_epochs.specs.Changes.{writes_of}
use Rattle.row_epochs.proofs.Answering.{fall}
use Rattle.hot_keeper.specs.Notes.{AreNoted}
use Rattle.hot_keeper.specs.ReadAhead.{AreAhead}
use Rattle.hot_keeper.specs.Skips.{AreKilledBy}
use Rattle.hot_keeper.proofs.PruneLeft.{told_after, err_told}
use Rattle.hot_keeper.proofs.SkipLaws.{killed_batch}
use Rattle.hot_keeper.proofs.hot.Hot.ingest.Goals as goal

pub invariant_of-self : goal.invariant_of-self
invariant_of-self g c =
    let told = c.self.inside.rows.told in
    let epoch = c.self.inside.rows.epoch in
    let err = err_told c.write.result c.self.inside.rows c.write.new.self c.write.ensures.err in (
      c.write.ensures.sound,
      told_after c.write.result told c.write.new.self.told (λ (h : Held). applied (writes_of (epoch + 1) c.args.batch.now) h) (AreNoted c.note_batch.new.notes) c.write.ensures.ok err c.write.ensures.silent
          (λ h is.
          let noted = fall told (λ (k : Held). AreNoted c.self.inside.notes k.rows) c.self.invariant.1 h is in
          let F : ℕ → Type 0 = λ e. AreNoted c.note_batch.new.notes (applied (writes_of (e + 1) c.args.batch.now) h).rows in
          (c.note_batch.ensures.before h.rows noted, subst F c.epoch-next.ensures.epoch (c.note_batch.ensures.after h noted))),
      told_after c.write.result told c.write.new.self.told (λ (h : Held). applied (writes_of (epoch + 1) c.args.batch.now) h) (AreAhead c.keep_ahead.new.ahead) c.write.ensures.ok err c.write.ensures.silent
          (λ h is.
          let ahead = fall told (λ (k : Held). AreAhead c.self.inside.ahead k.rows) c.self.invariant.2 h is in
          (c.keep_ahead.ensures.before h.rows ahead, c.keep_ahead.ensures.after (epoch + 1) h ahead)),
      told_after c.write.result told c.write.new.self.told (λ (h : Held). applied (writes_of (epoch + 1) c.args.batch.now) h) (AreKilledBy c.self.inside.last_kill) c.write.ensures.ok err c.write.ensures.silent
          (λ h is.
          let kills = fall told (λ (k : Held). AreKilledBy c.self.inside.last_kill k.rows) c.self.invariant.3 h is in
          (kills, killed_batch c.self.inside.last_kill (epoch + 1) c.args.batch.now h kills)),
    )
