use Rattle.row_epochs.specs.Seen.{without_dead}
use Rattle.agg_outside.specs.Rows.{Held}
use Rattle.row_epochs.proofs.Answering.{fall}
use Rattle.hot_keeper.specs.Notes.{AreNoted}
use Rattle.hot_keeper.specs.ReadAhead.{AreAhead}
use Rattle.hot_keeper.specs.Skips.{AreKilledBy}
use Rattle.hot_keeper.proofs.SkipLaws.{killed_purged}
use Rattle.hot_keeper.proofs.AheadLaws.{are_ahead_purged}
use Rattle.hot_keeper.proofs.PruneLeft.{told_after, err_told, are_noted_purged}
use Rattle.hot_keeper.proofs.hot.Hot.purge.Goals as goal

pub invariant_of-self : goal.invariant_of-self
invariant_of-self g c = (
  c.purge.ensures.sound,
  told_after c.purge.result c.self.inside.rows.told c.purge.new.self.told (λ (h : Held). record h { rows = without_dead c.args.oldest h.rows }) (AreNoted c.self.inside.notes) c.purge.ensures.ok (err_told c.purge.result c.self.inside.rows c.purge.new.self c.purge.ensures.err) c.purge.ensures.silent
      (λ h told. let noted = fall c.self.inside.rows.told (λ (k : Held). AreNoted c.self.inside.notes k.rows) c.self.invariant.1 h told in (noted, are_noted_purged c.self.inside.notes c.args.oldest h.rows noted)),
  told_after c.purge.result c.self.inside.rows.told c.purge.new.self.told (λ (h : Held). record h { rows = without_dead c.args.oldest h.rows }) (AreAhead c.self.inside.ahead) c.purge.ensures.ok (err_told c.purge.result c.self.inside.rows c.purge.new.self c.purge.ensures.err) c.purge.ensures.silent
      (λ h told. let ahead = fall c.self.inside.rows.told (λ (k : Held). AreAhead c.self.inside.ahead k.rows) c.self.invariant.2 h told in (ahead, are_ahead_purged c.self.inside.ahead c.args.oldest h.rows ahead)),
  told_after c.purge.result c.self.inside.rows.told c.purge.new.self.told (λ (h : Held). record h { rows = without_dead c.args.oldest h.rows }) (AreKilledBy c.self.inside.last_kill) c.purge.ensures.ok (err_told c.purge.result c.self.inside.rows c.purge.new.self c.purge.ensures.err) c.purge.ensures.silent
      (λ h told. let kills = fall c.self.inside.rows.told (λ (k : Held). AreKilledBy c.self.inside.last_kill k.rows) c.self.invariant.3 h told in (kills, killed_purged c.self.inside.last_kill c.args.oldest h.rows kills)),
)
