use Rattle.std.proofs.Common.{◌≡◌, ap, ◌∙◌}
use Rattle.agg_outside.specs.Rows.{Held}
use Rattle.row_epochs.specs.Seen.{dead}
use Rattle.row_epochs.specs.Places.{ids_of}
use Rattle.row_epochs.specs.Kills.{kills_in, dead_kills}
use Rattle.row_epochs.proofs.Answering.{tell, fall}
use Rattle.row_epochs.proofs.KillLaws.{dead_kills-is}
use Rattle.row_epochs.proofs.killed.dead_ids.Goals as goal

pub returns-clause-ids : goal.returns-clause-ids
returns-clause-ids g c =
    tell (g.K.Keeper.held c.args.keeper.now) (λ (h : Held). c.in_ok-ids.ids.items ≡ ids_of (dead c.args.oldest h.rows)) (λ h told.
    c.in_ok-ids.ensures
    ∙ ap (dead_kills c.args.oldest) (fall (g.K.Keeper.held c.args.keeper.now) (λ (x : Held). c.in_ok-kept.kept.entries ≡ kills_in x.rows) c.in_ok-kept.ensures.kills h told)
    ∙ dead_kills-is c.args.oldest h.rows)
