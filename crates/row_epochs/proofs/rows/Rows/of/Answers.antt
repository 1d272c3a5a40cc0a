use Rattle.std.proofs.Common.{IsTrue, None}
use Rattle.agg_outside.specs.Rows.{Held, ascends}
use Rattle.row_epochs.specs.Versions.{AreVersions}
use Rattle.row_epochs.specs.Kills.{AreKillsNoted}
use Rattle.row_epochs.proofs.Answering.{tell, fall}
use Rattle.row_epochs.proofs.rows.Rows.of.Goals as goal

pub invariant_of-result : goal.invariant_of-result
invariant_of-result g c =
    let laws = g.met.K.Keeper in (
      c.requires.epoch,
      tell (g.K.Keeper.held c.args.keeper) (AreVersions c.args.epoch) (λ h told.
          let rows = c.requires.rows h told in
          record {
            in_order = fall (g.K.Keeper.held c.args.keeper) (λ (x : Held). IsTrue (ascends x.rows)) (laws.in_order c.args.keeper) h told;
            versions = rows.versions;
            apart = rows.apart;
          }),
      tell (g.K.Keeper.held c.args.keeper) (λ h. AreKillsNoted None h.rows) (λ h told. tt),
    )
