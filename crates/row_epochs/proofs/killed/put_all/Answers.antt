use Rattle.row_epochs.proofs.KillLaws.{put_more}
use Rattle.row_epochs.proofs.killed.put_all.Goals as goal

pub loop-id-preserved : goal.loop-id-preserved
loop-id-preserved c =
    put_more c.args.epoch c.args.kills.now.entries c.loop-id.kills.entries c.put.new.kills.entries c.args.ids.now c.loop-id.id-index c.id-item.result c.in_ok-copy.copy c.loop-id-test.true c.id-item.is c.loop-id.invariant c.in_ok-copy.ensures c.in_ok-put.ensures
