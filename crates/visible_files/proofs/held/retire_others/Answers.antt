use Rattle.visible_files.specs.Held.{retired_without}
use Rattle.visible_files.proofs.Pins.{over-more}
use Rattle.visible_files.proofs.held.retire_others.Goals as goal

pub loop-group-preserved : goal.loop-group-preserved
loop-group-preserved c =
    over-more (retired_without c.args.ids.now) c.args.held.now c.loop-group.held c.loop-group.group-index _ c.retire.result c.loop-group.invariant c.loop-group-test.true c.retire.ensures
