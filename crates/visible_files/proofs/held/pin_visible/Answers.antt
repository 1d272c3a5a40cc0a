use Rattle.visible_files.specs.Held.{raised}
use Rattle.visible_files.proofs.Pins.{raise-ok, over-more}
use Rattle.visible_files.proofs.held.pin_visible.Goals as goal

pub raise-requires : goal.raise-requires
raise-requires c = raise-ok c.args.held.now c.loop-group.held c.loop-group.group-index _ c.loop-group.invariant c.requires c.loop-group-test.true

pub loop-group-preserved : goal.loop-group-preserved
loop-group-preserved c =
    over-more raised c.args.held.now c.loop-group.held c.loop-group.group-index _ c.raise.result c.loop-group.invariant c.loop-group-test.true c.raise.ensures
