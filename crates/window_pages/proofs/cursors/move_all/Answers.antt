use Rattle.window_pages.specs.Places.{moved}
use Rattle.window_pages.proofs.Places.{over-more}
use Rattle.window_pages.proofs.cursors.move_all.Goals as goal

pub loop-cursor-preserved : goal.loop-cursor-preserved
loop-cursor-preserved c =
    over-more (moved c.args.first.now) c.args.cursors.now c.loop-cursor.cursors c.loop-cursor.cursor-index c.cursor-item.result c.moved_to.result
    c.loop-cursor.invariant c.loop-cursor-test.true c.moved_to.ensures
