use Rattle.memory_side.proofs.RowSlots.{slots_ascend-sorted}
use Rattle.memory_side.proofs.tree_writes.kill.Goals as goal

pub returns-clause-ascend : goal.returns-clause-ascend
returns-clause-ascend c = slots_ascend-sorted c.args.rows.now.entries c.get_mut.ensures.ordered
