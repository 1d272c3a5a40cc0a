use Rattle.memory_side.proofs.RowSlots.{slots_ascend-sorted}
use Rattle.memory_side.proofs.row_tree.put_row.Goals as goal

pub returns-in-Ok-clause-ascend : goal.returns-in-Ok-clause-ascend
returns-in-Ok-clause-ascend c = slots_ascend-sorted c.args.tree.now.entries c.in-Ok.ensures.was_ordered
