use Rattle.memory_side.proofs.RowSlots.{slots_ascend-sorted, rows_of-ascends}
use Rattle.memory_side.proofs.row_tree.slots_in_order.Goals as goal

pub returns-clause-slots : goal.returns-clause-slots
returns-clause-slots c = slots_ascend-sorted c.args.rows.now.entries c.keys-keys.ensures.ordered

pub returns-clause-rows : goal.returns-clause-rows
returns-clause-rows c = rows_of-ascends c.args.rows.now.entries (slots_ascend-sorted c.args.rows.now.entries c.keys-keys.ensures.ordered)
