use Rattle.std.proofs.Common.{◌≡◌, take}
use Rattle.memory_side.proofs.RowSlots.{slots_of}
use Rattle.memory_side.proofs.row_tree.tree_of.Given as goal

abbrev pub invariant-loop-row : goal.invariant-loop-row
invariant-loop-row l = l.tree.entries ≡ slots_of (take l.row-index l.rows)
