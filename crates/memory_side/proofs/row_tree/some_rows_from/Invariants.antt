use Rattle.std.proofs.Common.{◌≡◌, ◌≤◌, ◌++◌, ◌-◌, length, take}
use Rattle.agg_outside.specs.Rows.{rows_from}
use Rattle.memory_side.specs.RowTree.{rows_of}
use Rattle.memory_side.proofs.row_tree.some_rows_from.Given as goal

abbrev pub invariant-loop-key : goal.invariant-loop-key
invariant-loop-key l =
    (goal.iterator-loop-key).can_next l.key-iterator
    × (goal.iterator-loop-key).is_finite l.key-iterator
    × (length l.copies ≤ l.limit)
    × (l.copies ++ take (l.limit - length l.copies) (rows_of l.key-iterator) ≡ take l.limit (rows_from l.id (rows_of l.rows.entries)))
