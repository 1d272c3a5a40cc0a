use Rattle.std.proofs.Common.{◌≡◌, ◌++◌}
use Rattle.memory_side.specs.RowTree.{rows_of}
use Rattle.memory_side.proofs.row_tree.all_rows.Given as goal

abbrev pub invariant-loop-key : goal.invariant-loop-key
invariant-loop-key l =
    (goal.iterator-loop-key).can_next l.key-iterator
    × (goal.iterator-loop-key).is_finite l.key-iterator
    × (l.copies ++ rows_of l.key-iterator ≡ rows_of l.rows.entries)
