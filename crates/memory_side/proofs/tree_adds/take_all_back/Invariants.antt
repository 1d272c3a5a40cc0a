use Rattle.std.proofs.Common.{◌≡◌, ◌≤◌, IsTrue, length, take}
use Rattle.std.specs.List.{list_all}
use Rattle.agg_outside.specs.Rows.{Held, applied, CanApply}
use Rattle.memory_side.specs.RowTree.{rows_of, adds}
use Rattle.memory_side.proofs.tree_adds.take_all_back.Given as goal

-- those that are left make the rows that are there
abbrev pub invariant-loop-left : goal.invariant-loop-left
invariant-loop-left l = record {
  within : l.left ≤ length l.writes;
  rows : (held : Held) → IsTrue (list_all adds l.writes) → CanApply l.writes held
      → rows_of l.fn.rows.entries ≡ (applied l.writes held).rows → rows_of l.rows.entries ≡ (applied (take l.left l.writes) held).rows;
}

abbrev pub decreases-loop-left : goal.decreases-loop-left
decreases-loop-left l = l.left
