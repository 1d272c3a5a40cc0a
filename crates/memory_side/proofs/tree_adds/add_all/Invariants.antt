use Rattle.std.proofs.Common.{◌≡◌, take}
use Rattle.agg_outside.specs.Rows.{applied}
use Rattle.memory_side.specs.RowTree.{rows_of}
use Rattle.memory_side.proofs.tree_adds.add_all.Given as goal

-- the writes so far are made
abbrev pub invariant-loop-i : goal.invariant-loop-i
invariant-loop-i l = record {
  rows : rows_of l.rows.entries ≡ (applied (take l.i l.writes) (record { rows = rows_of l.fn.rows.entries; floor = l.fn.floor })).rows;
  floor : l.floor ≡ (applied (take l.i l.writes) (record { rows = rows_of l.fn.rows.entries; floor = l.fn.floor })).floor;
}
