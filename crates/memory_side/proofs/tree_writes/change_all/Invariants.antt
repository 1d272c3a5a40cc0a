use Rattle.std.proofs.Common.{◌≡◌, take}
use Rattle.agg_outside.specs.Rows.{applied}
use Rattle.memory_side.specs.RowTree.{rows_of}
use Rattle.memory_side.proofs.tree_writes.change_all.Given as goal

-- the writes so far are made
abbrev pub invariant-loop-write : goal.invariant-loop-write
invariant-loop-write l = record {
  rows : rows_of l.rows.entries ≡ (applied (take l.write-index l.writes) (record { rows = rows_of l.fn.rows.entries; floor = l.fn.floor })).rows;
  floor : l.floor ≡ (applied (take l.write-index l.writes) (record { rows = rows_of l.fn.rows.entries; floor = l.fn.floor })).floor;
}
