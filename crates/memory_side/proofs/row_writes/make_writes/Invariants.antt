use Rattle.std.proofs.Common.{◌≡◌, ◌+◌, ◌≤◌, IsTrue, length, vec_len, vec_capacity}
use Rattle.std.specs.Vec.Iter.{into_iter_items}
use Rattle.agg_outside.specs.Rows.{ascends, applied, CanApply}
use Rattle.memory_side.proofs.row_writes.make_writes.Given as goal

-- the writes that are left make of the rows as they are what all make of the rows at first
abbrev pub invariant-loop-write : goal.invariant-loop-write
invariant-loop-write l = record {
  in_order : IsTrue (ascends l.rows.items);
  can : CanApply (into_iter_items l.write-iterator) (record { rows = l.rows.items; floor = l.floor });
  room : vec_len l.rows + length (into_iter_items l.write-iterator) ≤ vec_capacity l.rows;
  left : applied (into_iter_items l.write-iterator) (record { rows = l.rows.items; floor = l.floor }) ≡ applied l.fn.writes.items (record { rows = l.fn.rows.items; floor = l.fn.floor });
}
