use Rattle.std.proofs.Common.{◌≡◌, ◌++◌, map}
use Rattle.std.specs.Vec.Iter.{into_iter_items}
use Rattle.agg_outside.specs.declared.rows.RowId.{RowId}
use Rattle.agg_outside.specs.declared.rows.RowWrite.TheVariants.{Remove}
use Rattle.row_epochs.proofs.writes.removals_of.Given as goal

-- the writes so far and those of the ids that are left are those of all
abbrev pub invariant-loop-id : goal.invariant-loop-id
invariant-loop-id l = record {
  can : (goal.iterator-loop-id).can_next l.id-iterator;
  ends : (goal.iterator-loop-id).is_finite l.id-iterator;
  left : l.writes.items ++ map (λ (id : RowId). Remove id) (into_iter_items l.id-iterator) ≡ map (λ (id : RowId). Remove id) l.fn.ids.items;
}
