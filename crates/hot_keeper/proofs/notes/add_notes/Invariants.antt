use Rattle.std.proofs.Common.{All}
use Rattle.std.specs.BTreeSet.{BTreeSet}
use Rattle.std.specs.Vec.Iter.{into_iter_items}
use Rattle.agg_outside.specs.declared.rows.RowId.{RowId}
use Rattle.hot_keeper.specs.declared.notes.Note.{Note}
use Rattle.hot_keeper.specs.Notes.{HasNote}
use Rattle.hot_keeper.proofs.notes.add_notes.Given as goal

-- notes that have those so far and those that are left have all
abbrev pub invariant-loop-id : goal.invariant-loop-id
invariant-loop-id l = record {
  can : (goal.iterator-loop-id).can_next l.id-iterator;
  ends : (goal.iterator-loop-id).is_finite l.id-iterator;
  keep : (other : RowId) → HasNote l.fn.notes other → HasNote l.notes other;
  left : (last : BTreeSet Note) → ((other : RowId) → HasNote l.notes other → HasNote last other) → All (HasNote last) (into_iter_items l.id-iterator) → All (HasNote last) l.fn.ids.items;
}
