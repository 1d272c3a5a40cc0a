use Rattle.std.proofs.Common.{◌≡◌, drop}
use Rattle.std.specs.Vec.Iter.{into_iter_items}
use Rattle.agg_model.specs.Merged.{merged_from, merged, places_from}
use Rattle.agg_model.proofs.merge.placed.Given as goal

abbrev pub invariant-loop-change : goal.invariant-loop-change
invariant-loop-change l = record {
  can : (goal.iterator-loop-change).can_next l.change-iterator;
  ends : (goal.iterator-loop-change).is_finite l.change-iterator;
  left : merged_from l.kept.items (into_iter_items l.change-iterator) ≡ merged l.fn.batch;
  placed : places_from l.kept.items (into_iter_items l.change-iterator) ≡ drop l.at l.places;
}
