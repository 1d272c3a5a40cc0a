use Rattle.std.proofs.Common.{◌≡◌, ◌≤◌, List, [], ◌++◌, length, drop}
use Rattle.std.specs.BTreeMap.{get}
use Rattle.agg_model.specs.declared.change.Change.{Change}
use Rattle.agg_model.specs.Merged.{index_of, places_from}
use Rattle.agg_model.specs.Spot.{spot_cmp, place_of_spot}
use Rattle.agg_model.specs.declared.merge.Spot.{Spot}
use Rattle.agg_model.proofs.Merges.{Goes}
use Rattle.agg_model.proofs.merge.places_of.Given as goal

-- the changes so far leave `kept`
abbrev pub invariant-loop-i : goal.invariant-loop-i
invariant-loop-i l = record {
  kept : List Change;
  count : length kept ≡ l.count;
  few : l.count ≤ l.i;
  long : length l.places.items ≡ l.i;
  left : l.places.items ++ places_from kept (drop l.i l.changes) ≡ places_from [] l.changes;
  goes : (s : Spot) → Goes (get spot_cmp l.seen s) l.places.items (index_of (place_of_spot s) kept);
}
