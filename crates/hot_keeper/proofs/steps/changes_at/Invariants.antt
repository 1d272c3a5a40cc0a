use Rattle.std.proofs.Common.{◌≡◌, ◌≤◌, Some}
use Rattle.std.specs.Vec.Iter.{into_iter_items}
use Rattle.agg_outside.specs.Rows.{Held}
use Rattle.hot_keeper.specs.Notes.{IsLeft}
use Rattle.hot_keeper.proofs.steps.changes_at.Given as goal

abbrev pub invariant-loop-id : goal.invariant-loop-id
invariant-loop-id g l = record {
  can : (goal.iterator-loop-id g).can_next l.id-iterator;
  ends : (goal.iterator-loop-id g).is_finite l.id-iterator;
  told : l.rows.told ≡ l.initial.rows.told;
  epoch : l.rows.epoch ≡ l.initial.rows.epoch;
  faults : l.initial.rows.faults ≤ l.rows.faults;
  left : (h : Held) → l.initial.rows.told ≡ Some h → IsLeft l.present l.numbers.from l.numbers.to h.rows l.place (into_iter_items l.id-iterator) l.changes;
}
