use Rattle.std.proofs.Common.{◌≡◌}
use Rattle.inverted_index.specs.Climbing.{climbs}
use Rattle.inverted_index.proofs.numbers.list_climbs.Given as goal

abbrev pub invariant-loop-item : goal.invariant-loop-item
invariant-loop-item l =
    (goal.iterator-loop-item).can_next l.item-iterator ×
    (goal.iterator-loop-item).is_finite l.item-iterator ×
    (climbs l.from l.end l.item-iterator ≡ climbs l.fn.start l.end l.fn.list)
