use Rattle.std.proofs.Common.{◌≡◌, drop}
use Rattle.inverted_index.specs.Climbing.{climbs}
use Rattle.inverted_index.proofs.numbers.slice_climbs.Given as goal

abbrev pub invariant-loop-item : goal.invariant-loop-item
invariant-loop-item l = climbs l.from l.end (drop l.item-index l.items) ≡ climbs l.fn.start l.end l.items
