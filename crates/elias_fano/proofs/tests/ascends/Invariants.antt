use Rattle.std.proofs.Common.{◌≡◌, drop}
use Rattle.elias_fano.specs.Reading.{first_descent}
use Rattle.elias_fano.proofs.tests.ascends.Given as goal

abbrev pub invariant-loop-item : goal.invariant-loop-item
invariant-loop-item l = first_descent l.before l.item-index (drop l.item-index l.items) ≡ first_descent 0 0 l.items
