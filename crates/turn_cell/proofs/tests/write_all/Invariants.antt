use Rattle.turn_cell.specs.Passes.{IsAtRest}
use Rattle.turn_cell.proofs.tests.write_all.Given as goal

abbrev pub invariant-loop-count : goal.invariant-loop-count
invariant-loop-count g l = IsAtRest l.cell l.pass
