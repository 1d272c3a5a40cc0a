use Rattle.std.proofs.Common.{◌≡◌}
use Rattle.std.specs.Prelude.{All, vec_len}
use Rattle.turn_cell.specs.Passes.{IsAtRest, knowledge_of}
use Rattle.turn_cell.proofs.tests.join_all.Given as goal

abbrev pub invariant-loop-pass : goal.invariant-loop-pass
invariant-loop-pass l =
    IsAtRest l.cell l.zero × ((knowledge_of l.zero).number ≡ 0) × ((knowledge_of l.zero).out ≡ vec_len l.passes) × All (λ p. IsAtRest l.cell p) l.passes.items

abbrev pub decreases-loop-pass : goal.decreases-loop-pass
decreases-loop-pass l = vec_len l.passes
