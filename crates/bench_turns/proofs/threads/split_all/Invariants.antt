use Rattle.std.proofs.Common.{◌≡◌, ◌+◌, []}
use Rattle.std.specs.Prelude.{All, vec_len}
use Rattle.turn_cell.specs.Passes.{IsAtRest, knowledge_of}
use Rattle.bench_turns.specs.First.{IsFirst}
use Rattle.bench_turns.proofs.threads.split_all.Given as goal

abbrev pub invariant-loop-passed : goal.invariant-loop-passed
invariant-loop-passed l =
    IsAtRest l.cell l.zero × IsFirst (knowledge_of l.zero) × ((knowledge_of l.zero).made ≡ 1 + vec_len l.passes)
    × ((knowledge_of l.zero).out ≡ vec_len l.passes) × ((knowledge_of l.zero).ended ≡ []) × (vec_len l.passes ≡ l._passed)
    × All (λ p. IsAtRest l.cell p × ((knowledge_of p).mine ≡ [])) l.passes.items
