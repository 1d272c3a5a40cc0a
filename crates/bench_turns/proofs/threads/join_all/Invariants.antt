use Rattle.std.proofs.Common.{◌≡◌, ◌+◌, length}
use Rattle.std.specs.Prelude.{All, vec_len}
use Rattle.turn_cell.specs.Passes.{IsAtRest, knowledge_of}
use Rattle.bench_turns.specs.First.{IsFirst}
use Rattle.bench_turns.proofs.threads.join_all.Given as goal

abbrev pub invariant-loop-pass : goal.invariant-loop-pass
invariant-loop-pass l =
    IsAtRest l.cell l.zero × IsFirst (knowledge_of l.zero) × ((knowledge_of l.zero).out ≡ vec_len l.passes)
    × (length (knowledge_of l.zero).ended + vec_len l.passes ≡ vec_len l.initial.passes)
    × All (λ e. length e.records ≡ l.count) (knowledge_of l.zero).ended
    × All (λ p. IsAtRest l.cell p × (length (knowledge_of p).mine ≡ l.count)) l.passes.items

abbrev pub decreases-loop-pass : goal.decreases-loop-pass
decreases-loop-pass l = vec_len l.passes
