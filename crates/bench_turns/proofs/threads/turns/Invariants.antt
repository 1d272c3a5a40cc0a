use Rattle.std.proofs.Common.{◌≡◌, ◌+◌, length}
use Rattle.turn_cell.specs.Passes.{IsAtRest, knowledge_of}
use Rattle.bench_turns.proofs.threads.turns.Given as goal

abbrev pub invariant-loop-turn : goal.invariant-loop-turn
invariant-loop-turn g l =
    IsAtRest l.cell l.pass × (length (knowledge_of l.pass).mine ≡ length (knowledge_of l.initial.pass).mine + l._turn)
