use Rattle.turn_cell.specs.Passes.{knowledge_in}
use Rattle.bench_turns.proofs.threads.turn.Given as goal

-- the record that this turn adds
abbrev pub ghosts-finish : goal.ghosts-finish
ghosts-finish g a = record { added = record { by = (knowledge_in a.turn).number } }
