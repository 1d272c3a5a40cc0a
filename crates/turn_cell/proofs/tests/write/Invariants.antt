use Rattle.turn_cell.proofs.tests.write.Given as goal

-- the record that this turn adds
abbrev pub ghosts-finish : goal.ghosts-finish
ghosts-finish g a = record { added = a.entry }
