use Rattle.hashed_words.proofs.open.open_words.Given as goal

abbrev pub ghosts-first_bad : goal.ghosts-first_bad
ghosts-first_bad g a = record { name = a.blank.name; parts = a.blank.parts }
