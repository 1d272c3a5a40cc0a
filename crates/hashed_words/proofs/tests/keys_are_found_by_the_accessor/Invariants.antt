use Rattle.hashed_words.proofs.tests.keys_are_found_by_the_accessor.Given as goal

abbrev pub ghosts-looks : goal.ghosts-looks
ghosts-looks g a = record { name = a.blank.name; parts = a.blank.parts }
