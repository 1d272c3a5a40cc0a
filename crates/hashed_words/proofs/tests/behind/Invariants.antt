use Rattle.hashed_words.proofs.tests.behind.Given as goal

abbrev pub ghosts-keys_differ : goal.ghosts-keys_differ
ghosts-keys_differ a = record { name = a.blank.name; parts = a.blank.parts }
