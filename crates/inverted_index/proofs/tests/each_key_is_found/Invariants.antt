use Rattle.inverted_index.proofs.tests.each_key_is_found.Given as goal

abbrev pub ghosts-finds_each : goal.ghosts-finds_each
ghosts-finds_each g a = record { name = a.blank.name; parts = a.blank.parts }
