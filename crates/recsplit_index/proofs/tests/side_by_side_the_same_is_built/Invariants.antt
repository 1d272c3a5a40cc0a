use Rattle.recsplit_index.proofs.tests.side_by_side_the_same_is_built.Given as goal

abbrev pub ghosts-keys_differ : goal.ghosts-keys_differ
ghosts-keys_differ g a = record { name = a.blank.name; parts = a.blank.parts }
