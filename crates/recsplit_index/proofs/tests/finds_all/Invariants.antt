use Rattle.recsplit_index.proofs.tests.finds_all.Given as goal

abbrev pub ghosts-keys_differ : goal.ghosts-keys_differ
ghosts-keys_differ g a = record { name = a.blank.name; parts = a.blank.parts }

abbrev pub ghosts-finds_each : goal.ghosts-finds_each
ghosts-finds_each g a = record { name = a.blank.name; parts = a.blank.parts }
