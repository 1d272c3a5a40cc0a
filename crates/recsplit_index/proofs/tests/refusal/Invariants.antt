use Rattle.recsplit_index.proofs.tests.refusal.Given as goal

abbrev pub ghosts-keys_differ : goal.ghosts-keys_differ
ghosts-keys_differ a = record { name = a.blank.name; parts = a.blank.parts }
