use Rattle.btree_index.proofs.tests.finds_all.Given as goal

abbrev pub ghosts-finds_each : goal.ghosts-finds_each
ghosts-finds_each g a = record { name = a.blank.name; parts = a.blank.parts }
