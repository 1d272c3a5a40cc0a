use Rattle.recsplit_index.proofs.file.HashIndex.check.Given as goal

abbrev pub ghosts-compare : goal.ghosts-compare
ghosts-compare a = record { name = a.blank.name; parts = a.blank.parts }
