use Rattle.merge_files.proofs.cursor.pair_at.Given as goal

abbrev pub ghosts-pair_in : goal.ghosts-pair_in
ghosts-pair_in a = record { name = a.blank.name; parts = a.blank.parts }
