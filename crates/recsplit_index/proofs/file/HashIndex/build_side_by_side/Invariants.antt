use Rattle.recsplit_index.proofs.file.HashIndex.build_side_by_side.Given as goal

abbrev pub ghosts-first_layout : goal.ghosts-first_layout
ghosts-first_layout g a = record { name = a.blank.name; parts = a.blank.parts }
