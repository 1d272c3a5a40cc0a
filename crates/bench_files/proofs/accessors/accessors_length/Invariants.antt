use Rattle.bench_files.proofs.accessors.accessors_length.Given as goal

abbrev pub ghosts-lengths : goal.ghosts-lengths
ghosts-lengths a = record { name = a.blank.name; parts = a.blank.parts }
