use Rattle.bench_files.proofs.numbers.sum_of_numbers.Given as goal

abbrev pub ghosts-sum_of : goal.ghosts-sum_of
ghosts-sum_of a = record { name = a.blank.name; parts = a.blank.parts }
