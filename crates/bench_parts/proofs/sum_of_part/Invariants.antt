use Rattle.bench_parts.proofs.sum_of_part.Given as goal

abbrev pub ghosts-sum_of_words : goal.ghosts-sum_of_words
ghosts-sum_of_words g a = record { name = a.blank.name; parts = a.blank.parts }

abbrev pub ghosts-sum_of_ordered : goal.ghosts-sum_of_ordered
ghosts-sum_of_ordered g a = record { name = a.blank.name; parts = a.blank.parts }
