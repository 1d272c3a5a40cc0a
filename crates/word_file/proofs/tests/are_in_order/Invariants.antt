use Rattle.word_file.proofs.tests.are_in_order.Given as goal

abbrev pub ghosts-ascend : goal.ghosts-ascend
ghosts-ascend a = record { name = a.blank.name; parts = a.blank.parts }
