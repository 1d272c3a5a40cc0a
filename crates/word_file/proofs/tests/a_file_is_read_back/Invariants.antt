use Rattle.word_file.proofs.tests.a_file_is_read_back.Given as goal

abbrev pub ghosts-has_pair : goal.ghosts-has_pair
ghosts-has_pair g a = record { name = a.blank.name; parts = a.blank.parts }
