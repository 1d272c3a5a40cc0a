use Rattle.history_core.proofs.tests.a_key_is_found_at_its_numbers_alone.Given as goal

abbrev pub ghosts-length_before : goal.ghosts-length_before
ghosts-length_before g a = record { name = a.blank.name; parts = a.blank.parts }
