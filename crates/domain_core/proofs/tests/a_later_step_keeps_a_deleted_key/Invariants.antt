use Rattle.domain_core.proofs.tests.a_later_step_keeps_a_deleted_key.Given as goal

abbrev pub ghosts-looks : goal.ghosts-looks
ghosts-looks g a = record { name = a.blank.name; parts = a.blank.parts }
