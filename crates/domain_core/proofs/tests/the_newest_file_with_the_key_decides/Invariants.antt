use Rattle.domain_core.proofs.tests.the_newest_file_with_the_key_decides.Given as goal

abbrev pub ghosts-newest : goal.ghosts-newest
ghosts-newest g a = record { name = a.blank.name; parts = a.blank.parts }
