use Rattle.window_reads.proofs.looks.newest_in_files.Given as goal

abbrev pub ghosts-newest_uncounted : goal.ghosts-newest_uncounted
ghosts-newest_uncounted a = record { name = a.blank.name; parts = a.blank.parts }
