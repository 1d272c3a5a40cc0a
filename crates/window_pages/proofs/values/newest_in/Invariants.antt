use Rattle.window_pages.proofs.values.newest_in.Given as goal

abbrev pub ghosts-newest_uncounted : goal.ghosts-newest_uncounted
ghosts-newest_uncounted a = record { name = a.blank.name; parts = a.blank.parts }
