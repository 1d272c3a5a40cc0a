use Rattle.window_pages.proofs.values.before_in.Given as goal

abbrev pub ghosts-before_uncounted : goal.ghosts-before_uncounted
ghosts-before_uncounted a = record { name = a.blank.name; parts = a.blank.parts }
