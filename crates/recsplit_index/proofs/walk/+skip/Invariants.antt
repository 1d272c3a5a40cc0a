use Rattle.recsplit_index.proofs.walk.+skip.Given as goal

abbrev pub decreases-skip : goal.decreases-skip
decreases-skip l = l.size
