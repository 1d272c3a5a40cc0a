use Rattle.std.proofs.Common.{◌≡◌, ◌-◌}
use Rattle.recsplit_index.specs.Index.{index_from}
use Rattle.recsplit_index.proofs.compare.compare.Given as goal

abbrev pub invariant-loop-salt : goal.invariant-loop-salt
invariant-loop-salt g l = index_from l.tries l.words.words (8 - l.salt) l.salt ≡ index_from l.tries l.words.words 8 0
