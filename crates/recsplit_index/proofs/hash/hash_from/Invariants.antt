use Rattle.std.proofs.Common.{length, drop, ◌-◌, ◌≡◌}
use Rattle.std.specs.Int.{div_ceil}
use Rattle.recsplit_index.specs.Hash.{hash_from}
use Rattle.recsplit_index.proofs.hash.hash_from.Given as goal

abbrev pub invariant-loop-at : goal.invariant-loop-at
invariant-loop-at l = hash_from (div_ceil (length l.key - l.at) 8) l.hash (drop l.at l.key) ≡ hash_from (div_ceil (length l.key) 8) l.start l.key

abbrev pub decreases-loop-at : goal.decreases-loop-at
decreases-loop-at l = length l.key - l.at
