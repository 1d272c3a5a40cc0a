use Rattle.std.proofs.Common.{length, ◌-◌}
use Rattle.btree_index.proofs.Comparisons.{IsFollowed}
use Rattle.btree_index.proofs.compare.after_walked.Given as goal

abbrev pub invariant-loop-next : goal.invariant-loop-next
invariant-loop-next l = IsFollowed l.words.words l.bytes l.j l.at l.next l.end

abbrev pub decreases-loop-next : goal.decreases-loop-next
decreases-loop-next l = length l.bytes - l.end
