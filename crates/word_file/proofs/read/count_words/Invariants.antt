use Rattle.std.proofs.Common.{length, ◌-◌}
use Rattle.word_file.proofs.Walks.{IsWalked}
use Rattle.word_file.proofs.read.count_words.Given as goal

abbrev pub invariant-loop-at : goal.invariant-loop-at
invariant-loop-at l = IsWalked l.bytes l.at l.found

abbrev pub decreases-loop-at : goal.decreases-loop-at
decreases-loop-at l = length l.bytes - l.at
