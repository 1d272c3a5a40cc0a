use Rattle.std.proofs.Common.{◌-◌}
use Rattle.btree_index.proofs.Searches.{IsSearching}
use Rattle.btree_index.proofs.search.search.Given as goal

abbrev pub invariant-loop-low : goal.invariant-loop-low
invariant-loop-low g l = IsSearching l.words.words l.key l.level l.low l.high l.initial.steps l.steps

abbrev pub decreases-loop-low : goal.decreases-loop-low
decreases-loop-low g l = l.high - l.low
