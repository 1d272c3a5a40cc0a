use Rattle.std.proofs.Common.{◌-◌}
use Rattle.recsplit_index.proofs.Sortings.{IsHalving, IsCounted}
use Rattle.recsplit_index.proofs.find.find_sorted.Given as goal

abbrev pub invariant-loop-low : goal.invariant-loop-low
invariant-loop-low g l = record { halving : IsHalving l.words.words l.key l.low l.high l.initial.steps l.steps; counted : IsCounted l.words.words l.initial.steps l.steps }

abbrev pub decreases-loop-low : goal.decreases-loop-low
decreases-loop-low g l = l.high - l.low
