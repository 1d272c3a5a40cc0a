use Rattle.std.proofs.Common.{◌≡◌, ◌≤◌, ◌++◌, length, take, map, reverse}
use Rattle.std.specs.Arc.{arc_value}
use Rattle.window_reads.specs.Folds.{numbers_in_groups}
use Rattle.window_reads.proofs.numbers.files_down.Given as goal

abbrev pub invariant-loop-left : goal.invariant-loop-left
invariant-loop-left l = record {
  within : l.left ≤ length l.files;
  short : length l.out ≤ l.room;
  same : take l.room (l.out ++ reverse (numbers_in_groups l.entity l.key l.numbers.from l.numbers.to (map (λ g. arc_value g) (take l.left l.files))))
      ≡ take l.room (l.fn.out ++ reverse (numbers_in_groups l.entity l.key l.numbers.from l.numbers.to (map (λ g. arc_value g) l.files)));
}

abbrev pub decreases-loop-left : goal.decreases-loop-left
decreases-loop-left l = l.left
