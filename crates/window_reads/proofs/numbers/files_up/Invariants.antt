use Rattle.std.proofs.Common.{◌≡◌, ◌≤◌, ◌++◌, length, take, drop, map}
use Rattle.std.specs.Arc.{arc_value}
use Rattle.window_reads.specs.Folds.{numbers_in_groups}
use Rattle.window_reads.proofs.numbers.files_up.Given as goal

abbrev pub invariant-loop-i : goal.invariant-loop-i
invariant-loop-i l = record {
  ends : l.i-end ≡ length l.files;
  short : length l.out ≤ l.room;
  same : take l.room (l.out ++ numbers_in_groups l.entity l.key l.numbers.from l.numbers.to (map (λ g. arc_value g) (drop l.i l.files)))
      ≡ take l.room (numbers_in_groups l.entity l.key l.numbers.from l.numbers.to (map (λ g. arc_value g) l.files));
}
