use Rattle.std.proofs.Common.{◌≡◌, take}
use Rattle.merge_files.specs.MergedLists.{all_numbers}
use Rattle.merge_files.specs.Shown.{shown}
use Rattle.merge_files.proofs.numbers.numbers_of.Given as goal

abbrev pub invariant-loop-i : goal.invariant-loop-i
invariant-loop-i l = l.items ≡ all_numbers (take l.i (shown l.item).words)
