use Rattle.std.proofs.Common.{◌≡◌, ◌++◌}
use Rattle.merge_files.proofs.numbers.add_list.Given as goal

abbrev pub invariant-loop-number : goal.invariant-loop-number
invariant-loop-number l = l.items ≡ l.fn.items ++ l.yielded
