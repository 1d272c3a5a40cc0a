use Rattle.std.proofs.Common.{◌++◌, take}
use Rattle.std.specs.List.{filter}
use Rattle.window_laws.specs.Parts.{is_between}
use Rattle.window_reads.proofs.NumberWalks.{IsUp}
use Rattle.window_reads.proofs.lists.take_up.Given as goal

abbrev pub invariant-loop-number : goal.invariant-loop-number
invariant-loop-number l =
    (goal.iterator-loop-number).can_next l.number-iterator ×
    (goal.iterator-loop-number).is_finite l.number-iterator ×
    IsUp l.a l.b l.room (take l.room (l.fn.out ++ filter (is_between l.a l.b) l.fn.list)) l.out l.number-iterator
