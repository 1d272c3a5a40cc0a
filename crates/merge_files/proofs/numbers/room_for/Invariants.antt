use Rattle.std.proofs.Common.{take, map}
use Rattle.std.specs.Prelude.{All}
use Rattle.std.specs.Arc.{arc_value}
use Rattle.merge_files.specs.MergedLists.{HasLists}
use Rattle.merge_files.proofs.numbers.room_for.Given as goal

abbrev pub invariant-loop-i : goal.invariant-loop-i
invariant-loop-i l = All HasLists (map (λ g. arc_value g) (take l.i l.groups))
