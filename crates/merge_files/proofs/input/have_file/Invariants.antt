use Rattle.std.proofs.Common.{take, map}
use Rattle.std.specs.Prelude.{All}
use Rattle.std.specs.Arc.{arc_value}
use Rattle.merge_files.specs.Walks.{HasFile}
use Rattle.merge_files.proofs.input.have_file.Given as goal

abbrev pub invariant-loop-i : goal.invariant-loop-i
invariant-loop-i l = All (HasFile l.kind) (map (λ g. arc_value g) (take l.i l.groups))
