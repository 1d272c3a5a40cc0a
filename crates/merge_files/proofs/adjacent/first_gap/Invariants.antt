use Rattle.std.proofs.Common.{◌≡◌, drop, map}
use Rattle.std.specs.Arc.{arc_value}
use Rattle.merge_files.specs.Adjacent.{gap_from, first_gap}
use Rattle.merge_files.proofs.adjacent.first_gap.Given as goal

abbrev pub invariant-loop-i : goal.invariant-loop-i
invariant-loop-i l = gap_from l.entity l.range.to l.from l.i (map (λ g. arc_value g) (drop l.i l.groups)) ≡ first_gap (map (λ g. arc_value g) l.groups) l.range
