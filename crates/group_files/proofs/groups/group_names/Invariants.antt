use Rattle.std.proofs.Common.{◌≡◌, map, take}
use Rattle.std.specs.Arc.{arc_value}
use Rattle.merge_ranges.specs.Name.{spelled}
use Rattle.group_files.specs.NewFiles.{all_of, files_of, new_names}
use Rattle.group_files.proofs.groups.group_names.Given as goal

abbrev pub invariant-loop-at : goal.invariant-loop-at
invariant-loop-at l = l.names ≡ map spelled (new_names (all_of (λ z. files_of (arc_value z)) (take l.at l.groups)))
