use Rattle.std.proofs.Common.{◌≡◌, ◌++◌, map, take}
use Rattle.merge_ranges.specs.Name.{spelled}
use Rattle.group_files.specs.NewFiles.{all_of, file_of_kind, new_names}
use Rattle.group_files.proofs.kinds.add_kinds.Given as goal

abbrev pub invariant-loop-at : goal.invariant-loop-at
invariant-loop-at l =
    l.names ≡ l.fn.names ++ map spelled (new_names (all_of (file_of_kind l.group) (take l.at l.kinds)))
