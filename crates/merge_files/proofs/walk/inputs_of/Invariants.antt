use Rattle.std.proofs.Common.{◌≡◌, take, map}
use Rattle.std.specs.Prelude.{All}
use Rattle.std.specs.Arc.{arc_value}
use Rattle.merge_files.specs.Walks.{IsInput, file_pairs}
use Rattle.merge_files.proofs.walk.inputs_of.Given as goal

abbrev pub invariant-loop-i : goal.invariant-loop-i
invariant-loop-i l = record {
  pairs : l.inputs.items ≡ map (file_pairs l.kind) (map (λ g. arc_value g) (take l.i l.groups));
  inputs : All (IsInput l.kind) l.inputs.items;
}
