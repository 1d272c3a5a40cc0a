use Rattle.std.proofs.Common.{◌≡◌, length}
use Rattle.std.specs.Option.{option_copied}
use Rattle.merge_files.specs.Walks.{IsKnown, IsLeastOf}
use Rattle.merge_files.proofs.least.choose.Given as goal

abbrev pub invariant-loop-i : goal.invariant-loop-i
invariant-loop-i l = record {
  known : IsKnown l.kind (option_copied l.word);
  least : IsLeastOf l.kind (option_copied l.word) l.turn l.marks l.inputs l.i;
}
