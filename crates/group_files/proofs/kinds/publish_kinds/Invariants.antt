use Rattle.std.proofs.Common.{◌≡◌, ◌≤◌, take, Some, None, IfSome, IfNone}
use Rattle.group_files.specs.NewFiles.{all_of, file_of_kind, with_files}
use Rattle.group_files.proofs.kinds.publish_kinds.Given as goal

abbrev pub invariant-loop-at : goal.invariant-loop-at
invariant-loop-at g l = record {
  done : IfSome (g.D.Disk.files l.fn.disk) (λ f. g.D.Disk.files l.disk ≡ Some (with_files (all_of (file_of_kind l.group) (take l.at l.kinds)) f));
  silent : IfNone (g.D.Disk.files l.fn.disk) (g.D.Disk.files l.disk ≡ None);
  faults : g.D.Disk.faults l.fn.disk ≤ g.D.Disk.faults l.disk;
}
