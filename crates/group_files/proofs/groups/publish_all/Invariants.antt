use Rattle.std.proofs.Common.{◌≡◌, ◌≤◌, take, Some, None, IfSome, IfNone}
use Rattle.std.specs.Arc.{arc_value}
use Rattle.group_files.specs.NewFiles.{all_of, files_of, with_files}
use Rattle.group_files.proofs.groups.publish_all.Given as goal

abbrev pub invariant-loop-at : goal.invariant-loop-at
invariant-loop-at g l = record {
  done : IfSome (g.D.Disk.files l.fn.disk) (λ f. g.D.Disk.files l.disk ≡ Some (with_files (all_of (λ z. files_of (arc_value z)) (take l.at l.groups)) f));
  silent : IfNone (g.D.Disk.files l.fn.disk) (g.D.Disk.files l.disk ≡ None);
  faults : g.D.Disk.faults l.fn.disk ≤ g.D.Disk.faults l.disk;
}
