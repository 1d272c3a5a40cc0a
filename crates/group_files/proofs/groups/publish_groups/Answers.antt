use Rattle.std.proofs.Common.{map}
use Rattle.std.specs.Arc.{arc_value}
use Rattle.group_files.specs.NewFiles.{files_of_groups}
use Rattle.group_files.proofs.PublishedLaws.{published_ok, published_err}
use Rattle.group_files.proofs.groups.publish_groups.Goals as goal

pub returns-clause-ok : goal.returns-clause-ok
returns-clause-ok g c =
    published_ok (files_of_groups (map (λ g. arc_value g) c.args.groups.now)) (g.D.Disk.files c.args.disk.now) (g.D.Disk.files c.publish_all.new.disk) c.publish_all.result c.publish_all.ensures.ok

pub returns-clause-err : goal.returns-clause-err
returns-clause-err g c =
    published_err (files_of_groups (map (λ g. arc_value g) c.args.groups.now)) (g.D.Disk.files c.args.disk.now) (g.D.Disk.files c.publish_all.new.disk) c.publish_all.result c.publish_all.ensures.left
