use Rattle.group_files.proofs.FileWalks.{left_kind}
use Rattle.collate_step.specs.Groups.{bytes_of}
use Rattle.group_files.proofs.kinds.publish_kind.Goals as goal

pub returns-clause-left : goal.returns-clause-left
returns-clause-left g c =
    left_kind c.args.group.now c.args.kind c.file_name-name.result c.in-Some.bytes.now (bytes_of c.args.group.now c.args.kind) (g.D.Disk.files c.args.disk.now) (g.D.Disk.files c.publish_file.new.disk) c.in-Some.ensures c.file_name-name.ensures c.publish_file.ensures.left
