use Rattle.group_files.proofs.RenameLaws.{there, moved_ok, moved_left, begun}
use Rattle.group_files.proofs.publishing.write_and_rename.Goals as goal

pub rename-requires : goal.rename-requires
rename-requires g c =
    there c.args.temporary.now c.args.bytes.now (g.D.Disk.files c.args.disk.now) (g.D.Disk.files c.write_new.new.self) c.in_ok-write_new.ensures.ok c.in_ok-write_new.ensures.silent

pub returns-clause-ok : goal.returns-clause-ok
returns-clause-ok g c =
    moved_ok c.args.temporary.now c.args.name.now c.args.bytes.now (g.D.Disk.files c.args.disk.now) (g.D.Disk.files c.write_new.new.self) (g.D.Disk.files c.rename.new.self) c.rename.result c.in_ok-write_new.ensures.ok c.rename.ensures.ok

pub returns-in_err-write_new-clause-left : goal.returns-in_err-write_new-clause-left
returns-in_err-write_new-clause-left g c =
    begun c.args.temporary.now c.args.name.now c.args.bytes.now (g.D.Disk.files c.args.disk.now) (g.D.Disk.files c.write_new.new.self) c.in_err-write_new.ensures.others

pub returns-clause-left : goal.returns-clause-left
returns-clause-left g c =
    moved_left c.args.temporary.now c.args.name.now c.args.bytes.now (g.D.Disk.files c.args.disk.now) (g.D.Disk.files c.write_new.new.self) (g.D.Disk.files c.rename.new.self) c.rename.result c.in_ok-write_new.ensures.ok c.rename.ensures.ok c.rename.ensures.err
