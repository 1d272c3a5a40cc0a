use Rattle.memory_side.proofs.TestFiles.{written_there}
use Rattle.memory_side.proofs.tests.reads_back.Goals as goal

pub read-requires : goal.read-requires
read-requires g c =
    written_there (g.D.Disk.files c.args.disk.now) (g.D.Disk.files c.write_new.new.self) c.args.name.now c.args.bytes.now
    c.in_ok-write_new.ensures.ok c.in_ok-write_new.ensures.silent
