use Rattle.memory_side.proofs.TestFiles.{written_there}
use Rattle.memory_side.proofs.tests.moves.Goals as goal

pub rename-requires : goal.rename-requires
rename-requires g c =
    written_there (g.D.Disk.files c.args.disk.now) (g.D.Disk.files c.write_new.new.self) c.args.from.now c.args.bytes.now
    c.in_ok-write_new.ensures.ok c.in_ok-write_new.ensures.silent
