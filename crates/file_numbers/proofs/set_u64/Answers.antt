use Rattle.std.specs.Int.{w64, to_be_bytes}
use Rattle.file_numbers.proofs.Numbers.{over_at}
use Rattle.file_numbers.proofs.set_u64.Goals as goal

pub returns : goal.returns
returns c = over_at c.args.at c.args.bytes.now c.write_u64.new.buf (to_be_bytes w64 c.args.number) c.write_u64.ensures
