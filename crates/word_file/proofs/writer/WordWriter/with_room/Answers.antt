use Rattle.std.proofs.Common.{ap}
use Rattle.word_file.specs.Reading.{tagged}
use Rattle.word_file.proofs.Growth.{none_in, begun_none}
use Rattle.word_file.proofs.writer.WordWriter.with_room.Goals as goal

pub invariant_of-result : goal.invariant_of-result
invariant_of-result c = begun_none c.args.tag c.in_ok-bytes.bytes.items c.in_ok-bytes.ensures.fits c.in_ok-bytes.ensures.header

pub returns : goal.returns
returns c = ap (tagged c.args.tag) (none_in c.args.tag c.in_ok-bytes.bytes.items c.in_ok-bytes.ensures.header)
