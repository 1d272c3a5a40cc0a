use Rattle.recsplit_index.proofs.Layings.{shape_held, shape_seen}
use Rattle.recsplit_index.proofs.file.hold.Goals as goal

pub invariant_of-result : goal.invariant_of-result
invariant_of-result c = shape_held c.args.shape c.requires.0 c.args.bytes c.requires.1 c.requires.2

pub returns : goal.returns
returns c = λ x is spelled. shape_seen c.args.shape x c.args.bytes is spelled
