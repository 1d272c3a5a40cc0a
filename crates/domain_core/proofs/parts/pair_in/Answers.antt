use Rattle.std.proofs.Common.{arith}
use Rattle.domain_core.proofs.Held.{held_count, held_place, held_pair}
use Rattle.domain_core.proofs.parts.pair_in.Goals as goal

pub offset_of-requires : goal.offset_of-requires
offset_of-requires g c =
    let count = held_count c.args.words.now c.args.index.now c.requires.held in omega (arith, c.requires.within)

pub read_pair-requires : goal.read_pair-requires
read_pair-requires g c = (
  c.args.place,
  held_place c.args.words.now c.args.index.now c.requires.held c.args.place c.offset_of.result c.requires.within c.offset_of.ensures,
)

pub returns-clause-pair : goal.returns-clause-pair
returns-clause-pair g c =
    let there = held_place c.args.words.now c.args.index.now c.requires.held c.args.place c.offset_of.result c.requires.within c.offset_of.ensures in
    held_pair c.args.words.now.words c.requires.held.words c.args.place c.read_pair.result.0.now c.read_pair.result.1.now c.requires.within (c.read_pair.ensures.key c.args.place there) (c.read_pair.ensures.value c.args.place there)
