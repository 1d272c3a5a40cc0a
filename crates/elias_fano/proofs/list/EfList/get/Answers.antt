use Rattle.std.proofs.Common.{◌<◌, length, ◌∙◌, sym, arith}
use Rattle.elias_fano.proofs.Places.{length-items_of, get_or-items_of}
use Rattle.elias_fano.proofs.list.EfList.get.Goals as goal

pub one_of-one-requires-clause-within : goal.one_of-one-requires-clause-within
one_of-one-requires-clause-within c = let asked : c.args.i < length c.args.self.now = c.requires in omega (arith, rw (← c.self.view_is) at asked, length-items_of c.self.inside.parts, c.self.invariant.0.listed.sound.ones)

pub item-requires-clause-within : goal.item-requires-clause-within
item-requires-clause-within c = let asked : c.args.i < length c.args.self.now = c.requires in omega (arith, rw (← c.self.view_is) at asked, length-items_of c.self.inside.parts)

pub returns : goal.returns
returns c =
    let asked : c.args.i < length c.args.self.now = c.requires in
    let within : c.args.i < c.self.inside.parts.count = omega (arith, rw (← c.self.view_is) at asked, length-items_of c.self.inside.parts) in
    rw (← c.self.view_is) (c.item.ensures ∙ sym (get_or-items_of c.self.inside.parts c.args.i within))
