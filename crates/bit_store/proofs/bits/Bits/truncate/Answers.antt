use Rattle.std.proofs.Common.{arith, length, ◌≤◌}
use Rattle.std.proofs.lemmas.List.{length-take}
use Rattle.bit_store.specs.Bits.{bits_of}
use Rattle.bit_store.proofs.Writing.{cut_held}
use Rattle.bit_store.proofs.bits.Bits.truncate.Goals as goal

pub returns : goal.returns
returns c =
    let old = c.self.inside.bytes.items in
    let asked : c.args.len ≤ length c.args.self.now = c.requires in
    let le : c.args.len ≤ c.self.inside.len = omega (arith, length-take c.self.inside.len (bits_of old), rw (← c.self.view_is) at asked) in
    rw (← c.self.view_is) ((cut_held c.args.len c.self.inside.len old c.cut.new.bytes.items c.self.invariant le c.cut.ensures.value c.cut.ensures.count).0)
