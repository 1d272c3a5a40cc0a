use Rattle.std.proofs.Common.{arith}
use Rattle.elias_fano.proofs.Places.{place-room}
use Rattle.elias_fano.proofs.parts.Parts.item.Goals as goal

pub overflow_sub-result : goal.overflow_sub-result
overflow_sub-result c = omega (arith, place-room c.args.self.now.upper c.args.i (omega (arith, c.requires.sound.ones, c.requires.within)), c.requires.place)
