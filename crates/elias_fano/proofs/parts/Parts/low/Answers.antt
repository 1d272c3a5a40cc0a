use Rattle.std.proofs.Common.{arith}
use Rattle.elias_fano.proofs.Places.{field-lt, field-within}
use Rattle.elias_fano.proofs.parts.Parts.low.Goals as goal

pub returns-clause-small : goal.returns-clause-small
returns-clause-small c =
    let p = c.args.self.now in
    rw (c.field.ensures, c.from.ensures) (field-lt p.width c.args.i p.lower (omega (arith, field-within p.width c.args.i p.count c.requires.within, c.requires.lower)))
