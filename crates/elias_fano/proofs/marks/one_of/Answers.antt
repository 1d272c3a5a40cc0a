use Rattle.std.proofs.Common.{sym}
use Rattle.elias_fano.proofs.Places.{place-is}
use Rattle.elias_fano.proofs.marks.one_of.Goals as goal

pub returns-in-None : goal.returns-in-None
returns-in-None c =
    let found = rw c.unwrap.ensures at c.select_one.ensures.found in
    sym (place-is c.args.upper.now c.args.k c.unwrap.result found.0 found.1)
