use Rattle.std.proofs.Common.{◌∙◌, sym}
use Rattle.elias_fano.proofs.Places.{place-is}
use Rattle.elias_fano.proofs.Bounds.{near_one}
use Rattle.elias_fano.proofs.finding.one_from.Goals as goal

pub returns-in-Some : goal.returns-in-Some
returns-in-Some c =
    let bits = c.args.parts.now.upper in
    let found = rw c.front-near.ensures at c.in-Some.ensures.found in
    let one = near_one bits c.saturating_add.result c.args.from c.in-Some.one found.0 found.1 found.2 in
    sym (place-is bits c.args.i c.in-Some.one one.0 (one.1 ∙ c.requires.before))
