use Rattle.std.proofs.Common.{arith}
use Rattle.visible_files.proofs.Switches.{place-apart}
use Rattle.visible_files.proofs.held.place_for.Goals as goal

pub returns-clause-apart : goal.returns-clause-apart
returns-clause-apart c = λ d lt. place-apart c.args.held.now c.args.id c.place_of-at.result _ d c.requires.absent lt (c.place_of-at.ensures.rest c.place_of-at.result d (omega arith) lt) c.is_same-same.result c.is_same-same.ensures.same c.is_same-same.ensures.apart
