use Rattle.std.proofs.Common.{sym, ◌∙◌}
use Rattle.window_pages.proofs.KeyWalks.{start-pair}
use Rattle.window_pages.proofs.lists.is_start.Goals as goal

pub returns : goal.returns
returns c = λ low.
    let ts = c.args.ef.now.lists in
    let place = c.requires.0 in
    let p = c.requires.1 in
    start-pair ts c.args.first.now c.args.at place c.pair_at-numbers.result.0.now c.pair_at-numbers.result.1 c.words-held.ensures.lists.ascend p
    (c.pair_at-numbers.ensures place p) (sym c.is_below.ensures ∙ low)
