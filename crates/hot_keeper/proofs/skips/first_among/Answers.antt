use Rattle.std.proofs.Common.{arith, ◌<◌, length, ◌∙◌}
use Rattle.hot_keeper.proofs.SkipLaws.{first_some}
use Rattle.hot_keeper.proofs.skips.first_among.Goals as goal

pub returns : goal.returns
returns c =
    let low : c.place_among-at.result < length c.args.ids.now = omega (arith, c.if-at-ids.false) in
    first_some c.args.ids.now c.args.place.now c.in_ok-next.next c.index-ids-at.result c.place_among-at.result c.requires low (c.in_ok-next.ensures ∙ c.index-ids-at.is) c.place_among-at.ensures.before c.place_among-at.ensures.rest
