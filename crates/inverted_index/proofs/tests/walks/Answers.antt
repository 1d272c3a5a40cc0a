use Rattle.inverted_index.proofs.tests.walks.Goals as goal

pub pair_at-list-requires : goal.pair_at-list-requires
pair_at-list-requires g c =
    let at = c.in-Some.ensures.found in
    (at.place, record { within = at.within; offset = at.offset_is })
