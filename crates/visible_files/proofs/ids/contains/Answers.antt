use Rattle.std.proofs.Common.{◌∙◌, sym}
use Rattle.visible_files.specs.Ids.{places}
use Rattle.visible_files.proofs.Orders.{rises_from_ascends}
use Rattle.visible_files.proofs.Lookups.{contains-at, contains-past}
use Rattle.visible_files.proofs.ids.contains.Goals as goal

pub place_among-at-requires : goal.place_among-at-requires
place_among-at-requires c = rises_from_ascends 0 (places c.args.ids.now) c.requires

pub returns-then-at-ids : goal.returns-then-at-ids
returns-then-at-ids c =
    c.is_same.ensures.same ∙ sym (contains-at 0 c.args.ids.now c.args.id c.place_among-at.result _ c.requires c.place_among-at.ensures c.if-at-ids.true)

pub returns-else-at-ids : goal.returns-else-at-ids
returns-else-at-ids c = sym (contains-past c.args.ids.now c.args.id c.place_among-at.result c.place_among-at.ensures c.if-at-ids.false)
