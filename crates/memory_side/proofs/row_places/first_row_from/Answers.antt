use Rattle.agg_outside.specs.RowOrder.{first_from-place}
use Rattle.memory_side.proofs.row_places.first_row_from.Goals as goal

pub returns : goal.returns
returns c = rw (first_from-place c.args.id.now c.args.rows.now c.place_of-place.result c.place_of-place.ensures) c.row_at.ensures
