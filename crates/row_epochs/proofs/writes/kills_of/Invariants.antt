use Rattle.std.proofs.Common.{◌≡◌, map, take}
use Rattle.agg_outside.specs.declared.rows.RowId.{RowId}
use Rattle.agg_outside.specs.declared.rows.RowWrite.TheVariants.{Kill}
use Rattle.row_epochs.proofs.writes.kills_of.Given as goal

abbrev pub invariant-loop-id : goal.invariant-loop-id
invariant-loop-id l = l.writes.items ≡ map (λ (id : RowId). Kill id l.epoch) (take l.id-index l.ids)
