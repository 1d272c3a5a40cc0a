use Rattle.std.proofs.Common.{rules}
use Rattle.std.proofs.lemmas.List.Sorted.{IsPartitionPoint-from_clause}
use Rattle.agg_outside.specs.declared.rows.Row.{Row}
use Rattle.agg_outside.specs.Rows.{is_before}
use Rattle.memory_side.proofs.RowPlaces.{is_before-partitioned, place_from_point}
use Rattle.memory_side.proofs.row_places.place_of.Goals as goal

pub returns : goal.returns
returns c =
    let rows = c.args.rows.now in
    let id = c.args.id.now in
    place_from_point id rows _ c.partition_point.ensures.bound
    (IsPartitionPoint-from_clause (λ (row : Row). is_before row.id id) rows _ c.partition_point.ensures.partitioned (is_before-partitioned id rows c.requires) (λ a r f' k. search rules))
