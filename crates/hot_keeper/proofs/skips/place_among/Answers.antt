use Rattle.std.proofs.Common.{rules}
use Rattle.std.proofs.lemmas.List.Sorted.{IsPartitionPoint-from_clause}
use Rattle.agg_outside.specs.declared.rows.RowId.{RowId}
use Rattle.agg_outside.specs.Rows.{is_before}
use Rattle.hot_keeper.proofs.SkipLaws.{ids_partitioned, point_before, point_rest}
use Rattle.hot_keeper.proofs.skips.place_among.Goals as goal

pub returns-clause-before : goal.returns-clause-before
returns-clause-before c =
    let ids = c.args.ids.now in
    let place = c.args.place.now in
    point_before ids place _ c.partition_point.ensures.bound
    (IsPartitionPoint-from_clause (λ (x : RowId). is_before x place) ids _ c.partition_point.ensures.partitioned (ids_partitioned ids place c.requires) (λ a r f' h. search rules))

pub returns-clause-rest : goal.returns-clause-rest
returns-clause-rest c =
    let ids = c.args.ids.now in
    let place = c.args.place.now in
    point_rest ids place _
    (IsPartitionPoint-from_clause (λ (x : RowId). is_before x place) ids _ c.partition_point.ensures.partitioned (ids_partitioned ids place c.requires) (λ a r f' h. search rules))
