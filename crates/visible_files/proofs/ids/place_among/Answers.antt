use Rattle.std.proofs.Common.{nat_lt, rules}
use Rattle.std.proofs.lemmas.List.Sorted.{IsPartitionPoint-from_clause}
use Rattle.visible_files.specs.declared.ids.GroupId.{GroupId}
use Rattle.visible_files.specs.Ids.{place}
use Rattle.visible_files.proofs.Orders.{rises-partitioned, bound_from_point}
use Rattle.visible_files.proofs.ids.place_among.Goals as goal

pub returns : goal.returns
returns c =
    let ids = c.args.ids.now in
    let k = place c.args.id in
    bound_from_point place k ids _ c.partition_point.ensures.bound
    (IsPartitionPoint-from_clause (λ (x : GroupId). nat_lt (place x) k) ids _ c.partition_point.ensures.partitioned (rises-partitioned place k 0 ids c.requires) (λ a r f' h. search rules))
