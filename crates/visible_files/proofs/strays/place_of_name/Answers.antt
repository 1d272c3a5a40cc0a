use Rattle.std.proofs.Common.{nat_lt, rules}
use Rattle.std.proofs.lemmas.List.Sorted.{IsPartitionPoint-from_clause}
use Rattle.merge_ranges.specs.declared.name.DiskName.{DiskName}
use Rattle.visible_files.specs.Strays.{disk_place, disk_places}
use Rattle.visible_files.proofs.Orders.{rises-partitioned, bound_from_point, rises_from_ascends}
use Rattle.visible_files.proofs.strays.place_of_name.Goals as goal

pub returns : goal.returns
returns c =
    let strays = c.args.strays.now in
    let k = disk_place c.args.name in
    bound_from_point disk_place k strays _ c.partition_point.ensures.bound
    (IsPartitionPoint-from_clause (λ (d : DiskName). nat_lt (disk_place d) k) strays _ c.partition_point.ensures.partitioned (rises-partitioned disk_place k 0 strays (rises_from_ascends 0 (disk_places strays) c.requires)) (λ a r f' h. search rules))
