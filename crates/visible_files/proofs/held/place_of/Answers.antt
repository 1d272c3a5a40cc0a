use Rattle.std.proofs.Common.{nat_lt, rules}
use Rattle.std.proofs.lemmas.List.Sorted.{IsPartitionPoint-from_clause}
use Rattle.visible_files.specs.declared.held.HeldGroup.{HeldGroup}
use Rattle.visible_files.specs.Ids.{place}
use Rattle.visible_files.specs.Held.{held_places}
use Rattle.visible_files.proofs.Orders.{rises-partitioned, bound_from_point, rises_from_ascends}
use Rattle.visible_files.proofs.held.place_of.Goals as goal

pub returns : goal.returns
returns c =
    let held = c.args.held.now in
    let k = place c.args.id in
    bound_from_point (λ (h : HeldGroup). place h.id) k held _ c.partition_point.ensures.bound
    (IsPartitionPoint-from_clause (λ (h : HeldGroup). nat_lt (place h.id) k) held _ c.partition_point.ensures.partitioned (rises-partitioned (λ (h : HeldGroup). place h.id) k 0 held (rises_from_ascends 0 (held_places held) c.requires)) (λ a r f' h. search rules))
