use Rattle.std.proofs.Common.{◌≡◌, true}
use Rattle.agg_outside.specs.FileList.{is_above_last}
use Rattle.agg_outside.proofs.FileOrder.{names_ascend-push}
use Rattle.agg_outside.proofs.file_map.FileMap.push.Goals as goal

pub invariant_of-self-2 : goal.invariant_of-self-2
invariant_of-self-2 c =
    let above : is_above_last c.args.entry.name c.self.inside.entries.items ≡ true = rw (← c.self.view_is) at c.requires in
    rw c.in_ok-push.ensures.items (names_ascend-push c.self.inside.entries.items c.args.entry c.self.invariant above)
