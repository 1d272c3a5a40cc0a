use Rattle.std.proofs.Common.{◌≡◌, drop}
use Rattle.agg_model.specs.declared.entity.Entity.TheVariants.{Accounts}
use Rattle.merge_ranges.specs.Cut.{end_from, end_of}
use Rattle.visible_files.specs.Ids.{ranges_of}
use Rattle.visible_files.proofs.ids.end_of_ids.Given as goal

abbrev pub invariant-loop-id : goal.invariant-loop-id
invariant-loop-id l = end_from l.end (ranges_of Accounts (drop l.id-index l.ids)) ≡ end_of (ranges_of Accounts l.ids)
