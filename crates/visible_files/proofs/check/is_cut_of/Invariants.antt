use Rattle.std.proofs.Common.{◌≡◌, drop}
use Rattle.visible_files.specs.Ids.{ranges_of, is_cut_to}
use Rattle.visible_files.proofs.check.is_cut_of.Given as goal

abbrev pub invariant-loop-id : goal.invariant-loop-id
invariant-loop-id l = is_cut_to l.at (ranges_of l.entity (drop l.id-index l.ids)) l.end ≡ is_cut_to 0 (ranges_of l.entity l.ids) l.end
