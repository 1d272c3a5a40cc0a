use Rattle.std.proofs.Common.{◌≡◌, ◌++◌, drop}
use Rattle.visible_files.specs.Ids.{ranges_of}
use Rattle.visible_files.proofs.ids.cut_of.Given as goal

abbrev pub invariant-loop-id : goal.invariant-loop-id
invariant-loop-id l = l.cut ++ ranges_of l.entity (drop l.id-index l.ids) ≡ ranges_of l.entity l.ids
