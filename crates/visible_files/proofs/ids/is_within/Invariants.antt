use Rattle.std.proofs.Common.{◌≡◌, drop}
use Rattle.visible_files.specs.Ids.{is_covered}
use Rattle.visible_files.proofs.ids.is_within.Given as goal

abbrev pub invariant-loop-other : goal.invariant-loop-other
invariant-loop-other l = is_covered (drop l.other-index l.ids) l.id ≡ is_covered l.ids l.id
