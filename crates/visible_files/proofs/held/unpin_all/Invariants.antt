use Rattle.std.proofs.Common.{drop}
use Rattle.visible_files.specs.Held.{Unpins}
use Rattle.visible_files.proofs.held.unpin_all.Given as goal

abbrev pub invariant-loop-id : goal.invariant-loop-id
invariant-loop-id l = Unpins l.initial.held l.held l.ids (drop l.id-index l.ids)
