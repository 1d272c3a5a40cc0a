use Rattle.std.proofs.Common.{◌≡◌, ◌+◌, drop}
use Rattle.visible_files.specs.Held.{free_place}
use Rattle.visible_files.proofs.held.place_of_free.Given as goal

abbrev pub invariant-loop-group : goal.invariant-loop-group
invariant-loop-group l = (l.at ≡ l.group-index) × (l.at + free_place (drop l.group-index l.held) ≡ free_place l.held)
