use Rattle.std.proofs.Common.{◌≡◌, map, take}
use Rattle.std.specs.Arc.{arc_value}
use Rattle.collate_step.specs.Groups.{groups_for}
use Rattle.window_pages.specs.Places.{places_from}
use Rattle.window_pages.proofs.cursors.cursors_from.Given as goal

abbrev pub invariant-loop-group : goal.invariant-loop-group
invariant-loop-group l = l.cursors.items ≡ places_from l.first (groups_for l.entity (map (λ g. arc_value g) (take l.group-index l.files)))
