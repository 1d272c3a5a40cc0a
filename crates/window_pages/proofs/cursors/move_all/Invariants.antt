use Rattle.std.proofs.Common.{◌≡◌, ◌++◌, map, take, drop}
use Rattle.window_pages.specs.Places.{moved}
use Rattle.window_pages.proofs.cursors.move_all.Given as goal

abbrev pub invariant-loop-cursor : goal.invariant-loop-cursor
invariant-loop-cursor l = l.cursors ≡ map (moved l.first) (take l.cursor-index l.initial.cursors) ++ drop l.cursor-index l.initial.cursors
