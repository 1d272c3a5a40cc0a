use Rattle.std.proofs.Common.{◌≡◌, length}
use Rattle.merge_files.proofs.walk.places_for.Given as goal

abbrev pub invariant-loop-passed : goal.invariant-loop-passed
invariant-loop-passed l = length l.places.items ≡ l._passed
