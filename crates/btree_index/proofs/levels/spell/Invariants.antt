use Rattle.std.proofs.Common.{◌≡◌, ◌≤◌, ◌++◌}
use Rattle.btree_index.specs.Levels.{levels_below, spelling}
use Rattle.btree_index.proofs.levels.spell.Given as goal

abbrev pub invariant-loop-level : goal.invariant-loop-level
invariant-loop-level l = record { few : l.level ≤ 16; spelled : l.out.items ++ levels_below l.offsets l.level ≡ spelling l.offsets }

abbrev pub decreases-loop-level : goal.decreases-loop-level
decreases-loop-level l = l.level
