use Rattle.std.proofs.Common.{◌≡◌, ◌-◌}
use Rattle.btree_index.specs.Levels.{top_from}
use Rattle.btree_index.proofs.levels.top_of.Given as goal

abbrev pub invariant-loop-level : goal.invariant-loop-level
invariant-loop-level l = top_from 15 0 l.count ≡ top_from (15 - l.level) l.level l.count
