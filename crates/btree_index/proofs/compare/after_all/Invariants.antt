use Rattle.std.proofs.Common.{◌≤◌}
use Rattle.word_file.specs.Paired.{key_offsets}
use Rattle.btree_index.specs.Levels.{levels_below, spelling}
use Rattle.btree_index.proofs.Comparisons.{IsLeft}
use Rattle.btree_index.proofs.compare.after_all.Given as goal

abbrev pub invariant-loop-level : goal.invariant-loop-level
invariant-loop-level l = record { few : l.level ≤ 16; left : IsLeft l.bytes (spelling (key_offsets l.words.words)) (levels_below (key_offsets l.words.words) l.level) l.end }

abbrev pub decreases-loop-level : goal.decreases-loop-level
decreases-loop-level l = l.level
