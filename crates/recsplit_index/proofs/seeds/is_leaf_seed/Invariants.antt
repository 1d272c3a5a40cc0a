use Rattle.std.proofs.Common.{map, drop, length}
use Rattle.recsplit_index.specs.Nodes.{place_under}
use Rattle.recsplit_index.proofs.Leaves.{AreMarked}
use Rattle.recsplit_index.proofs.seeds.is_leaf_seed.Given as goal

abbrev pub invariant-loop-key : goal.invariant-loop-key
invariant-loop-key l = AreMarked l.taken l.differ (map (place_under l.depth l.seed (length l.keys)) (drop l.key-index l.keys)) (map (place_under l.depth l.seed (length l.keys)) l.keys)
