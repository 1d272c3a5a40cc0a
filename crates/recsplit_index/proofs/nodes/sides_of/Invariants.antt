use Rattle.std.proofs.Common.{◌≡◌, take, length}
use Rattle.std.specs.List.{filter}
use Rattle.recsplit_index.specs.Nodes.{goes_left, goes_right}
use Rattle.recsplit_index.proofs.nodes.sides_of.Given as goal

abbrev pub invariant-loop-key : goal.invariant-loop-key
invariant-loop-key l = record {
  left : l.left.items ≡ filter (goes_left l.depth l.seed (length l.keys)) (take l.key-index l.keys);
  right : l.right.items ≡ filter (goes_right l.depth l.seed (length l.keys)) (take l.key-index l.keys);
}
