use Rattle.std.proofs.Common.{◌≡◌, ◌++◌, ◌==◌, length}
use Rattle.std.specs.List.{filter, flat_map, range_with_len}
use Rattle.recsplit_index.specs.Nodes.{offsets_of, place_under}
use Rattle.recsplit_index.proofs.nodes.put_by_position.Given as goal

abbrev pub invariant-loop-place : goal.invariant-loop-place
invariant-loop-place l = l.offsets.items ≡ l.initial.offsets.items ++ offsets_of (flat_map (λ p. filter (λ key. place_under l.depth l.seed (length l.keys) key == p) l.keys) (range_with_len 0 l.place))
