use Rattle.std.proofs.Common.{◌≡◌, ◌++◌, ◌==◌, take, length}
use Rattle.std.specs.List.{filter}
use Rattle.recsplit_index.specs.Nodes.{offsets_of, place_under}
use Rattle.recsplit_index.proofs.nodes.put_place.Given as goal

abbrev pub invariant-loop-key : goal.invariant-loop-key
invariant-loop-key l = l.offsets.items ≡ l.initial.offsets.items ++ offsets_of (filter (λ key. place_under l.depth l.seed (length l.keys) key == l.place) (take l.key-index l.keys))
