use Rattle.std.proofs.Common.{◌≡◌, ◌++◌, take}
use Rattle.recsplit_index.specs.Nodes.{offsets_of}
use Rattle.recsplit_index.proofs.nodes.put_all.Given as goal

abbrev pub invariant-loop-key : goal.invariant-loop-key
invariant-loop-key l = l.offsets.items ≡ l.initial.offsets.items ++ offsets_of (take l.key-index l.keys)
