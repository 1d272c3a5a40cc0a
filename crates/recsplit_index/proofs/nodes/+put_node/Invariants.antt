use Rattle.std.proofs.Common.{length}
use Rattle.recsplit_index.proofs.nodes.+put_node.Given as goal

abbrev pub decreases-put_node : goal.decreases-put_node
decreases-put_node l = length l.keys.now
