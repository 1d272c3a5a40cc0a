use Rattle.std.proofs.Common.{◌≡◌}
use Rattle.recsplit_index.specs.Keys.{first_by_key}
use Rattle.recsplit_index.proofs.keys.by_key.Given as goal

abbrev pub invariant-loop-offset : goal.invariant-loop-offset
invariant-loop-offset g l = l.tree.entries ≡ first_by_key l.words.words l.offset-index
