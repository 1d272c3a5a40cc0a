use Rattle.std.proofs.Common.{ℕ, ◌+◌, ◌*◌}
use Rattle.word_file.specs.Spelling.{IsPlace}
use Rattle.btree_index.proofs.compare.key_on.Given as goal

abbrev pub invariant-loop-passed : goal.invariant-loop-passed
invariant-loop-passed l = (i : ℕ) → IsPlace l.words.words l.at i → IsPlace l.words.words l.next (i + 2 * l._passed)
