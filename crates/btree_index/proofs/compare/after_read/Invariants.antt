use Rattle.file_numbers.specs.Lists.{number_bytes}
use Rattle.word_file.specs.Agreement.{GoesOn}
use Rattle.btree_index.proofs.Comparisons.{first_entries}
use Rattle.btree_index.proofs.compare.after_read.Given as goal

abbrev pub invariant-loop-k : goal.invariant-loop-k
invariant-loop-k l = GoesOn l.bytes (number_bytes (first_entries l.words.words l.j l.k)) l.at l.end
