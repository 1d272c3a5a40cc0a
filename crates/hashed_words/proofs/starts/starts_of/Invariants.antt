use Rattle.std.proofs.Common.{◌-◌}
use Rattle.word_file.specs.Paired.{key_count}
use Rattle.hashed_words.proofs.Begins.{IsBegun}
use Rattle.hashed_words.proofs.starts.starts_of.Given as goal

abbrev pub invariant-loop-next : goal.invariant-loop-next
invariant-loop-next l = IsBegun l.words.words l.starts.items l.next l.place

abbrev pub decreases-loop-next : goal.decreases-loop-next
decreases-loop-next l = key_count l.words.words - l.place
