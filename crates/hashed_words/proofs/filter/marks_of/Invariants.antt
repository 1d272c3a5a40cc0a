use Rattle.std.proofs.Common.{◌-◌}
use Rattle.word_file.specs.Paired.{key_count}
use Rattle.hashed_words.proofs.Filters.{IsFilled}
use Rattle.hashed_words.proofs.filter.marks_of.Given as goal

abbrev pub invariant-loop-next : goal.invariant-loop-next
invariant-loop-next g l = IsFilled l.words.words l.marks.items l.next l.place

abbrev pub decreases-loop-next : goal.decreases-loop-next
decreases-loop-next g l = key_count l.words.words - l.place
