use Rattle.std.proofs.Common.{length, ◌-◌, ◌≤◌}
use Rattle.word_file.specs.Paired.{key_count}
use Rattle.word_file.proofs.Gathers.{IsGathered}
use Rattle.word_file.proofs.paired.key_offsets.Given as goal

abbrev pub invariant-loop-next : goal.invariant-loop-next
invariant-loop-next l = record { few : length l.out.items ≤ key_count l.words.words; gathered : IsGathered l.words.words l.next l.out.items }

abbrev pub decreases-loop-next : goal.decreases-loop-next
decreases-loop-next l = key_count l.words.words - length l.out.items
