use Rattle.std.proofs.Common.{◌-◌, ◌+◌, ◌*◌, ◌≤◌}
use Rattle.word_file.specs.Paired.{key_count}
use Rattle.word_file.proofs.Ascents.{IsAscending}
use Rattle.word_file.proofs.paired.keys_ascend.Given as goal

abbrev pub invariant-loop-last : goal.invariant-loop-last
invariant-loop-last g l = record { ascending : IsAscending l.words.words l.last l.place; within : l.place ≤ key_count l.words.words; few : l.steps ≤ l.initial.steps + 2 * l.place }

abbrev pub decreases-loop-last : goal.decreases-loop-last
decreases-loop-last g l = key_count l.words.words - l.place
