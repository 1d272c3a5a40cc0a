use Rattle.std.proofs.Common.{◌-◌}
use Rattle.word_file.specs.Paired.{key_count}
use Rattle.recsplit_index.proofs.KeyLists.{IsGrouped}
use Rattle.recsplit_index.proofs.keys.groups_of.Given as goal

abbrev pub invariant-loop-next : goal.invariant-loop-next
invariant-loop-next g l = IsGrouped l.salt l.words.words l.buckets l.groups.items l.next l.place

abbrev pub decreases-loop-next : goal.decreases-loop-next
decreases-loop-next g l = key_count l.words.words - l.place
