use Rattle.std.proofs.Common.{◌-◌, length}
use Rattle.std.specs.Option.{option_copied}
use Rattle.hashed_words.proofs.Walks.{IsPassed}
use Rattle.hashed_words.proofs.rules.first_bad.Given as goal

abbrev pub invariant-loop-next : goal.invariant-loop-next
invariant-loop-next g l =
    IsPassed (g.R.WordRules.rules l.rules) l.words.words (option_copied l.last) l.counted l.place l.next

abbrev pub decreases-loop-next : goal.decreases-loop-next
decreases-loop-next g l = length l.words.words - l.place
