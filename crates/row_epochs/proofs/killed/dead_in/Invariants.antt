use Rattle.std.proofs.Common.{◌≡◌, ◌++◌}
use Rattle.row_epochs.specs.Kills.{dead_kills}
use Rattle.row_epochs.proofs.killed.dead_in.Given as goal

-- the ids so far and those of the notes that are left are all
abbrev pub invariant-loop-id : goal.invariant-loop-id
invariant-loop-id l =
    (goal.iterator-loop-id).can_next l.id-iterator
    × (goal.iterator-loop-id).is_finite l.id-iterator
    × (l.ids.items ++ dead_kills l.oldest l.id-iterator ≡ dead_kills l.oldest l.kills.entries)
