use Rattle.std.proofs.Common.{◌≡◌, ◌++◌, map}
use Rattle.std.specs.BTreeSet.{keys_between}
use Rattle.std.specs.declared.ops.Bound.TheVariants.{Included, Excluded}
use Rattle.hot_keeper.specs.declared.notes.Note.{Note}
use Rattle.hot_keeper.specs.Notes.{note_cmp}
use Rattle.hot_keeper.proofs.notes.noted_within.Given as goal

-- the ids so far and those of the notes that are left are all
abbrev pub invariant-loop-note : goal.invariant-loop-note
invariant-loop-note l =
    (goal.iterator-loop-note).can_next l.note-iterator
    × (goal.iterator-loop-note).is_finite l.note-iterator
    × (l.ids.items ++ map (λ (n : Note). n.id) l.note-iterator ≡ map (λ (n : Note). n.id) (keys_between note_cmp (Included l.first) (Excluded l.end) l.notes))
