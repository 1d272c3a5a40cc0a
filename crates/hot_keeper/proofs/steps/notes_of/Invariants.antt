use Rattle.std.proofs.Common.{◌≡◌, ◌≤◌, All, Some}
use Rattle.std.specs.BTreeSet.{BTreeSet}
use Rattle.agg_outside.specs.declared.rows.RowId.{RowId}
use Rattle.agg_outside.specs.Rows.{Held, rows_from}
use Rattle.row_epochs.specs.Seen.{seen}
use Rattle.row_epochs.specs.Places.{ids_of}
use Rattle.hot_keeper.specs.declared.notes.Note.{Note}
use Rattle.hot_keeper.specs.Notes.{HasNote}
use Rattle.hot_keeper.proofs.steps.notes_of.Given as goal

-- notes that have those so far and those of the rows from the place on have all
abbrev pub invariant-loop-piece : goal.invariant-loop-piece
invariant-loop-piece g l = record {
  told : l.rows.told ≡ l.initial.rows.told;
  epoch : l.rows.epoch ≡ l.initial.rows.epoch;
  faults : l.initial.rows.faults ≤ l.rows.faults;
  left : (h : Held) → l.initial.rows.told ≡ Some h → (last : BTreeSet Note) → ((other : RowId) → HasNote l.notes other → HasNote last other) → All (HasNote last) (ids_of (rows_from l.place (seen l.present h.rows))) → All (HasNote last) (ids_of (seen l.present h.rows));
}
