-- Which rows are noted by the numbers of their changes.
use Rattle.std.specs.Prelude.{◌≡◌, ℕ, ◌&&◌, ◌++◌, [], Bool, true, false, List, map, Option, All, IfSome}
use Rattle.std.specs.List.{AllPairs, Contains, filter}
use Rattle.std.specs.declared.cmp.Ordering.{Ordering}
use Rattle.std.specs.Ordering.{nat_cmp, ordering_then}
use Rattle.std.specs.BTreeSet.{BTreeSet, contains}
use Rattle.agg_outside.specs.declared.rows.RowId.{RowId}
use Rattle.agg_outside.specs.declared.rows.Row.{Row}
use Rattle.agg_outside.specs.Rows.{id_cmp, is_before, rows_from}
use Rattle.agg_model.specs.declared.change.Change.{Change}
use Rattle.row_epochs.specs.Seen.{is_seen}
use Rattle.row_epochs.specs.Changes.{change_of}
use Rattle.hot_keeper.specs.declared.notes.Note.{Note}
use Rattle.hot_keeper.specs.Windows.{is_within_numbers}

-- by the number of the change, then in row order
unfoldable pub note_cmp : Note → Note → Ordering
note_cmp a b = ordering_then (nat_cmp a.id.tx b.id.tx) (id_cmp a.id b.id)

-- the note of a row
abbrev pub note_of : RowId → Note
note_of id = record { id = id }

-- before all notes from this number on
abbrev pub first_note : ℕ → Note
first_note tx = note_of (record { entity = 0; key = []; tx = tx; born = 0 })

abbrev pub HasNote : BTreeSet Note → RowId → Type 0
HasNote notes id = contains note_cmp notes (note_of id) ≡ true

-- each alive row is noted, where there are notes
abbrev pub IsNoted : BTreeSet Note → Row → Type 0
IsNoted notes row = row.killed ≡ 0 → HasNote notes row.id

abbrev pub AreNoted : Option (BTreeSet Note) → List Row → Type 0
AreNoted notes rows = IfSome notes (λ n. All (IsNoted n) rows)

-- the epoch sees the row, and its number is from one on and below another
unfoldable pub is_in_step : ℕ → ℕ → ℕ → Row → Bool
is_in_step epoch from to row = is_seen epoch row && is_within_numbers from to (change_of row)

-- the changes of the step among rows
abbrev pub changes_in : ℕ → ℕ → ℕ → List Row → List Change
changes_in epoch from to rows = map change_of (filter (is_in_step epoch from to) rows)

-- what the looks at these ids leave to be found from a place on: each row of the step behind it is among them
pub record IsLeft (epoch from to : ℕ) (rows : List Row) (place : RowId) (ids : List RowId) (changes : List Change) : Type 0 where
  pub whole : changes ++ changes_in epoch from to (rows_from place rows) ≡ changes_in epoch from to rows
  pub noted : All (λ r. is_in_step epoch from to r ≡ true → is_before r.id place ≡ false → Contains ids r.id) rows
  pub sorted : AllPairs (λ a b. is_before b a ≡ false) ids
