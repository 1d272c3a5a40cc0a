-- The order of rows, and what the calls of a keeper do to the rows that it holds.
use Rattle.std.specs.Prelude.{ℕ, Bool, true, false, if◌then◌else◌, List, [], ◌∷◌, Option, Some, None, IsSome, IsNone, ⊤}
use Rattle.std.specs.declared.cmp.Ordering.{Ordering}
use Rattle.std.specs.Ordering.{nat_cmp, ordering_then, is_lt, is_eq}
use Rattle.std.specs.Cmp.Lexicographic.{slice_cmp}
use Rattle.agg_outside.specs.declared.rows.RowId.{RowId}
use Rattle.agg_outside.specs.declared.rows.Row.{Row}
use Rattle.agg_outside.specs.declared.rows.RowWrite.{RowWrite}
use Rattle.agg_outside.specs.declared.rows.RowWrite.TheVariants.{Insert, Kill, Remove, Floor}

-- by entity, then by the bytes of the key, then by number, then by born
unfoldable pub id_cmp : RowId → RowId → Ordering
id_cmp a b =
    ordering_then (nat_cmp a.entity b.entity)
    (ordering_then (slice_cmp nat_cmp a.key b.key) (ordering_then (nat_cmp a.tx b.tx) (nat_cmp a.born b.born)))

abbrev pub is_before : RowId → RowId → Bool
is_before a b = is_lt (id_cmp a b)

abbrev pub is_same : RowId → RowId → Bool
is_same a b = is_eq (id_cmp a b)

-- each id is before the next
abbrev pub ascends_after : RowId → List Row → Bool
ascends_after id [] = true
ascends_after id (row ∷ rows) = if is_before id row.id then ascends_after row.id rows else false

abbrev pub ascends : List Row → Bool
ascends [] = true
ascends (row ∷ rows) = ascends_after row.id rows

-- the value, where it is there, else the other
abbrev pub last_or : Row → Option Row → Option Row
last_or row None = Some row
last_or row (Some later) = Some later

-- the first row not before the id
abbrev pub first_from : RowId → List Row → Option Row
first_from id [] = None
first_from id (row ∷ rows) = if is_before row.id id then first_from id rows else Some row

-- the last row before the id
abbrev pub last_before : RowId → List Row → Option Row
last_before id [] = None
last_before id (row ∷ rows) = if is_before row.id id then last_or row (last_before id rows) else last_before id rows

-- the rows not before the id
abbrev pub rows_from : RowId → List Row → List Row
rows_from id [] = []
rows_from id (row ∷ rows) = if is_before row.id id then rows_from id rows else row ∷ rows_from id rows

-- the row with the id
abbrev pub row_at : RowId → List Row → Option Row
row_at id [] = None
row_at id (row ∷ rows) = if is_same row.id id then Some row else row_at id rows

-- the row at its place, before the first row that isn't before it
abbrev pub insert_row : Row → List Row → List Row
insert_row new [] = new ∷ []
insert_row new (row ∷ rows) = if is_before row.id new.id then row ∷ insert_row new rows else new ∷ row ∷ rows

abbrev pub kill_row : RowId → ℕ → List Row → List Row
kill_row id epoch [] = []
kill_row id epoch (row ∷ rows) = (if is_same row.id id then record row { killed = epoch } else row) ∷ kill_row id epoch rows

abbrev pub remove_row : RowId → List Row → List Row
remove_row id [] = []
remove_row id (row ∷ rows) = if is_same row.id id then remove_row id rows else row ∷ remove_row id rows

-- what a keeper holds
pub record Held : Type 0 where
  pub rows : List Row
  pub floor : ℕ

-- what it holds after a write
abbrev pub written : RowWrite → Held → Held
written (Insert row) held = record { rows = insert_row row held.rows; floor = held.floor }
written (Kill id epoch) held = record { rows = kill_row id epoch held.rows; floor = held.floor }
written (Remove id) held = record { rows = remove_row id held.rows; floor = held.floor }
written (Floor step) held = record { rows = held.rows; floor = step }

-- an inserted id is new, a killed or removed one is there
abbrev pub CanWrite : RowWrite → Held → Type 0
CanWrite (Insert row) held = IsNone (row_at row.id held.rows)
CanWrite (Kill id epoch) held = IsSome (row_at id held.rows)
CanWrite (Remove id) held = IsSome (row_at id held.rows)
CanWrite (Floor step) held = ⊤

-- what it holds after all writes, in order
abbrev pub applied : List RowWrite → Held → Held
applied [] held = held
applied (write ∷ writes) held = applied writes (written write held)

-- each write may be made where it stands
abbrev pub CanApply : List RowWrite → Held → Type 0
CanApply [] held = ⊤
CanApply (write ∷ writes) held = CanWrite write held × CanApply writes (written write held)
