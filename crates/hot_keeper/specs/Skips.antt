-- Where the looks for keys go on, by notes of rows.
use Rattle.std.specs.Prelude.{◌≡◌, ℕ, ◌≤◌, true, false, List, Option, Some, None, All}
use Rattle.std.specs.List.{Contains}
use Rattle.agg_outside.specs.declared.rows.RowId.{RowId}
use Rattle.agg_outside.specs.declared.rows.Row.{Row}
use Rattle.agg_outside.specs.Rows.{is_before}
use Rattle.hot_keeper.specs.Windows.{tells_key}

-- no row was killed after this epoch
abbrev pub AreKilledBy : ℕ → List Row → Type 0
AreKilledBy last rows = All (λ r. r.killed ≤ last) rows

-- each row that tells its key is among the ids
abbrev pub AreAmong : ℕ → ℕ → ℕ → List RowId → List Row → Type 0
AreAmong epoch from to ids rows = All (λ r. tells_key epoch from to r ≡ true → Contains ids r.id) rows

-- it is the first of sorted ids that isn't before the place
abbrev pub IsFirstAmong : List RowId → RowId → Option RowId → Type 0
IsFirstAmong ids place None = All (λ id. is_before id place ≡ true) ids
IsFirstAmong ids place (Some next) =
    (is_before next place ≡ false) × All (λ id. is_before id place ≡ false → is_before id next ≡ false) ids

-- each row from the place on that tells its key is from the next one on; there is none, where there is no next one
abbrev pub IsNextLook : ℕ → ℕ → ℕ → List Row → RowId → Option RowId → Type 0
IsNextLook epoch from to rows place None =
    All (λ r. tells_key epoch from to r ≡ true → is_before r.id place ≡ false → ⊥) rows
IsNextLook epoch from to rows place (Some next) = (is_before next place ≡ false)
    × All (λ r. tells_key epoch from to r ≡ true → is_before r.id place ≡ false → is_before r.id next ≡ false) rows
