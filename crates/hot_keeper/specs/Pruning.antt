-- What a prune kills.
use Rattle.std.specs.Prelude.{ℕ, ◌+◌, ◌==◌, ◌||◌, not, nat_lt, Bool, List, length, take, if◌then◌else◌}
use Rattle.std.specs.List.{filter}
use Rattle.agg_outside.specs.declared.rows.RowId.{RowId}
use Rattle.agg_outside.specs.declared.rows.Row.{Row}
use Rattle.agg_outside.specs.Rows.{Held, applied}
use Rattle.row_epochs.specs.Seen.{is_alive}
use Rattle.row_epochs.specs.Places.{ids_of}
use Rattle.row_epochs.specs.Changes.{kills_of}

-- its number is below this one
abbrev pub has_low_number : ℕ → Row → Bool
has_low_number tx row = nat_lt row.id.tx tx

-- the alive rows with numbers below this one
abbrev pub low_rows : ℕ → List Row → List Row
low_rows tx rows = filter (has_low_number tx) (filter is_alive rows)

-- the rows that are killed: the first so many, in row order
abbrev pub pruned_ids : ℕ → ℕ → List Row → List RowId
pruned_ids tx limit rows = ids_of (take limit (low_rows tx rows))

-- a row is killed, or the floor moves
abbrev pub does_prune : ℕ → ℕ → ℕ → Held → Bool
does_prune tx floor limit held = nat_lt 0 (length (take limit (low_rows tx held.rows))) || not (floor == held.floor)

-- what is held then
abbrev pub pruned : ℕ → ℕ → ℕ → ℕ → Held → Held
pruned epoch tx floor limit held =
    if does_prune tx floor limit held then applied (kills_of epoch floor (pruned_ids tx limit held.rows)) held else held

-- and the epoch
abbrev pub epoch_pruned : ℕ → ℕ → ℕ → ℕ → Held → ℕ
epoch_pruned epoch tx floor limit held = if does_prune tx floor limit held then epoch + 1 else epoch
