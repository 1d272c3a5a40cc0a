-- Which rows are noted as killed.
use Rattle.std.specs.Prelude.{◌≡◌, ℕ, ◌==◌, not, nat_le, Bool, List, [], ◌∷◌, map, Option, IfSome, if◌then◌else◌}
use Rattle.std.specs.List.{filter}
use Rattle.std.specs.BTreeMap.{BTreeMap, insert_entry}
use Rattle.agg_outside.specs.declared.rows.RowId.{RowId}
use Rattle.agg_outside.specs.declared.rows.Row.{Row}
use Rattle.agg_outside.specs.Rows.{id_cmp}

abbrev pub is_killed : Row → Bool
is_killed row = not (row.killed == 0)

abbrev pub kill_of : Row → RowId × ℕ
kill_of row = (row.id, row.killed)

-- each killed row with the epoch at which it was killed, in order
abbrev pub kills_in : List Row → List (RowId × ℕ)
kills_in rows = map kill_of (filter is_killed rows)

-- the notes, where there are any, are exactly those
abbrev pub AreKillsNoted : Option (BTreeMap RowId ℕ) → List Row → Type 0
AreKillsNoted kills rows = IfSome kills (λ k. k.entries ≡ kills_in rows)

-- it was noted as killed at the epoch or before
abbrev pub is_dead_kill : ℕ → RowId × ℕ → Bool
is_dead_kill epoch kill = nat_le kill.1 epoch

abbrev pub dead_kills : ℕ → List (RowId × ℕ) → List RowId
dead_kills epoch kills = map (λ kill. kill.0) (filter (is_dead_kill epoch) kills)

abbrev pub later_kills : ℕ → List (RowId × ℕ) → List (RowId × ℕ)
later_kills epoch kills = filter (λ kill. not (is_dead_kill epoch kill)) kills

-- notes with those of more rows
abbrev pub noted : List (RowId × ℕ) → List Row → List (RowId × ℕ)
noted kills [] = kills
noted kills (row ∷ rows) = noted (if is_killed row then insert_entry id_cmp kills row.id row.killed else kills) rows

-- notes with those of rows that are killed at an epoch
abbrev pub with_kills : ℕ → List (RowId × ℕ) → List RowId → List (RowId × ℕ)
with_kills epoch kills [] = kills
with_kills epoch kills (id ∷ ids) = with_kills epoch (insert_entry id_cmp kills id epoch) ids
