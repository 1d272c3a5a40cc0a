-- What windows of hot rows answer, over the changes that an epoch sees.
use Rattle.std.specs.Prelude.{ℕ, ◌+◌, ◌*◌, ◌&&◌, not, nat_le, nat_lt}
use Rattle.std.specs.Prelude.{Bool, if◌then◌else◌, List, [], ◌∷◌, reverse, Option}
use Rattle.std.specs.Option.{option_map}
use Rattle.std.specs.List.{filter}
use Rattle.std.specs.Ordering.{nat_cmp, is_lt}
use Rattle.std.specs.Cmp.Lexicographic.{slice_cmp}
use Rattle.agg_outside.specs.declared.rows.RowId.{RowId}
use Rattle.agg_outside.specs.declared.rows.Row.{Row}
use Rattle.row_epochs.specs.Seen.{is_seen}
use Rattle.row_epochs.specs.Places.{behind}
use Rattle.agg_model.specs.declared.entity.Entity.{Entity}
use Rattle.agg_model.specs.declared.change.Act.{Act}
use Rattle.agg_model.specs.declared.change.Change.{Change}
use Rattle.agg_model.specs.Contents.{is_within, keys_of, times}

-- the act of a change
abbrev pub act_of_change : Option Change → Option Act
act_of_change change = option_map (λ c. c.act) change

-- the numbers of a key's changes in a window, descending where they are sought backwards
abbrev pub window_times : Bool → List Change → Entity → List ℕ → ℕ → ℕ → List ℕ
window_times back cs e k from to = if back then reverse (times cs e k from to) else times cs e k from to

-- the change is of the entity, in the window, and its key isn't below the first one
unfoldable pub is_in_window : Entity → List ℕ → ℕ → ℕ → Change → Bool
is_in_window e first from to c = is_within e from to c && not (is_lt (slice_cmp nat_cmp c.key first))

-- the keys from one on that changed in a window, each once
abbrev pub window_keys : List Change → Entity → List ℕ → ℕ → ℕ → List (List ℕ)
window_keys cs e first from to = keys_of (filter (is_in_window e first from to) cs)

-- its number is from one on and below another
unfoldable pub is_within_numbers : ℕ → ℕ → Change → Bool
is_within_numbers from to c = nat_le from c.tx && nat_lt c.tx to

-- the changes with numbers of the step
abbrev pub changes_of_step : ℕ → ℕ → List Change → List Change
changes_of_step size step cs = filter (is_within_numbers (step * size) (step * size + size)) cs

-- ---- the walks

-- what is found in a row: its number, where the epoch sees it
abbrev pub numbers_with : ℕ → Row → List ℕ
numbers_with epoch row = if is_seen epoch row then row.id.tx ∷ [] else []

-- a place among the rows of the id's key
abbrev pub key_place : RowId → ℕ → ℕ → RowId
key_place id tx born = record { entity = id.entity; key = id.key; tx = tx; born = born }

-- the row is in the window, and the epoch sees it
abbrev pub tells_key : ℕ → ℕ → ℕ → Row → Bool
tells_key epoch from to row = nat_le from row.id.tx && (nat_lt row.id.tx to && is_seen epoch row)

-- what is found in a row: its key, where it tells it
abbrev pub keys_with : ℕ → ℕ → ℕ → Row → List (List ℕ)
keys_with epoch from to row = if tells_key epoch from to row then row.id.key ∷ [] else []

-- where the look after a row begins: at the key's first number in the window, at the next version, or behind the key
abbrev pub next_key_place : ℕ → ℕ → ℕ → Row → RowId
next_key_place epoch from to row =
    if nat_lt row.id.tx from then key_place row.id from 0
    else (if nat_lt row.id.tx to && not (is_seen epoch row) then behind row.id
    else key_place row.id 18446744073709551615 18446744073709551615)
