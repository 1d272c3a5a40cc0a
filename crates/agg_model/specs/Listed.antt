-- The reads that list rows or numbers, and a page of what they list.
use Rattle.std.specs.Prelude.{ℕ, Bool, true, ◌&&◌, not, if◌then◌else◌, List, map, reverse, take, drop, Option, Some, None, is_some, slice_get}
use Rattle.std.specs.Option.{option_map}
use Rattle.std.specs.List.{filter}
use Rattle.std.specs.Ordering.{nat_cmp, is_lt}
use Rattle.std.specs.Cmp.Lexicographic.{slice_cmp}
use Rattle.agg_model.specs.declared.entity.Entity.{Entity}
use Rattle.agg_model.specs.declared.change.Change.{Change}
use Rattle.agg_model.specs.declared.page.PageRow.{PageRow}
use Rattle.agg_model.specs.ChangeList.{value_at}
use Rattle.agg_model.specs.Arranged.{arranged}
use Rattle.agg_model.specs.Contents.{is_within, keys_of, times}

-- the key isn't below the bound; no bound is an open end
abbrev pub is_from : Option (List ℕ) → List ℕ → Bool
is_from None k = true
is_from (Some bound) k = not (is_lt (slice_cmp nat_cmp k bound))

-- the key is below the bound; no bound is an open end
abbrev pub is_under : Option (List ℕ) → List ℕ → Bool
is_under None k = true
is_under (Some bound) k = is_lt (slice_cmp nat_cmp k bound)

-- the keys of an entity that changed at numbers from one on and below another, ascending, each once
unfoldable pub keys_within : List Change → Entity → ℕ → ℕ → List (List ℕ)
keys_within cs e from to = keys_of (arranged (filter (is_within e from to) cs))

-- the key with its value just before n
abbrev pub page_row : List Change → Entity → ℕ → List ℕ → PageRow
page_row cs e n k = record { key = k; value = value_at cs e k n }

-- the key is between the bounds and has a value just before n
abbrev pub is_in_range : List Change → Entity → ℕ → Option (List ℕ) → Option (List ℕ) → List ℕ → Bool
is_in_range cs e n from to k = is_from from k && (is_under to k && is_some (value_at cs e k n))

-- the keys between the bounds that have a value just before n, each with that value
unfoldable pub range : List Change → Entity → ℕ → Option (List ℕ) → Option (List ℕ) → List PageRow
range cs e n from to = map (page_row cs e n) (filter (is_in_range cs e n from to) (keys_within cs e 0 n))

-- the keys from the bound on that changed at numbers from a on and below b, each with its value just before a
unfoldable pub history : List Change → Entity → ℕ → ℕ → Option (List ℕ) → List PageRow
history cs e a b from = map (page_row cs e a) (filter (is_from from) (keys_within cs e a b))

-- the numbers from a on and below b at which a key changed, ascending, or from the last to the first
unfoldable pub index : List Change → Entity → List ℕ → ℕ → ℕ → Bool → List ℕ
index cs e k a b back = if back then reverse (times cs e k a b) else times cs e k a b

-- the first rows, up to a limit, and what names the one behind them, where there is one
abbrev pub limited : {A B : Type 0} → (A → B) → ℕ → List A → List A × Option B
limited name limit rows = (take limit rows, option_map name (slice_get (drop limit rows) 0))
