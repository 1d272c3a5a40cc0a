-- Where a page stands in the groups of its entity.
use Rattle.std.specs.Prelude.{ℕ, nat_eq, not, Bool, false, List, [], ◌∷◌, map, find, if◌then◌else◌, Option, Some, None}
use Rattle.std.specs.Cmp.Lexicographic.{pointwise}
use Rattle.agg_model.specs.declared.contents.Times.{Times}
use Rattle.agg_model.specs.Listed.{is_from}
use Rattle.collate_step.specs.Groups.{GroupFiles}
use Rattle.inverted_index.specs.EfFile.{list_keys, words_of}
use Rattle.recsplit_index.specs.Keys.{IsKeyAt}
use Rattle.window_laws.specs.Pages.{lesser}

-- a group, and the next key of its `.ef` file
pub record Place : Type 0 where
  pub group : GroupFiles
  pub next : Option (List ℕ)

-- the first key that isn't below this one
abbrev pub next_from : List ℕ → List Times → Option (List ℕ)
next_from first lists = find (is_from (Some first)) (list_keys lists)

abbrev pub place_from : List ℕ → GroupFiles → Place
place_from first g = record { group = g; next = next_from first g.ef.lists }

abbrev pub places_from : List ℕ → List GroupFiles → List Place
places_from first groups = map (place_from first) groups

-- a next key stays, where it isn't below this one
abbrev pub next_moved : List ℕ → List Times → Option (List ℕ) → Option (List ℕ)
next_moved first lists None = None
next_moved first lists (Some k) = if is_from (Some first) k then Some k else next_from first lists

abbrev pub moved : List ℕ → Place → Place
moved first p = record { group = p.group; next = next_moved first p.group.ef.lists p.next }

-- the least of the next keys
abbrev pub least_next : List Place → Option (List ℕ)
least_next [] = None
least_next (p ∷ ps) = lesser p.next (least_next ps)

-- the word of the next key starts there
abbrev pub IsPlaced : List Times → Option (List ℕ) → ℕ → Type 0
IsPlaced lists None at = Unit {0}
IsPlaced lists (Some k) at = IsKeyAt (words_of lists) k at

-- the key is the next one
abbrev pub is_at : Option (List ℕ) → List ℕ → Bool
is_at None k = false
is_at (Some next) k = pointwise nat_eq next k
