-- A batch of which the last change of each number, entity and key is left.
use Rattle.std.specs.Prelude.{ℕ, suc, nat_lt, Bool, true, ◌&&◌, List, [], ◌∷◌, length, if◌then◌else◌, Option, Some, None}
use Rattle.std.specs.Option.{option_map, unwrap_or}
use Rattle.agg_model.specs.declared.change.Change.{Change}
use Rattle.agg_model.specs.Place.{Place, place_of, is_same_place}

-- the change in the stead of the one at its place, or at the end where there is none
abbrev pub put_over : Change → List Change → List Change
put_over c [] = c ∷ []
put_over c (d ∷ ds) = if is_same_place (place_of c) (place_of d) then c ∷ ds else d ∷ put_over c ds

-- changes after more came, each in the stead of the one at its place
abbrev pub merged_from : List Change → List Change → List Change
merged_from acc [] = acc
merged_from acc (c ∷ cs) = merged_from (put_over c acc) cs

-- of each place the last change, where its first one stood
unfoldable pub merged : List Change → List Change
merged cs = merged_from [] cs

-- which of the changes has this place
abbrev pub index_of : Place → List Change → Option ℕ
index_of p [] = None
index_of p (d ∷ ds) = if is_same_place p (place_of d) then Some 0 else option_map suc (index_of p ds)

-- where a change goes among those that are left: to the place of the one that it repeats, or to the end
abbrev pub place_among : Change → List Change → ℕ
place_among c kept = unwrap_or (index_of (place_of c) kept) (length kept)

-- where each of the changes goes, one after another
abbrev pub places_from : List Change → List Change → List ℕ
places_from kept [] = []
places_from kept (c ∷ cs) = place_among c kept ∷ places_from (put_over c kept) cs

-- each number is above the one before, the first one above `last`
abbrev pub climbs_above : ℕ → List Change → Bool
climbs_above last [] = true
climbs_above last (c ∷ cs) = nat_lt last c.tx && climbs_above c.tx cs

abbrev pub climbs : List Change → Bool
climbs [] = true
climbs (c ∷ cs) = climbs_above c.tx cs
