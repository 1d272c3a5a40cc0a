-- Names as sets: lists of texts of which order and repeats don't count, and the one form that such a set has.
use Rattle.std.specs.Prelude.{◌≡◌, ℕ, Bool, true, not, List, [], ◌∷◌, map, filter}
use Rattle.std.specs.List.{list_any}
use Rattle.std.specs.List.Sorted.{IsStrictlySortedBy}
use Rattle.std.specs.Ordering.{nat_cmp}
use Rattle.std.specs.Cmp.Lexicographic.{slice_cmp}
use Rattle.std.specs.BTreeMap.{is_at}
use Rattle.std.specs.BTreeSet.{insert_key}
use Rattle.agg_model.specs.declared.entity.Entity.{Entity}
use Rattle.agg_model.specs.declared.entity.Range.{Range}
use Rattle.merge_ranges.specs.declared.name.FileName.{FileName}
use Rattle.merge_ranges.specs.Name.{spelled}
use Rattle.merge_ranges.specs.CanonicalNames.{entity_names, names_over}

-- whether the name is among these
abbrev pub has : List (List ℕ) → List ℕ → Bool
has names name = list_any (is_at (slice_cmp nat_cmp name)) names

-- the same names, whatever their order and however often each stands there
abbrev pub SameNames : List (List ℕ) → List (List ℕ) → Type 0
SameNames xs ys = (name : List ℕ) → has xs name ≡ has ys name

-- each of the first names is among the others
abbrev pub AreAmong : List (List ℕ) → List (List ℕ) → Type 0
AreAmong xs ys = (name : List ℕ) → has xs name ≡ true → has ys name ≡ true

-- the one form: each name is below all later ones, byte by byte
abbrev pub IsInForm : List (List ℕ) → Type 0
IsInForm names = IsStrictlySortedBy (slice_cmp nat_cmp) names

-- these names and more
abbrev pub with_names : List (List ℕ) → List (List ℕ) → List (List ℕ)
with_names names [] = names
with_names names (n ∷ ns) = with_names (insert_key (slice_cmp nat_cmp) names n) ns

-- these names but for those that are gone
abbrev pub without_names : List (List ℕ) → List (List ℕ) → List (List ℕ)
without_names names gone = filter (λ n. not (has gone n)) names

-- names of files as texts
abbrev pub texts_of : List FileName → List (List ℕ)
texts_of names = map spelled names

-- the texts of the names of an entity over these ranges
abbrev pub entity_texts : Entity → List Range → List (List ℕ)
entity_texts e ranges = texts_of (entity_names e ranges)

-- the texts of the names of all entities over these ranges
abbrev pub all_texts : List Range → List (List ℕ)
all_texts ranges = texts_of (names_over ranges)
