-- When groups of files may become visible: a collation of one step, or a merge of several ranges.
use Rattle.std.specs.Prelude.{◌≡◌, ℕ, zero, suc, ◌+◌, ◌-◌, ◌/◌, ◌≤◌, ◌==◌, ◌&&◌, ◌||◌, ◌⊎◌, nat_lt, nat_le, Bool, true, not, List, [], ◌∷◌, length, if◌then◌else◌, Option, Some, None, find, is_some}
use Rattle.agg_model.specs.declared.entity.Entity.{Entity}
use Rattle.agg_model.specs.declared.entity.Entity.TheVariants.{Accounts}
use Rattle.agg_model.specs.declared.entity.Range.{Range}
use Rattle.agg_model.specs.declared.entity.FileKind.TheVariants.{Ef}
use Rattle.merge_ranges.specs.Cut.{sizes, is_aligned, end_from}
use Rattle.merge_ranges.specs.Name.{spelled}
use Rattle.core_machine.specs.Texts.{has, SameNames, AreAmong, entity_texts, all_texts}

-- the range of this many steps that begins at a step
abbrev pub range_at : ℕ → ℕ → Range
range_at from size = record { from = from; to = from + size }

-- whether the group is among the names: it is aligned, and its `.ef` is there
unfoldable pub has_group : List (List ℕ) → Entity → Range → Bool
has_group names e r = is_aligned r && has names (spelled (record { entity = e; range = r; kind = Ef }))

-- the length of the first such group of the entity that begins at the step, or that ends there, the longest first
unfoldable pub size_from : List (List ℕ) → Entity → ℕ → Option ℕ
size_from names e from = find (λ size. has_group names e (range_at from size)) sizes

unfoldable pub size_to : List (List ℕ) → Entity → ℕ → Option ℕ
size_to names e to = find (λ size. nat_le size to && has_group names e (range_at (to - size) size)) sizes

-- The visible groups end at the step: one of accounts ends there, or it is 0, and none begins there. All entities have
-- one end.
abbrev pub is_end : List (List ℕ) → ℕ → Bool
is_end visible step = ((step == 0) || is_some (size_to visible Accounts step)) && not (is_some (size_from visible Accounts step))

-- all groups over the step from the end on, which is complete, and nothing is replaced
pub record IsCollation (next size : ℕ) (visible added replaced : List (List ℕ)) : Type 0 where
  pub step : ℕ
  pub at_end : is_end visible step ≡ true
  pub complete : step + 1 ≤ next / size
  pub are : SameNames added (all_texts (range_at step 1 ∷ []))
  pub nothing : replaced ≡ []

abbrev pub after_size : Option ℕ → ℕ → (ℕ → List Range) → List Range
after_size None from rest = []
after_size (Some size) from rest = range_at from size ∷ rest (from + size)

-- the ranges of the entity's groups among the names, each from where the one before it ends, at most `most` of them
abbrev pub parts_from : ℕ → List (List ℕ) → Entity → ℕ → ℕ → List Range
parts_from zero names e from to = []
parts_from (suc most) names e from to =
    if nat_lt from to then after_size (size_from names e from) from (λ next. parts_from most names e next to) else []

-- the ranges from the first step of a range on whose groups are among the names
unfoldable pub parts_of : List (List ℕ) → Entity → Range → List Range
parts_of names e r = parts_from (r.to - r.from) names e r.from r.to

-- One group, over a range that is the union of at least two visible ranges of its entity; exactly the names of these
-- are replaced.
pub record IsMerge (visible added replaced : List (List ℕ)) : Type 0 where
  pub entity : Entity
  pub range : Range
  pub aligned : is_aligned range ≡ true
  pub ends : end_from range.from (parts_of replaced entity range) ≡ range.to
  pub several : 2 ≤ length (parts_of replaced entity range)
  pub seen : AreAmong replaced visible
  pub are : SameNames added (entity_texts entity (range ∷ []))
  pub gone : SameNames replaced (entity_texts entity (parts_of replaced entity range))

abbrev pub IsPublish : ℕ → ℕ → List (List ℕ) → List (List ℕ) → List (List ℕ) → Type 0
IsPublish next size visible added replaced = IsCollation next size visible added replaced ⊎ IsMerge visible added replaced
