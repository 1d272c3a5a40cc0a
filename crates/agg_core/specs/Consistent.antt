-- When a disk and a keeper stand for a list of changes: opening them refuses nothing, and gives that list.
use Rattle.std.specs.Prelude.{◌≡◌, ◌⊎◌, ℕ, zero, suc, ◌+◌, ◌*◌, ◌^◌, ◌≤◌, ◌<◌, ◌==◌, ◌&&◌, min, max, nat_le, Bool, List, [], ◌∷◌, map, filter, All, AllPairs, Option, Some, None, find}
use Rattle.std.specs.List.{list_all}
use Rattle.std.specs.FinMap.{contains_key}
use Rattle.agg_outside.specs.declared.rows.Row.{Row}
use Rattle.agg_outside.specs.Files.{Files}
use Rattle.agg_outside.specs.Rows.{Held}
use Rattle.agg_model.specs.declared.change.Change.{Change}
use Rattle.agg_model.specs.declared.entity.Entity.{Entity}
use Rattle.agg_model.specs.declared.entity.Range.{Range}
use Rattle.agg_model.specs.declared.limits.TheConstants.{STEPS_MOST}
use Rattle.agg_model.specs.Arranged.{arranged}
use Rattle.agg_model.specs.Batch.{IsChange, content_of}
use Rattle.agg_model.specs.ChangeList.{ChangeList, IsChangeList, next_of}
use Rattle.merge_ranges.specs.Name.{spelled}
use Rattle.merge_ranges.specs.Cut.{sizes, is_aligned, end_of}
use Rattle.merge_ranges.specs.CanonicalNames.{entities, group_names, entity_names}
use Rattle.agg_core.specs.Files.{HasFile}
use Rattle.agg_core.specs.Rows.{said_by, said_of}

-- ---- the covers of a directory

abbrev pub range_at : ℕ → ℕ → Range
range_at from size = record { from = from; to = from + size }

-- all kinds of the group are there
unfoldable pub is_whole : Files → Entity → Range → Bool
is_whole files e r = is_aligned r && list_all (λ n. contains_key files (spelled n)) (group_names e r)

-- the length of the whole group that begins at the step and reaches furthest
unfoldable pub reach : Files → Entity → ℕ → Option ℕ
reach files e from = find (λ size. is_whole files e (range_at from size)) sizes

abbrev pub then_from : Option ℕ → ℕ → (ℕ → List Range) → List Range
then_from None from rest = []
then_from (Some size) from rest = range_at from size ∷ rest (from + size)

abbrev pub cover_from : ℕ → Files → Entity → ℕ → List Range
cover_from zero files e from = []
cover_from (suc most) files e from = then_from (reach files e from) from (λ next. cover_from most files e next)

-- from step 0 on, again and again, the whole group that begins where the cover stops and reaches furthest
unfoldable pub cover : Files → Entity → List Range
cover files e = cover_from STEPS_MOST files e 0

abbrev pub end_over : Files → Entity → ℕ
end_over files e = end_of (cover files e)

abbrev pub least_end : List Entity → Files → ℕ
least_end [] files = STEPS_MOST
least_end (e ∷ es) files = min (end_over files e) (least_end es files)

-- where the directory ends: at the smallest end of an entity
abbrev pub end_of_files : Files → ℕ
end_of_files files = least_end entities files

-- the groups of an entity's cover below that end
abbrev pub kept_cover : Files → Entity → List Range
kept_cover files e = filter (λ r. nat_le r.to (end_of_files files)) (cover files e)

-- ---- the rows that are kept

-- alive, and with a number from here on
abbrev pub is_kept : ℕ → Row → Bool
is_kept from row = (row.killed == 0) && nat_le from row.id.tx

abbrev pub kept_rows : Files → Held → ℕ → List Row
kept_rows files held size = filter (is_kept (end_of_files files * size)) held.rows

-- it says a change, below the last step, and was born at an epoch within the limit
pub record IsGoodRow (size : ℕ) (row : Row) : Type 0 where
  pub change : Change
  pub fits : IsChange change
  pub says : said_by row ≡ said_of change
  pub below : row.id.tx < STEPS_MOST * size
  pub born : row.id.born ≤ 2 ^ 62

-- of another entity, key or number
abbrev pub AreApart : Row → Row → Type 0
AreApart a b = ((a.id.entity ≡ b.id.entity) × (a.id.key ≡ b.id.key) × (a.id.tx ≡ b.id.tx)) → ⊥

-- ---- opening

-- The rules of opening refuse neither covers nor rows. What the files of the covers hold is judged by the list's bytes.
pub record IsOpenable (files : Files) (held : Held) (size : ℕ) : Type 0 where
  -- no cover ends below the floor
  pub floor : (e : Entity) → held.floor ≤ end_over files e
  -- no group of a cover reaches over the end
  pub edge : (e : Entity) → All (λ r. (r.to ≤ end_of_files files) ⊎ (end_of_files files ≤ r.from)) (cover files e)
  pub rows : All (IsGoodRow size) (kept_rows files held size)
  pub apart : AllPairs AreApart (kept_rows files held size)

-- the changes with numbers from here on
abbrev pub changes_from : ℕ → List Change → List Change
changes_from from changes = filter (λ c. nat_le from c.tx) changes

-- Disk and keeper stand for the list: its files are those of the covers, its rows those behind the end, one a change.
pub record IsConsistent (files : Files) (held : Held) (list : ChangeList) : Type 0 where
  pub valid : IsChangeList list
  pub openable : IsOpenable files held list.size
  pub bytes : (e : Entity) → All (HasFile list files) (entity_names e (kept_cover files e))
  pub rows : map said_by (kept_rows files held list.size)
      ≡ map said_of (arranged (changes_from (end_of_files files * list.size) list.changes))
  pub next : list.next ≡ max (next_of 0 list.changes) (end_of_files files * list.size)
  pub content : content_of list.changes ≤ 2 ^ 28
