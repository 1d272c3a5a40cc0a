-- Where a name stands, or would stand, among files in the order of their names.
use Rattle.std.specs.Prelude.{◌≡◌, ℕ, suc, ◌<◌, ◌≤◌, Bool, true, false, if◌then◌else◌, List, [], ◌∷◌, length, take, drop, slice_index_or}
use Rattle.agg_outside.specs.declared.file_map.FileEntry.{FileEntry}
use Rattle.agg_outside.specs.FileList.{is_below}

-- every name is below the name
abbrev pub all_below : List ℕ → List FileEntry → Bool
all_below name [] = true
all_below name (file ∷ files) = if is_below file.name name then all_below name files else false

-- every name is above the name
abbrev pub all_above : List ℕ → List FileEntry → Bool
all_above name [] = true
all_above name (file ∷ files) = if is_below name file.name then all_above name files else false

-- the file at a place has the name; those before it are below, and those after it above
pub record IsNamedAt (name : List ℕ) (files : List FileEntry) (place : ℕ) : Type 0 where
  pub within : place < length files
  pub named : (d : FileEntry) → (slice_index_or files place d).name ≡ name
  pub below : all_below name (take place files) ≡ true
  pub above : all_above name (drop (suc place) files) ≡ true

-- no file has the name; those before the place are below, and those from it on above
pub record IsGapFor (name : List ℕ) (files : List FileEntry) (place : ℕ) : Type 0 where
  pub within : place ≤ length files
  pub below : all_below name (take place files) ≡ true
  pub above : all_above name (drop place files) ≡ true
