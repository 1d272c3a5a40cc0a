-- Files as a list in the order of their names, and the finite map that the list stands for.
use Rattle.std.specs.Prelude.{ℕ, Bool, true, false, if◌then◌else◌, List, [], ◌∷◌, map}
use Rattle.std.specs.Ordering.{nat_cmp, is_lt}
use Rattle.std.specs.Cmp.Lexicographic.{slice_cmp}
use Rattle.std.specs.FinMap.{from_entries}
use Rattle.agg_outside.specs.declared.file_map.FileEntry.{FileEntry}
use Rattle.agg_outside.specs.Files.{Files}

-- by their bytes, and a prefix before what it begins
abbrev pub is_below : List ℕ → List ℕ → Bool
is_below a b = is_lt (slice_cmp nat_cmp a b)

-- each name is below the next
abbrev pub names_ascend_after : List ℕ → List FileEntry → Bool
names_ascend_after name [] = true
names_ascend_after name (file ∷ files) = if is_below name file.name then names_ascend_after file.name files else false

abbrev pub names_ascend : List FileEntry → Bool
names_ascend [] = true
names_ascend (file ∷ files) = names_ascend_after file.name files

-- the name is above the last one, if there is one
abbrev pub is_above_last : List ℕ → List FileEntry → Bool
is_above_last name [] = true
is_above_last name (file ∷ []) = is_below file.name name
is_above_last name (file ∷ next ∷ files) = is_above_last name (next ∷ files)

-- the map from the names to the bytes
abbrev pub files_of : List FileEntry → Files
files_of files = from_entries (map (λ file. (file.name, file.bytes)) files)
