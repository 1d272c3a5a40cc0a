-- Names that no file of a folder can have.
use Rattle.std.specs.Prelude.{ℕ, Bool, ◌==◌, ◌||◌, List, [], ◌∷◌, length}
use Rattle.std.specs.List.{list_any}
use Rattle.std.specs.Str.{bytes_eq}

-- a byte that ends a path, or a part of one
abbrev pub ends_name : ℕ → Bool
ends_name byte = (byte == 0) || (byte == 47)

-- the folder itself, or the one above it
abbrev pub is_folder_name : List ℕ → Bool
is_folder_name name = bytes_eq name (46 ∷ []) || bytes_eq name (46 ∷ 46 ∷ [])

-- empty, a folder's own name, or with a byte that ends a name
abbrev pub is_unfit : List ℕ → Bool
is_unfit name = (length name == 0) || (is_folder_name name || list_any ends_name name)
