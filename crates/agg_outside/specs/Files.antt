-- What a disk holds, and what its calls do to that.
use Rattle.std.specs.Prelude.{◌≡◌, ◌≢◌, ◌⊎◌, ℕ, List, Option, Some}
use Rattle.std.specs.Ordering.{nat_cmp}
use Rattle.std.specs.Option.{option_map_or}
use Rattle.std.specs.Cmp.Lexicographic.{slice_cmp}
use Rattle.std.specs.FinMap.{FinMap, get, insert, remove}

-- a finite map from names to the bytes of files
abbrev pub Files : Type 0
Files = FinMap (slice_cmp nat_cmp) (List ℕ)

-- the file moved over a name that may be taken
abbrev pub renamed : List ℕ → List ℕ → Files → Files
renamed from to files = option_map_or (λ bytes. insert (remove files from) to bytes) (get files from) files

-- every file but the one of this name is as it was
abbrev pub SameElsewhere : List ℕ → Files → Files → Type 0
SameElsewhere name old new = (other : List ℕ) → other ≢ name → get new other ≡ get old other

-- the call was done or not
abbrev pub WasDoneOrNot : Files → Files → Option Files → Type 0
WasDoneOrNot before after now = (now ≡ Some before) ⊎ (now ≡ Some after)
