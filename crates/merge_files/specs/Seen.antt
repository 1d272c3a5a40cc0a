-- How the first key word of an input stands to the least one of the inputs before it.
use Rattle.std.specs.Prelude.{◌≡◌, ℕ, true, false, List, [], Option, Some, None}
use Rattle.agg_model.specs.declared.entity.FileKind.{FileKind}
use Rattle.agg_model.specs.declared.contents.Pair.{Pair}
use Rattle.merge_files.specs.declared.least.Seen.{Seen}
use Rattle.merge_files.specs.declared.least.Seen.TheVariants.{Lower, Same, Behind}
use Rattle.merge_files.specs.Walks.{IsAhead, IsKeyWord, Stands}

abbrev pub IsLower : FileKind → Option (List ℕ) → List ℕ → Type 0
IsLower kind None word = Unit {0}
IsLower kind (Some least) word = IsAhead kind word least

abbrev pub HasNone : FileKind → Option (List ℕ) → List Pair → Type 0
HasNone kind None pairs = pairs ≡ []
HasNone kind (Some least) pairs = Stands kind least false pairs

abbrev pub HasSame : FileKind → Option (List ℕ) → List Pair → Type 0
HasSame kind None pairs = ⊥
HasSame kind (Some least) pairs = Stands kind least true pairs

pub record HasLower (kind : FileKind) (least : Option (List ℕ)) (pairs : List Pair) (word : List ℕ) : Type 0 where
  pub lower : IsLower kind least word
  pub is : IsKeyWord kind word
  pub stands : Stands kind word true pairs

abbrev pub IsSeen : FileKind → Option (List ℕ) → List Pair → Seen → Type 0
IsSeen kind least pairs (Lower word) = HasLower kind least pairs word.now
IsSeen kind least pairs Same = HasSame kind least pairs
IsSeen kind least pairs Behind = HasNone kind least pairs
