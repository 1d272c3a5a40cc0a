-- The groups of an entity that stand, with a window, for a list.
use Rattle.std.specs.Prelude.{◌≡◌, ℕ, true, List, [], ◌∷◌, ◌++◌, Option, Some, None}
use Rattle.agg_model.specs.declared.change.Change.{Change}
use Rattle.agg_model.specs.declared.entity.Entity.{Entity}
use Rattle.agg_model.specs.declared.page.PageRow.{PageRow}
use Rattle.agg_model.specs.ChangeList.{ChangeList}
use Rattle.agg_model.specs.Listed.{is_from}
use Rattle.collate_step.specs.Groups.{GroupFiles, groups_for}
use Rattle.window_reads.specs.Standing.{Stand}
use Rattle.window_pages.specs.Places.{Place, places_from}

-- they are those of the entity among files that do
pub record StandFor (list : ChangeList) (e : Entity) (groups : List GroupFiles) (told : Option (List Change)) (size end at : ℕ) : Type 0 where
  pub files : List GroupFiles
  pub stand : Stand list files told size end at
  pub groups_are : groups ≡ groups_for e files

-- the key is above no next key
abbrev pub IsNotAbove : List ℕ → Option (List ℕ) → Type 0
IsNotAbove k None = Unit {0}
IsNotAbove k (Some next) = is_from (Some k) next ≡ true

abbrev pub IsLeast : List ℕ → List Place → Type 0
IsLeast k [] = Unit {0}
IsLeast k (p ∷ ps) = IsNotAbove k p.next × IsLeast k ps

-- the places stand from a key on that isn't above this one, and this one is above no next key
pub record StandsAt (k : List ℕ) (places : List Place) (groups : List GroupFiles) : Type 0 where
  pub first : List ℕ
  pub from : is_from (Some first) k ≡ true
  pub are : places ≡ places_from first groups
  pub least : IsLeast k places

-- the rows so far and those from a key on are all rows, and the places stand from a key on that isn't above it
pub record IsPartway (places : List Place) (groups : List GroupFiles) (first : List ℕ) (rows rest all : List PageRow) : Type 0 where
  pub before : List ℕ
  pub from : is_from (Some before) first ≡ true
  pub are : places ≡ places_from before groups
  pub left : rows ++ rest ≡ all
