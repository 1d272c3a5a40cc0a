-- What holds of every machine that a legal history leads to.
use Rattle.std.specs.Prelude.{◌≡◌, ℕ, ◌*◌, ◌≤◌, ◌==◌, ◌&&◌, Bool, false, List, [], ◌∷◌, ◌++◌, All}
use Rattle.std.specs.List.{list_any}
use Rattle.agg_model.specs.declared.entity.Entity.{Entity}
use Rattle.agg_model.specs.declared.entity.Range.{Range}
use Rattle.agg_model.specs.ChangeList.{ChangeList, IsChangeList}
use Rattle.merge_ranges.specs.declared.name.FileName.{FileName}
use Rattle.merge_ranges.specs.Cut.{IsCut, end_of}
use Rattle.merge_ranges.specs.CanonicalNames.{entities, entity_names}
use Rattle.core_machine.specs.declared.machine.Machine.{Machine}
use Rattle.core_machine.specs.declared.machine.Opening.{Opening}
use Rattle.core_machine.specs.Texts.{SameNames, AreAmong, IsInForm, texts_of, has}

-- the list of changes
abbrev pub list_of : Machine → ChangeList
list_of m = record { changes = m.changes; next = m.next; size = m.size }

-- the row is the caller's of this number
abbrev pub is_row : ℕ → ℕ → Opening → Bool
is_row caller number row = (row.caller == caller) && (row.number == number)

abbrev pub has_row : List Opening → ℕ → ℕ → Bool
has_row rows caller number = list_any (is_row caller number) rows

-- the name is in an open row
abbrev pub in_rows : List Opening → List ℕ → Bool
in_rows rows name = list_any (λ (row : Opening). has row.names name) rows

-- no two rows have the same caller and number
abbrev pub AreApart : List Opening → Type 0
AreApart [] = Unit {0}
AreApart (row ∷ rows) = (has_row rows row.caller row.number ≡ false) × AreApart rows

-- the names of these entities, each over a cut of its own
abbrev pub names_by_cut : List Entity → (Entity → List Range) → List FileName
names_by_cut [] cuts = []
names_by_cut (e ∷ es) cuts = entity_names e (cuts e) ++ names_by_cut es cuts

-- the names are whole groups of one cut per entity, all with one end
pub record AreWholeGroups (names : List (List ℕ)) : Type 0 where
  pub cuts : Entity → List Range
  pub end : ℕ
  pub cut : (e : Entity) → IsCut (cuts e)
  pub ends : (e : Entity) → end_of (cuts e) ≡ end
  pub are : SameNames names (texts_of (names_by_cut entities cuts))

-- all lists of names have their form
pub record AreInForm (m : Machine) : Type 0 where
  pub present : IsInForm m.present
  pub visible : IsInForm m.visible
  pub rows : All (λ (row : Opening). IsInForm row.names) m.opened

pub record IsSound (m : Machine) : Type 0 where
  pub list : IsChangeList (list_of m)
  pub apart : AreApart m.opened
  pub groups : AreWholeGroups m.visible
  pub complete : groups.end * m.size ≤ m.next
  -- what is visible or in an open row is present
  pub visible : AreAmong m.visible m.present
  pub rows : All (λ (row : Opening). AreAmong row.names m.present) m.opened
  pub form : AreInForm m
