-- What a disk holds of a list's files, name by name.
use Rattle.std.specs.Prelude.{◌≡◌, ◌≢◌, ◌⊎◌, ℕ, ◌*◌, ◌<◌, ◌≤◌, List, All, Contains, true}
use Rattle.std.specs.Prelude.{Option, Some, None, IfSome, IfNone, IsSomeAnd, IsTrue, is_some}
use Rattle.std.specs.FinMap.{get, insert, remove}
use Rattle.agg_outside.specs.Files.{Files, SameElsewhere}
use Rattle.agg_model.specs.declared.entity.Entity.{Entity}
use Rattle.agg_model.specs.declared.entity.Range.{Range}
use Rattle.agg_model.specs.declared.entity.FileKind.{FileKind}
use Rattle.agg_model.specs.ChangeList.{ChangeList}
use Rattle.merge_ranges.specs.declared.name.FileName.{FileName}
use Rattle.merge_ranges.specs.Name.{is_name, spelled, spelled_on_disk}
use Rattle.agg_core.specs.Names.{is_built, written_names}
use Rattle.agg_core.specs.Bytes.{file_bytes}

-- the name under which a file is written
abbrev pub temporary_of : FileName → List ℕ
temporary_of name = spelled_on_disk (record { name = name; temp = true })

-- what is left of a file that is written under a temporary name and then moved: no other file than that
-- of the temporary name was touched, or the file has its name, whole
abbrev pub LeftBy : List ℕ → List ℕ → List ℕ → Files → Files → Type 0
LeftBy temporary name bytes old new = SameElsewhere temporary old new ⊎ (new ≡ insert (remove old temporary) name bytes)

-- a file of this name may stand beside the list: its entity has this kind, and its steps are complete
pub record MayStand (list : ChangeList) (name : FileName) : Type 0 where
  pub built : IsTrue (is_built name.entity name.kind)
  pub complete : name.range.to * list.size ≤ list.next

-- it is neither the name of a file nor a temporary one
pub record IsOutside (text : List ℕ) : Type 0 where
  pub no_file : (name : FileName) → IsTrue (is_name name) → text ≢ spelled name
  pub no_temporary : (name : FileName) → IsTrue (is_name name) → text ≢ temporary_of name

-- every name outside the grammar is as it was
abbrev pub AreOutsideSame : Files → Files → Type 0
AreOutsideSame before after = (text : List ℕ) → IsOutside text → get after text ≡ get before text

-- The same of a disk that may tell what it holds: if it told before, it tells after; if it didn't, it
-- doesn't.
pub record SameOutside (before after : Option Files) : Type 0 where
  pub told : IfSome before (λ f. IsSomeAnd after (AreOutsideSame f))
  pub silent : IfNone before (after ≡ None)

-- the file has the list's bytes
abbrev pub HasFile : ChangeList → Files → FileName → Type 0
HasFile list now name = get now (spelled name) ≡ Some (file_bytes list name)

-- of the grammar there are these files of the list alone, and no temporary name
pub record HasExactly (list : ChangeList) (names : List FileName) (now : Files) : Type 0 where
  pub stand : All (HasFile list now) names
  pub only : (name : FileName) → IsTrue (is_name name) → IfSome (get now (spelled name)) (λ _. Contains names name)
  pub no_temporary : (name : FileName) → IsTrue (is_name name) → get now (temporary_of name) ≡ None

-- the files of the list are there, and of the grammar nothing else
abbrev pub HasWritten : ChangeList → Files → Type 0
HasWritten list now = HasExactly list (written_names list) now

-- a file of the list with these bytes may stand under the name
abbrev pub IsFileOf : ChangeList → FileName → List ℕ → Type 0
IsFileOf list name bytes = (bytes ≡ file_bytes list name) × MayStand list name

-- a temporary name may be left of a file that may stand and isn't there
abbrev pub MayBeLeft : ChangeList → FileName → Files → Type 0
MayBeLeft list name now = MayStand list name × (get now (spelled name) ≡ None)

-- Of the grammar there are files of the list alone, each with its bytes, and temporary names of such
-- files alone that aren't there themselves.
pub record KeepsNamed (list : ChangeList) (now : Files) : Type 0 where
  pub named : (name : FileName) → IsTrue (is_name name) → IfSome (get now (spelled name)) (IsFileOf list name)
  pub temporary : (name : FileName) → IsTrue (is_name name) →
      IfSome (get now (temporary_of name)) (λ _. MayBeLeft list name now)

-- a file of this entity and kind that is there is over the step
pub record IsCovered (now : Files) (e : Entity) (k : FileKind) (step : ℕ) : Type 0 where
  pub range : Range
  pub from : range.from ≤ step
  pub to : step < range.to
  pub name : IsTrue (is_name (record { entity = e; range = range; kind = k }))
  pub there : is_some (get now (spelled (record { entity = e; range = range; kind = k }))) ≡ true

-- each of the first steps is covered by files that are there, of every kind that its entity has
abbrev pub Covers : ℕ → Files → Type 0
Covers steps now =
    (e : Entity) (k : FileKind) (step : ℕ) → IsTrue (is_built e k) → step < steps → IsCovered now e k step
