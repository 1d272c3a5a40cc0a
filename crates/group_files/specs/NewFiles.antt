-- Files that are written one after the other, each under a temporary name and then renamed.
use Rattle.std.specs.Prelude.{◌≡◌, ◌≢◌, ℕ, List, [], ◌∷◌, ◌++◌, drop, map, All, AllPairs, Option, Some, None}
use Rattle.std.specs.Option.{option_map_or}
use Rattle.std.specs.FinMap.{get, insert, remove}
use Rattle.agg_outside.specs.Files.{Files}
use Rattle.agg_model.specs.ChangeList.{ChangeList}
use Rattle.agg_model.specs.declared.entity.FileKind.{FileKind}
use Rattle.merge_ranges.specs.declared.name.FileName.{FileName}
use Rattle.merge_ranges.specs.Name.{spelled}
use Rattle.merge_ranges.specs.CanonicalNames.{kinds, group_names}
use Rattle.collate_step.specs.Groups.{GroupFiles, bytes_of}
use Rattle.agg_core.specs.Bytes.{file_bytes}
use Rattle.agg_core.specs.Files.{temporary_of}

-- a file that is to be written
pub record NewFile : Type 0 where
  pub name : FileName
  pub bytes : List ℕ

-- the name of the file of a group of this kind
abbrev pub name_of : GroupFiles → FileKind → FileName
name_of g k = record { entity = g.entity; range = g.range; kind = k }

-- what each of these is made of, one after the other
abbrev pub all_of : {Z : Type 0} → (Z → List NewFile) → List Z → List NewFile
all_of piece [] = []
all_of piece (z ∷ zs) = piece z ++ all_of piece zs

-- the file of a group of this kind, where its entity has one
abbrev pub file_of_kind : GroupFiles → FileKind → List NewFile
file_of_kind g k =
    option_map_or (λ bytes. record { name = name_of g k; bytes = bytes } ∷ []) (bytes_of g k) []

-- the files of a group, in the order of kinds
abbrev pub files_of : GroupFiles → List NewFile
files_of g = all_of (file_of_kind g) kinds

-- the files of groups, in their order
abbrev pub files_of_groups : List GroupFiles → List NewFile
files_of_groups groups = all_of files_of groups

abbrev pub new_names : List NewFile → List FileName
new_names files = map (λ n. n.name) files

-- the names of groups, in their order
abbrev pub names_for : List GroupFiles → List FileName
names_for [] = []
names_for (g ∷ gs) = group_names g.entity g.range ++ names_for gs

-- ---- what a disk holds of them

-- the file has its name, and no temporary one
abbrev pub put : NewFile → Files → Files
put n files = insert (remove files (temporary_of n.name)) (spelled n.name) n.bytes

-- all of them were written, one after the other
abbrev pub with_files : List NewFile → Files → Files
with_files [] files = files
with_files (n ∷ ns) files = with_files ns (put n files)

-- no two have one name
abbrev pub AreApart : List NewFile → Type 0
AreApart new = AllPairs (λ a b. spelled a.name ≢ spelled b.name) new

abbrev pub HasBytes : Files → NewFile → Type 0
HasBytes now n = get now (spelled n.name) ≡ Some n.bytes

abbrev pub HasNoTemporary : Files → NewFile → Type 0
HasNoTemporary now n = get now (temporary_of n.name) ≡ None

abbrev pub IsOtherThan : List ℕ → NewFile → Type 0
IsOtherThan text n = (text ≢ spelled n.name) × (text ≢ temporary_of n.name)

-- it is neither the name of one of these files nor its temporary one
abbrev pub IsOther : List NewFile → List ℕ → Type 0
IsOther new text = All (IsOtherThan text) new

-- the name is as it was
abbrev pub IsSame : Files → Files → List ℕ → Type 0
IsSame old now text = get now text ≡ get old text

-- it isn't the temporary name of the first of these
abbrev pub IsNotFirst : List NewFile → List ℕ → Type 0
IsNotFirst [] text = Unit {0}
IsNotFirst (n ∷ ns) text = text ≢ temporary_of n.name

-- those that are done were written, and of the others at most the temporary name of the first was touched
pub record IsStopped (new : List NewFile) (old now : Files) : Type 0 where
  pub done : List NewFile
  pub rest : List NewFile
  pub parts : new ≡ done ++ rest
  pub left : (text : List ℕ) → IsNotFirst rest text → IsSame (with_files done old) now text

-- all are there, each with its bytes, no temporary name of theirs is, and every other name is as it was
pub record ArePublished (new : List NewFile) (old now : Files) : Type 0 where
  pub whole : AreApart new → All (HasBytes now) new
  pub cleared : All (HasNoTemporary now) new
  pub others : (text : List ℕ) → IsOther new text → IsSame old now text

-- Those that are done are there, each with its bytes and with no temporary name. The others are as they were, and of
-- their temporary names all but that of the first. Every other name is as it was.
pub record ArePartlyPublished (new : List NewFile) (old now : Files) : Type 0 where
  pub done : List NewFile
  pub rest : List NewFile
  pub parts : new ≡ done ++ rest
  pub whole : AreApart new → All (HasBytes now) done
  pub cleared : AreApart new → All (HasNoTemporary now) done
  pub untouched : AreApart new → All (λ n. IsSame old now (spelled n.name)) rest
  pub waiting : AreApart new → All (λ n. IsSame old now (temporary_of n.name)) (drop 1 rest)
  pub others : (text : List ℕ) → IsOther new text → IsSame old now text

-- the file has the bytes of the list's file of its name
abbrev pub IsOfList : ChangeList → NewFile → Type 0
IsOfList list n = n.bytes ≡ file_bytes list n.name
