-- What contracts see of sets of visible groups.
use Rattle.std.specs.Prelude.{◌≡◌, ℕ, Bool, false, not, ◌&&◌, ◌||◌, nat_lt, List, map, find, Option, Some, None}
use Rattle.agg_model.specs.declared.entity.Entity.{Entity}
use Rattle.agg_model.specs.declared.entity.Range.{Range}
use Rattle.merge_ranges.specs.declared.name.FileName.{FileName}
use Rattle.merge_ranges.specs.declared.name.DiskName.{DiskName}
use Rattle.visible_files.specs.declared.ids.GroupId.{GroupId}
use Rattle.visible_files.specs.declared.held.HeldGroup.{HeldGroup}
use Rattle.visible_files.specs.Ids.{id_with, IsSet, Ascends, Replaces}
use Rattle.visible_files.specs.Held.{IsHeld, count_of, is_named, is_retired, first_unpinned}
use Rattle.visible_files.specs.Strays.{disk_places, is_stray}

-- a set: its groups in order, what tells them apart, and the step at which all cuts end
pub record SetOf (G : Type 0) : Type 0 where
  pub groups : List G
  pub ids : List GroupId
  pub end : ℕ

-- what holds of every set
pub record IsFileSet {G : Type 0} (entity : G → Entity) (range : G → Range)
    (groups : List G) (ids : List GroupId) (end : ℕ) : Type 0 where
  pub same : ids ≡ map (id_with entity range) groups
  pub set : IsSet ids end

-- the groups of the set that was current, and the set that is to be
pub record NextSet (G : Type 0) : Type 0 where
  pub before : List G
  pub set : SetOf G

-- the current set, the groups that are held with their pins and retired names, the strays, and the room for names
pub record SetsOf (G : Type 0) : Type 0 where
  pub current : SetOf G
  pub held : List HeldGroup
  pub strays : List DiskName
  pub spare : ℕ

-- what holds of the parts of all sets
pub record AreSets {G : Type 0} (entity : G → Entity) (range : G → Range)
    (current : SetOf G) (held : List HeldGroup) (strays : List DiskName) : Type 0 where
  pub of_current : IsFileSet entity range current.groups current.ids current.end
  pub of_held : IsHeld current.ids held
  pub of_strays : Ascends 0 (disk_places strays)

-- what holds of a set and of the one that is to follow it
pub record AreNext {G : Type 0} (entity : G → Entity) (range : G → Range) (before set : SetOf G) : Type 0 where
  pub of_before : IsFileSet entity range before.groups before.ids before.end
  pub of_set : IsFileSet entity range set.groups set.ids set.end
  pub replaces : Replaces before.ids set.ids

-- visible or pinned
abbrev pub is_seen : List GroupId → List HeldGroup → FileName → Bool
is_seen ids held n = is_named ids n || nat_lt 0 (count_of held n)

-- a name that nobody sees; a temporary one is never seen
abbrev pub is_loose : List GroupId → List HeldGroup → DiskName → Bool
is_loose ids held d = d.temp || not (is_seen ids held d.name)

-- retired, or a stray
abbrev pub is_noted : List HeldGroup → List DiskName → DiskName → Bool
is_noted held strays d = (not d.temp && is_retired held d.name) || is_stray strays d

abbrev pub or_stray : Option FileName → Option DiskName → Option DiskName
or_stray None d = d
or_stray (Some n) d = Some (record { name = n; temp = false })

-- the first retired name that isn't pinned, or else the first stray that is neither visible nor pinned
abbrev pub first_to_drop : List GroupId → List HeldGroup → List DiskName → Option DiskName
first_to_drop ids held strays = or_stray (first_unpinned held) (find (is_loose ids held) strays)
