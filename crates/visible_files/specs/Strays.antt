-- Stray names, in order and without repeats.
use Rattle.std.specs.Prelude.{ℕ, ◌+◌, ◌*◌, Bool, true, false, ◌==◌, ◌&&◌, ◌||◌, not, nat_lt, List, map}
use Rattle.std.specs.List.{list_any}
use Rattle.merge_ranges.specs.Kind.{kind_number}
use Rattle.merge_ranges.specs.declared.name.DiskName.{DiskName}
use Rattle.visible_files.specs.Ids.{place}
use Rattle.visible_files.specs.Held.{id_of_name, same_file, is_shown_name, count_of}
use Rattle.visible_files.specs.declared.held.HeldGroup.{HeldGroup}

abbrev pub bit : Bool → ℕ
bit true = 1
bit false = 0

unfoldable pub same_disk_name : DiskName → DiskName → Bool
same_disk_name a b = same_file a.name b.name && (bit a.temp == bit b.temp)

-- by the group, then by the kind, and a file before its temporary one
unfoldable pub disk_place : DiskName → ℕ
disk_place d = (place (id_of_name d.name) * 8 + kind_number d.name.kind) * 2 + bit d.temp

abbrev pub disk_places : List DiskName → List ℕ
disk_places ds = map disk_place ds

abbrev pub is_stray : List DiskName → DiskName → Bool
is_stray strays d = list_any (λ s. same_disk_name s d) strays

-- nobody sees the name, by the held groups; a temporary one is never seen
abbrev pub is_loose_among : List HeldGroup → DiskName → Bool
is_loose_among held d = d.temp || not (is_shown_name held d.name || nat_lt 0 (count_of held d.name))
