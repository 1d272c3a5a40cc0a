-- The names of files: `v1-ENTITY.FROM-TO.ENDING`, and the same followed by `.tmp` while a file is written.
use Rattle.std.specs.Prelude.{ℕ, Bool, ◌&&◌, ◌||◌, List, ◌∷◌, ◌++◌, codes, decimal, if◌then◌else◌, Option, Some, None}
use Rattle.agg_model.specs.Entity.{entity_name, is_domain_entity}
use Rattle.agg_model.specs.declared.entity.Entity.{Entity}
use Rattle.agg_model.specs.declared.entity.Range.{Range}
use Rattle.agg_model.specs.declared.entity.FileKind.{FileKind}
use Rattle.merge_ranges.specs.declared.name.FileName.{FileName}
use Rattle.merge_ranges.specs.declared.name.DiskName.{DiskName}
use Rattle.merge_ranges.specs.Kind.{ending, is_index_kind}
use Rattle.merge_ranges.specs.Cut.{is_aligned}

-- domains have all kinds, indexes the kinds of numbers
unfoldable pub has_kind : Entity → FileKind → Bool
has_kind e k = is_domain_entity e || is_index_kind k

-- the range is aligned, and the kind belongs to the entity
unfoldable pub is_name : FileName → Bool
is_name n = is_aligned n.range && has_kind n.entity n.kind

-- the bytes of a name
unfoldable pub spelled : FileName → List ℕ
spelled n =
    codes "v1-" ++ entity_name n.entity ++ codes "." ++ decimal n.range.from ++ codes "-" ++ decimal n.range.to
    ++ codes "." ++ ending n.kind

-- the bytes of a name on the disk
unfoldable pub spelled_on_disk : DiskName → List ℕ
spelled_on_disk n = if n.temp then spelled n.name ++ codes ".tmp" else spelled n.name

-- what follows the entity's name and a dot: the range and the ending
abbrev pub range_and_kind : Range → FileKind → List ℕ
range_and_kind r k = decimal r.from ++ 45 ∷ (decimal r.to ++ 46 ∷ ending k)

abbrev pub on_disk_of : Option FileName → Bool → Option DiskName
on_disk_of None temp = None
on_disk_of (Some n) temp = Some (record { name = n; temp = temp })
