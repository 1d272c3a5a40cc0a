-- The bytes of a named file, as one function of the list.
use Rattle.std.specs.Prelude.{ℕ, List}
use Rattle.agg_model.specs.declared.entity.Entity.{Entity}
use Rattle.agg_model.specs.declared.entity.Range.{Range}
use Rattle.agg_model.specs.declared.entity.FileKind.{FileKind}
use Rattle.agg_model.specs.declared.entity.FileKind.TheVariants.{Kv, Bt, Kvi, V, Vi, Ef, Efi}
use Rattle.agg_model.specs.ChangeList.{ChangeList}
use Rattle.merge_ranges.specs.declared.name.FileName.{FileName}
use Rattle.domain_core.specs.KvFile.{kv_file_bytes, bt_file_bytes, kvi_file_bytes}
use Rattle.history_core.specs.VFile.{v_file_bytes, vi_file_bytes}
use Rattle.inverted_index.specs.EfFile.{ef_file_bytes, efi_file_bytes}

-- the bytes of a file of this kind
abbrev pub bytes_of_kind : FileKind → ChangeList → Entity → Range → List ℕ
bytes_of_kind Kv list e r = kv_file_bytes list.size list.changes e r.from r.to
bytes_of_kind Bt list e r = bt_file_bytes list.size list.changes e r.from r.to
bytes_of_kind Kvi list e r = kvi_file_bytes list.size list.changes e r.from r.to
bytes_of_kind V list e r = v_file_bytes list.size list.changes e r.from r.to
bytes_of_kind Vi list e r = vi_file_bytes list.size list.changes e r.from r.to
bytes_of_kind Ef list e r = ef_file_bytes list.size list.changes e r.from r.to
bytes_of_kind Efi list e r = efi_file_bytes list.size list.changes e r.from r.to

-- the bytes of a named file
unfoldable pub file_bytes : ChangeList → FileName → List ℕ
file_bytes list name = bytes_of_kind name.kind list name.entity name.range
