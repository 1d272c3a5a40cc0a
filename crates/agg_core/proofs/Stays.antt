-- Later changes leave the files of complete steps alone.
use Rattle.std.proofs.Common.{◌≡◌, ℕ, ◌*◌, ◌≤◌, List, ◌++◌, All, ap, arith}
use Rattle.agg_model.specs.declared.change.Change.{Change}
use Rattle.agg_model.specs.declared.entity.Entity.{Entity}
use Rattle.agg_model.specs.declared.entity.Range.{Range}
use Rattle.agg_model.specs.declared.entity.FileKind.{FileKind}
use Rattle.agg_model.specs.declared.entity.FileKind.TheVariants.{Kv, Bt, Kvi, V, Vi, Ef, Efi}
use Rattle.agg_model.specs.ChangeList.{ChangeList, grown}
use Rattle.agg_model.proofs.ContentsLaws.{kv_contents-later, v_contents-later, ef_contents-later}
use Rattle.domain_core.specs.KvFile.{kv_tag, tagged_pairs, bt_spelling, kvi_spelling, bt_file_bytes, kvi_file_bytes}
use Rattle.domain_core.proofs.KvFileLaws.{kv_file_bytes-later}
use Rattle.history_core.specs.VFile.{v_tag, tagged_befores, v_spelling, vi_spelling, v_file_bytes, vi_file_bytes}
use Rattle.inverted_index.specs.EfFile.{ef_tag, tagged_lists, ef_spelling, efi_spelling, ef_file_bytes, efi_file_bytes}
use Rattle.merge_ranges.specs.declared.name.FileName.{FileName}
use Rattle.agg_core.specs.Bytes.{bytes_of_kind, file_bytes}
use Rattle.agg_core.specs.Files.{MayStand}

late : (list : ChangeList) (batch : List Change) (to : ℕ) → All (λ d. list.next ≤ d.tx) batch → to * list.size ≤ list.next → All (λ d. to * list.size ≤ d.tx) batch
late list batch to all complete = λ i z below. after (all i z below)
  where
    after : {t : ℕ} → list.next ≤ t → to * list.size ≤ t
    after k = omega (arith, k, complete)

bt-later : (size : ℕ) (cs ds : List Change) (e : Entity) (from to : ℕ) → All (λ d. to * size ≤ d.tx) ds → bt_file_bytes size (cs ++ ds) e from to ≡ bt_file_bytes size cs e from to
unfolding bt_file_bytes
bt-later size cs ds e from to late =
    ap (λ x. bt_spelling (tagged_pairs (kv_tag e size from to) x)) (kv_contents-later size cs ds e from to late)

kvi-later : (size : ℕ) (cs ds : List Change) (e : Entity) (from to : ℕ) → All (λ d. to * size ≤ d.tx) ds → kvi_file_bytes size (cs ++ ds) e from to ≡ kvi_file_bytes size cs e from to
unfolding kvi_file_bytes
kvi-later size cs ds e from to late =
    ap (λ x. kvi_spelling (tagged_pairs (kv_tag e size from to) x)) (kv_contents-later size cs ds e from to late)

v-later : (size : ℕ) (cs ds : List Change) (e : Entity) (from to : ℕ) → All (λ d. to * size ≤ d.tx) ds → v_file_bytes size (cs ++ ds) e from to ≡ v_file_bytes size cs e from to
unfolding v_file_bytes
v-later size cs ds e from to late =
    ap (λ x. v_spelling (tagged_befores (v_tag e size from to) x)) (v_contents-later size cs ds e from to late)

vi-later : (size : ℕ) (cs ds : List Change) (e : Entity) (from to : ℕ) → All (λ d. to * size ≤ d.tx) ds → vi_file_bytes size (cs ++ ds) e from to ≡ vi_file_bytes size cs e from to
unfolding vi_file_bytes
vi-later size cs ds e from to late =
    ap (λ x. vi_spelling (tagged_befores (v_tag e size from to) x)) (v_contents-later size cs ds e from to late)

ef-later : (size : ℕ) (cs ds : List Change) (e : Entity) (from to : ℕ) → All (λ d. to * size ≤ d.tx) ds → ef_file_bytes size (cs ++ ds) e from to ≡ ef_file_bytes size cs e from to
unfolding ef_file_bytes
ef-later size cs ds e from to late =
    ap (λ x. ef_spelling (tagged_lists (ef_tag e size from to) x)) (ef_contents-later size cs ds e from to late)

efi-later : (size : ℕ) (cs ds : List Change) (e : Entity) (from to : ℕ) → All (λ d. to * size ≤ d.tx) ds → efi_file_bytes size (cs ++ ds) e from to ≡ efi_file_bytes size cs e from to
unfolding efi_file_bytes
efi-later size cs ds e from to late =
    ap (λ x. efi_spelling (tagged_lists (ef_tag e size from to) x)) (ef_contents-later size cs ds e from to late)

pub bytes_of_kind-later : (k : FileKind) (list : ChangeList) (batch : List Change) (e : Entity) (r : Range) → All (λ d. list.next ≤ d.tx) batch → r.to * list.size ≤ list.next → bytes_of_kind k (grown list batch) e r ≡ bytes_of_kind k list e r
bytes_of_kind-later Kv list batch e r all complete = kv_file_bytes-later list.size list.changes batch e r.from r.to (late list batch r.to all complete)
bytes_of_kind-later Bt list batch e r all complete = bt-later list.size list.changes batch e r.from r.to (late list batch r.to all complete)
bytes_of_kind-later Kvi list batch e r all complete = kvi-later list.size list.changes batch e r.from r.to (late list batch r.to all complete)
bytes_of_kind-later V list batch e r all complete = v-later list.size list.changes batch e r.from r.to (late list batch r.to all complete)
bytes_of_kind-later Vi list batch e r all complete = vi-later list.size list.changes batch e r.from r.to (late list batch r.to all complete)
bytes_of_kind-later Ef list batch e r all complete = ef-later list.size list.changes batch e r.from r.to (late list batch r.to all complete)
bytes_of_kind-later Efi list batch e r all complete = efi-later list.size list.changes batch e r.from r.to (late list batch r.to all complete)

-- the bytes of a name of complete steps, of whatever kind
pub file_bytes-later : (list : ChangeList) (batch : List Change) (name : FileName) → All (λ d. list.next ≤ d.tx) batch → name.range.to * list.size ≤ list.next → file_bytes (grown list batch) name ≡ file_bytes list name
unfolding file_bytes
file_bytes-later list batch name all complete = bytes_of_kind-later name.kind list batch name.entity name.range all complete

pub file_bytes-stays : (list : ChangeList) (batch : List Change) (name : FileName) → All (λ d. list.next ≤ d.tx) batch → MayStand list name → file_bytes (grown list batch) name ≡ file_bytes list name
unfolding file_bytes
file_bytes-stays list batch name all may = bytes_of_kind-later name.kind list batch name.entity name.range all may.complete
