-- Laws of the bytes of files.
use Rattle.std.specs.Prelude.{◌≡◌, ℕ, ◌*◌, ◌≤◌, List, ◌++◌, All}
use Rattle.std.proofs.Common.{ap}
use Rattle.agg_model.specs.declared.entity.Entity.{Entity}
use Rattle.agg_model.specs.declared.change.Change.{Change}
use Rattle.agg_model.specs.Contents.{kv_contents}
use Rattle.agg_model.proofs.ContentsLaws.{kv_contents-later}
use Rattle.domain_core.specs.KvFile.{TaggedPairs, tagged_pairs, kv_tag, kv_spelling, bt_spelling, kvi_spelling, kv_file_of, kv_file_bytes, bt_file_bytes, kvi_file_bytes}

-- a file with the contents has the bytes
pub kv_file_bytes-of : (size : ℕ) (changes : List Change) (e : Entity) (from to : ℕ) (file : TaggedPairs) → file ≡ tagged_pairs (kv_tag e size from to) (kv_contents size changes e from to) → kv_spelling file ≡ kv_file_bytes size changes e from to
unfolding kv_file_bytes
kv_file_bytes-of size changes e from to file is = ap kv_spelling is

-- later changes leave files alone
pub kv_file_bytes-later : (size : ℕ) (cs ds : List Change) (e : Entity) (from to : ℕ) → All (λ d. to * size ≤ d.tx) ds → kv_file_bytes size (cs ++ ds) e from to ≡ kv_file_bytes size cs e from to
unfolding kv_file_bytes
kv_file_bytes-later size cs ds e from to late =
    ap (λ pairs. kv_spelling (tagged_pairs (kv_tag e size from to) pairs)) (kv_contents-later size cs ds e from to late)

-- ---- the same of the accessors

pub bt_file_bytes-of : (size : ℕ) (changes : List Change) (e : Entity) (from to : ℕ) (file : TaggedPairs) → file ≡ kv_file_of size changes e from to → bt_spelling file ≡ bt_file_bytes size changes e from to
unfolding bt_file_bytes
bt_file_bytes-of size changes e from to file is = ap bt_spelling is

pub kvi_file_bytes-of : (size : ℕ) (changes : List Change) (e : Entity) (from to : ℕ) (file : TaggedPairs) → file ≡ kv_file_of size changes e from to → kvi_spelling file ≡ kvi_file_bytes size changes e from to
unfolding kvi_file_bytes
kvi_file_bytes-of size changes e from to file is = ap kvi_spelling is

pub bt_file_bytes-later : (size : ℕ) (cs ds : List Change) (e : Entity) (from to : ℕ) → All (λ d. to * size ≤ d.tx) ds → bt_file_bytes size (cs ++ ds) e from to ≡ bt_file_bytes size cs e from to
unfolding bt_file_bytes
bt_file_bytes-later size cs ds e from to late =
    ap (λ pairs. bt_spelling (tagged_pairs (kv_tag e size from to) pairs)) (kv_contents-later size cs ds e from to late)

pub kvi_file_bytes-later : (size : ℕ) (cs ds : List Change) (e : Entity) (from to : ℕ) → All (λ d. to * size ≤ d.tx) ds → kvi_file_bytes size (cs ++ ds) e from to ≡ kvi_file_bytes size cs e from to
unfolding kvi_file_bytes
kvi_file_bytes-later size cs ds e from to late =
    ap (λ pairs. kvi_spelling (tagged_pairs (kv_tag e size from to) pairs)) (kv_contents-later size cs ds e from to late)
