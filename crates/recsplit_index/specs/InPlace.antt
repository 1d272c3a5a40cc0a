-- An accessor that is followed through bytes, and never stands beside them.
use Rattle.std.specs.Prelude.{◌≡◌, ℕ, ◌+◌, ◌*◌, ◌≤◌, List, [], ◌∷◌, ◌++◌, length, Option, Some, None}
use Rattle.std.specs.Int.{w32, w64, to_be_bytes}
use Rattle.file_numbers.specs.Lists.{number_bytes, AreNumbers}
use Rattle.word_file.specs.Difference.{first_difference}
use Rattle.recsplit_index.specs.declared.follow.Followed.{Followed}
use Rattle.recsplit_index.specs.declared.compare.Compared.{Compared}
use Rattle.recsplit_index.specs.Spelling.{Index, spelling}
use Rattle.recsplit_index.specs.Layout.{IsShapeOf, Follows, IsWithin}
use Rattle.recsplit_index.specs.Nodes.{Node, offsets_of}
use Rattle.recsplit_index.specs.Index.{starts_from, slots_of, bits_of_nodes}

-- the 16 bytes before the starts
unfoldable pub header : ℕ → ℕ → ℕ → List ℕ
header form salt count = to_be_bytes w32 0x4147_4831 ++ (form ∷ salt ∷ 0 ∷ 0 ∷ []) ++ to_be_bytes w64 count

-- where the offsets stand, behind this many starts
abbrev pub behind : ℕ → ℕ
behind starts = 16 + 8 * starts

-- how far the bytes have the starts and the offsets of these nodes, each in its place; and their bits
pub record FollowsNodes (bytes : List ℕ) (f : Followed) (nodes : List Node) : Type 0 where
  pub starts_within : IsWithin bytes f.starts
  pub offsets_within : IsWithin bytes f.offsets
  pub starts_follow : 16 ≤ length bytes → Follows bytes 16 (number_bytes (starts_from 0 0 nodes)) f.starts
  pub offsets_follow : behind f.table ≤ length bytes → Follows bytes (behind f.table) (number_bytes (offsets_of (slots_of nodes))) f.offsets
  pub table_is : f.table ≡ length (starts_from 0 0 nodes)
  pub count_is : f.count ≡ length (offsets_of (slots_of nodes))
  pub codes_are : f.codes ≡ bits_of_nodes nodes
  pub starts_fit : AreNumbers (starts_from 0 0 nodes)
  pub offsets_fit : AreNumbers (offsets_of (slots_of nodes))

abbrev pub FollowsAll : List ℕ → Option Followed → Option (List Node) → Type 0
FollowsAll bytes None None = Unit {0}
FollowsAll bytes (Some f) (Some nodes) = FollowsNodes bytes f nodes
FollowsAll bytes None (Some nodes) = ⊥
FollowsAll bytes (Some f) None = ⊥

-- how many of each x has, and where the bytes and its spelling differ first
pub record IsCompared (bytes : List ℕ) (c : Compared) (x : Index) : Type 0 where
  pub shape_is : IsShapeOf c.shape x
  pub place_is : c.place ≡ first_difference bytes (spelling x)
