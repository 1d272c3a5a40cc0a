-- Where a hash leads in the bits of nodes.
use Rattle.std.specs.Prelude.{◌≡◌, ℕ, ◌<◌, ◌≤◌, ◌^◌, Bool, List, length, slice_get, Some}
use Rattle.std.specs.List.{AllByRecursion}
use Rattle.bit_store.specs.Rice.{StandsAt}
use Rattle.recsplit_index.specs.declared.keys.HashedKey.{HashedKey}
use Rattle.recsplit_index.specs.Nodes.{Node, node}
use Rattle.file_numbers.specs.Lists.{AreNumbers}
use Rattle.recsplit_index.specs.Spelling.{spelling, IsSpelled}
use Rattle.recsplit_index.specs.Keys.{by_key}
use Rattle.recsplit_index.specs.Index.{nodes_of, split_index, plain_index}

-- the bits have the node of these keys at a place
pub record IsNodeAt (bits : List Bool) (at depth : ℕ) (keys : List HashedKey) (n : Node) : Type 0 where
  pub splits : ℕ
  pub tries : ℕ
  pub enough : length keys ≤ splits
  pub few : tries ≤ 2 ^ 16
  pub node_is : node splits tries depth keys ≡ Some n
  pub stands : StandsAt bits at n.bits

-- a node of `size` keys
pub record HasNode (bits : List Bool) (at depth size : ℕ) : Type 0 where
  pub keys : List HashedKey
  pub built : Node
  pub size_is : size ≡ length keys
  pub there : IsNodeAt bits at depth keys built

-- a key of this hash is the one in the slot
pub record IsSlotOf (hash slot : ℕ) (keys slots : List HashedKey) : Type 0 where
  pub within : slot < length keys
  pub only : AllByRecursion (λ key. key.hash ≡ hash → slice_get slots slot ≡ Some key) keys

-- the bytes are form 1 over these keys, with these numbers of starts, offsets and bits
pub record IsSplitOver (keys : List HashedKey) (starts count bits : ℕ) (bytes : List ℕ) : Type 0 where
  pub tries : ℕ
  pub few : tries ≤ 2 ^ 16
  pub nodes : List Node
  pub nodes_are : nodes_of tries keys ≡ Some nodes
  pub salt : ℕ
  pub spelled : IsSpelled (split_index salt nodes) 1 salt starts count bits bytes

-- the bytes are form 0 over these words
pub record IsPlainOver (words : List (List ℕ)) (count : ℕ) (bytes : List ℕ) : Type 0 where
  pub counted : count ≡ length (by_key words)
  pub fit : AreNumbers (plain_index words).offsets
  pub spelled : bytes ≡ spelling (plain_index words)

-- a key stands at this offset, and a key of this hash is that one
pub record IsOnly (hash offset : ℕ) (keys : List HashedKey) : Type 0 where
  pub place : ℕ
  pub key : HashedKey
  pub key_is : slice_get keys place ≡ Some key
  pub offset_is : offset ≡ key.offset
  pub only : AllByRecursion (λ other. other.hash ≡ hash → other ≡ key) keys

-- no key has this hash
abbrev pub HasNone : ℕ → List HashedKey → Type 0
HasNone hash keys = AllByRecursion (λ key. key.hash ≡ hash → ⊥) keys
