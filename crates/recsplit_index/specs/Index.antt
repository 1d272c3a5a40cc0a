-- The accessor of a list of words.
use Rattle.std.specs.Prelude.{◌≡◌, ℕ, zero, suc, ◌+◌, ◌≤◌, ◌^◌, Bool, ◌==◌, List, [], ◌∷◌, length, map, Option, Some, None}
use Rattle.std.specs.Option.{option_map, option_and_then}
use Rattle.std.specs.List.{filter, flat_map}
use Rattle.std.specs.Int.{div_ceil}
use Rattle.recsplit_index.specs.declared.keys.HashedKey.{HashedKey}
use Rattle.recsplit_index.specs.declared.buckets.Built.{Built}
use Rattle.recsplit_index.specs.Hash.{scaled}
use Rattle.recsplit_index.specs.Keys.{hashed_keys, by_key}
use Rattle.recsplit_index.specs.Nodes.{Node, node, offsets_of}
use Rattle.recsplit_index.specs.Spelling.{Index}

-- the least number of buckets of which each could have 100 keys
abbrev pub bucket_count : ℕ → ℕ
bucket_count keys = div_ceil keys 100

-- the keys of bucket b, as they stand in the file
unfoldable pub bucket_keys : ℕ → List HashedKey → ℕ → List HashedKey
bucket_keys buckets keys b = filter (λ key. scaled key.hash buckets == b) keys

abbrev pub bucket_node : ℕ → ℕ → List HashedKey → ℕ → Option Node
bucket_node tries buckets keys b = node (length (bucket_keys buckets keys b)) tries 0 (bucket_keys buckets keys b)

-- the nodes of the buckets from b on, where each node has its seed
unfoldable pub nodes_from : ℕ → ℕ → List HashedKey → ℕ → ℕ → Option (List Node)
nodes_from tries buckets keys zero b = Some []
nodes_from tries buckets keys (suc more) b = option_and_then (λ here. option_map (λ rest. here ∷ rest) (nodes_from tries buckets keys more (b + 1))) (bucket_node tries buckets keys b)

-- all of them
unfoldable pub nodes_of : ℕ → List HashedKey → Option (List Node)
nodes_of tries keys = nodes_from tries (bucket_count (length keys)) keys (bucket_count (length keys)) 0

-- for each node, and once for the end, the number of keys and of bits before it
unfoldable pub starts_from : ℕ → ℕ → List Node → List ℕ
starts_from keys bits [] = keys ∷ bits ∷ []
starts_from keys bits (n ∷ ns) = keys ∷ bits ∷ starts_from (keys + length n.slots) (bits + length n.bits) ns

abbrev pub slots_of : List Node → List HashedKey
slots_of nodes = flat_map (λ n. n.slots) nodes

abbrev pub bits_of_nodes : List Node → List Bool
bits_of_nodes nodes = flat_map (λ n. n.bits) nodes

-- form 1
unfoldable pub split_index : ℕ → List Node → Index
split_index salt nodes = record { form = 1; salt = salt; starts = starts_from 0 0 nodes; offsets = offsets_of (slots_of nodes); bits = bits_of_nodes nodes }

-- form 0
unfoldable pub plain_index : List (List ℕ) → Index
plain_index words = record { form = 0; salt = 0; starts = []; offsets = map (λ entry. entry.1) (by_key words); bits = [] }

-- the nodes make the accessor, where there are nodes
abbrev pub or_else : ℕ → Option (List Node) → Index → Index
or_else salt None other = other
or_else salt (Some nodes) other = split_index salt nodes

-- of the salts from this one on, as many as the count says, by the first under which each node has its seed
unfoldable pub index_from : ℕ → List (List ℕ) → ℕ → ℕ → Index
index_from tries words zero salt = plain_index words
index_from tries words (suc more) salt = or_else salt (nodes_of tries (hashed_keys salt words)) (index_from tries words more (salt + 1))

-- the accessor of the words, where each seed is looked for below this limit
unfoldable pub index_of : ℕ → List (List ℕ) → Index
index_of tries words = index_from tries words 8 0

-- the accessor of the words under some limit
abbrev pub IsIndexOf : List (List ℕ) → Index → Type 0
IsIndexOf words x = (tries : ℕ) × (tries ≤ 2 ^ 16) × (x ≡ index_of tries words)

-- what is built holds these nodes
pub record Holds (b : Built) (nodes : List Node) : Type 0 where
  pub starts_are : b.starts.items ≡ starts_from 0 0 nodes
  pub offsets_are : b.parts.offsets.items ≡ offsets_of (slots_of nodes)
  pub codes_are : b.parts.codes ≡ bits_of_nodes nodes

abbrev pub HoldsAll : Option Built → Option (List Node) → Type 0
HoldsAll None None = Unit {0}
HoldsAll (Some b) (Some nodes) = Holds b nodes
HoldsAll None (Some nodes) = ⊥
HoldsAll (Some b) None = ⊥
