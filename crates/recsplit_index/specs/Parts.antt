-- The nodes of groups of keys, each held by itself.
use Rattle.std.specs.Prelude.{◌≡◌, ℕ, Bool, List, [], ◌∷◌, ◌++◌, length, map, Option, Some, None}
use Rattle.std.specs.Option.{option_map, option_and_then}
use Rattle.recsplit_index.specs.declared.keys.HashedKey.{HashedKey}
use Rattle.recsplit_index.specs.declared.nodes.Parts.{Parts}
use Rattle.recsplit_index.specs.Nodes.{Node, node, offsets_of}

-- the nodes of the groups, where each has one
unfoldable pub nodes_in : ℕ → List (List HashedKey) → Option (List Node)
nodes_in tries [] = Some []
nodes_in tries (g ∷ gs) = option_and_then (λ here. option_map (λ rest. here ∷ rest) (nodes_in tries gs)) (node (length g) tries 0 g)

-- the nodes of two lists of groups, where both have all
abbrev pub both_nodes : Option (List Node) → Option (List Node) → Option (List Node)
both_nodes xs ys = option_and_then (λ front. option_map (λ behind. front ++ behind) ys) xs

-- the part holds the node
abbrev pub IsPart : Option Parts → Option Node → Type 0
IsPart None None = Unit {0}
IsPart (Some p) (Some n) = (p.codes ≡ n.bits) × (p.offsets.items ≡ offsets_of n.slots)
IsPart None (Some n) = ⊥
IsPart (Some p) None = ⊥

-- the codes and offsets of each part, and of each node
abbrev pub what_are_held : List Parts → List (List Bool × List ℕ)
what_are_held parts = map (λ p. (p.codes, p.offsets.items)) parts

abbrev pub what_are_of : List Node → List (List Bool × List ℕ)
what_are_of nodes = map (λ n. (n.bits, offsets_of n.slots)) nodes

-- the parts hold the nodes, where there are all
abbrev pub AreParts : Option (List Parts) → Option (List Node) → Type 0
AreParts None None = Unit {0}
AreParts (Some parts) (Some nodes) = what_are_held parts ≡ what_are_of nodes
AreParts None (Some nodes) = ⊥
AreParts (Some parts) None = ⊥
