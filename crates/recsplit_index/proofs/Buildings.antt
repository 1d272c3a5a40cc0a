-- The nodes of all buckets, one bucket after the other.
use Rattle.std.proofs.Common.{◌≡◌, ℕ, suc, ◌+◌, ◌-◌, ◌<◌, ◌≤◌, Bool, true, false, List, [], ◌∷◌, ◌++◌, length, Option, Some, None, refl, sym, ap, subst, ◌∙◌, append_assoc, arith}
use Rattle.std.specs.Option.{option_map, option_and_then}
use Rattle.std.proofs.lemmas.List.{append-nil, length-append, length-map, map-append}
use Rattle.std.proofs.lemmas.List.Concat.{flat_map-append}
use Rattle.recsplit_index.specs.declared.keys.HashedKey.{HashedKey}
use Rattle.recsplit_index.specs.Nodes.{Node, node, offsets_of, PutsNode}
use Rattle.recsplit_index.specs.Index.{bucket_count, bucket_keys, bucket_node, nodes_from, nodes_of, starts_from, slots_of, bits_of_nodes}

-- the nodes so far, and what is left of them
pub record IsBuilding (tries buckets : ℕ) (keys : List HashedKey) (i : ℕ) (starts : List ℕ) (codes : List Bool) (offsets : List ℕ) : Type 0 where
  pub done : List Node
  pub left : option_map (λ rest. done ++ rest) (nodes_from tries buckets keys (buckets - i) i) ≡ nodes_from tries buckets keys buckets 0
  pub starts_are : (rest : List Node) → starts ++ starts_from (length offsets) (length codes) rest ≡ starts_from 0 0 (done ++ rest)
  pub offsets_are : offsets ≡ offsets_of (slots_of done)
  pub codes_are : codes ≡ bits_of_nodes done

same_map : (o : Option (List Node)) → option_map (λ rest. [] ++ rest) o ≡ o
same_map None = refl
same_map (Some ns) = refl

pub building_none : (tries buckets : ℕ) (keys : List HashedKey) (starts : List ℕ) (codes : List Bool) (offsets : List ℕ) → starts ≡ [] → codes ≡ [] → offsets ≡ [] → IsBuilding tries buckets keys 0 starts codes offsets
building_none tries buckets keys starts codes offsets s c o = record {
  done = [];
  left = let all : buckets - 0 ≡ buckets = omega arith in ap (λ (n : ℕ). option_map (λ rest. [] ++ rest) (nodes_from tries buckets keys n 0)) all ∙ same_map (nodes_from tries buckets keys buckets 0);
  starts_are = λ rest. rw (s, c, o) refl;
  offsets_are = o;
  codes_are = c;
}

map_twice : (done : List Node) (n : Node) (o : Option (List Node)) → option_map (λ rest. (done ++ n ∷ []) ++ rest) o ≡ option_map (λ rest. done ++ rest) (option_map (λ rest. n ∷ rest) o)
map_twice done n None = refl
map_twice done n (Some ns) = ap (λ (l : List Node). Some l) (append_assoc done (n ∷ []) ns)

from_by : (tries buckets : ℕ) (keys : List HashedKey) (more i : ℕ) (o : Option Node) → bucket_node tries buckets keys i ≡ o → nodes_from tries buckets keys (suc more) i ≡ option_and_then (λ here. option_map (λ rest. here ∷ rest) (nodes_from tries buckets keys more (i + 1))) o
unfolding nodes_from
from_by tries buckets keys more i o is = ap (option_and_then (λ here. option_map (λ rest. here ∷ rest) (nodes_from tries buckets keys more (i + 1)))) is

pub placed_some : (o : Option Node) (bits : List Bool) (offsets : List ℕ) (new_bits : List Bool) (new_offsets : List ℕ) → PutsNode true o bits offsets new_bits new_offsets → (n : Node) × (o ≡ Some n) × (new_bits ≡ bits ++ n.bits) × (new_offsets ≡ offsets ++ offsets_of n.slots)
placed_some None bits offsets new_bits new_offsets p = absurd cc
placed_some (Some n) bits offsets new_bits new_offsets p = (n, refl, p.1, p.2)

placed_none : (o : Option Node) (bits : List Bool) (offsets : List ℕ) (new_bits : List Bool) (new_offsets : List ℕ) → PutsNode false o bits offsets new_bits new_offsets → o ≡ None
placed_none None bits offsets new_bits new_offsets p = refl
placed_none (Some n) bits offsets new_bits new_offsets p = absurd cc

pub offsets-append : (xs ys : List HashedKey) → offsets_of (xs ++ ys) ≡ offsets_of xs ++ offsets_of ys
offsets-append xs ys = map-append (λ key. key.offset) xs ys

-- what is put of a group is its bucket's node
pub group_puts : (placed : Bool) (tries buckets i : ℕ) (keys group : List HashedKey) (codes codes2 : List Bool) (offsets offsets2 : List ℕ) → group ≡ bucket_keys buckets keys i → PutsNode placed (node (length group) tries 0 group) codes offsets codes2 offsets2 → PutsNode placed (bucket_node tries buckets keys i) codes offsets codes2 offsets2
group_puts placed tries buckets i keys group codes codes2 offsets offsets2 is puts = subst (λ (g : List HashedKey). PutsNode placed (node (length g) tries 0 g) codes offsets codes2 offsets2) is puts

-- one bucket more
pub building_more : (tries buckets : ℕ) (keys : List HashedKey) (i : ℕ) (starts starts2 : List ℕ) (codes codes2 : List Bool) (offsets offsets2 : List ℕ) → i < buckets → IsBuilding tries buckets keys i starts codes offsets → starts2 ≡ starts ++ (length offsets ∷ length codes ∷ [])
    → PutsNode true (bucket_node tries buckets keys i) codes offsets codes2 offsets2 → IsBuilding tries buckets keys (i + 1) starts2 codes2 offsets2
unfolding starts_from
building_more tries buckets keys i starts starts2 codes codes2 offsets offsets2 lt b start puts =
    let found = placed_some (bucket_node tries buckets keys i) codes offsets codes2 offsets2 puts in
    let n : Node = found.0 in
    let more : buckets - i ≡ suc (buckets - (i + 1)) = omega arith in
    let rest = nodes_from tries buckets keys (buckets - (i + 1)) (i + 1) in
    let next : nodes_from tries buckets keys (buckets - i) i ≡ option_map (λ rest. n ∷ rest) rest = ap (λ (m : ℕ). nodes_from tries buckets keys m i) more ∙ from_by tries buckets keys (buckets - (i + 1)) i (Some n) found.1 in
    let keys_more : length offsets2 ≡ length offsets + length n.slots = ap length found.3 ∙ length-append offsets (offsets_of n.slots) ∙ ap (λ (m : ℕ). length offsets + m) (length-map n.slots (λ key. key.offset)) in
    let bits_more : length codes2 ≡ length codes + length n.bits = ap length found.2 ∙ length-append codes n.bits in
    record {
      done = b.done ++ n ∷ [];
      left = map_twice b.done n rest ∙ ap (option_map (λ rest. b.done ++ rest)) (sym next) ∙ b.left;
      starts_are = λ ns.
          ap (λ (l : List ℕ). l ++ starts_from (length offsets2) (length codes2) ns) start ∙ append_assoc starts (length offsets ∷ length codes ∷ []) (starts_from (length offsets2) (length codes2) ns)
          ∙ ap (λ (k : ℕ). starts ++ (length offsets ∷ length codes ∷ starts_from k (length codes2) ns)) keys_more
          ∙ ap (λ (k : ℕ). starts ++ (length offsets ∷ length codes ∷ starts_from (length offsets + length n.slots) k ns)) bits_more
          ∙ b.starts_are (n ∷ ns) ∙ ap (starts_from 0 0) (sym (append_assoc b.done (n ∷ []) ns));
      offsets_are = found.3 ∙ ap (λ (l : List ℕ). l ++ offsets_of n.slots) b.offsets_are ∙ sym (offsets-append (slots_of b.done) n.slots)
          ∙ ap offsets_of (ap (λ (l : List HashedKey). slots_of b.done ++ l) (sym (append-nil n.slots)) ∙ sym (flat_map-append (λ m. m.slots) b.done (n ∷ [])));
      codes_are = found.2 ∙ ap (λ (l : List Bool). l ++ n.bits) b.codes_are ∙ ap (λ (l : List Bool). bits_of_nodes b.done ++ l) (sym (append-nil n.bits)) ∙ sym (flat_map-append (λ m. m.bits) b.done (n ∷ []));
    }

-- a bucket without a node
pub no_nodes : (tries b : ℕ) (keys : List HashedKey) (i : ℕ) (starts : List ℕ) (codes codes2 : List Bool) (offsets offsets2 : List ℕ) → b ≡ bucket_count (length keys) → i < b → IsBuilding tries b keys i starts codes offsets
    → PutsNode false (bucket_node tries b keys i) codes offsets codes2 offsets2 → nodes_of tries keys ≡ None
unfolding nodes_of
no_nodes tries b keys i starts codes codes2 offsets offsets2 b-is lt building puts =
    let none = placed_none (bucket_node tries b keys i) codes offsets codes2 offsets2 puts in
    let more : b - i ≡ suc (b - (i + 1)) = omega arith in
    let next : nodes_from tries b keys (b - i) i ≡ None = ap (λ (m : ℕ). nodes_from tries b keys m i) more ∙ from_by tries b keys (b - (i + 1)) i None none in
    ap (λ (n : ℕ). nodes_from tries n keys n 0) (sym b-is) ∙ sym building.left ∙ ap (option_map (λ rest. building.done ++ rest)) next

-- the nodes of all buckets, and what was put of them
pub record AreAll (tries : ℕ) (keys : List HashedKey) (starts : List ℕ) (codes : List Bool) (offsets : List ℕ) : Type 0 where
  pub nodes : List Node
  pub nodes_are : nodes_of tries keys ≡ Some nodes
  pub starts_are : starts ≡ starts_from 0 0 nodes
  pub offsets_are : offsets ≡ offsets_of (slots_of nodes)
  pub codes_are : codes ≡ bits_of_nodes nodes

pub all_nodes : (tries b : ℕ) (keys : List HashedKey) (i : ℕ) (starts starts2 : List ℕ) (codes : List Bool) (offsets : List ℕ) → b ≡ bucket_count (length keys) → b ≤ i → IsBuilding tries b keys i starts codes offsets
    → starts2 ≡ starts ++ (length offsets ∷ length codes ∷ []) → AreAll tries keys starts2 codes offsets
unfolding nodes_of nodes_from starts_from
all_nodes tries b keys i starts starts2 codes offsets b-is ge building start =
    let none : b - i ≡ 0 = omega arith in
    let all : Some (building.done ++ []) ≡ nodes_from tries b keys b 0 = sym (ap (λ (m : ℕ). option_map (λ rest. building.done ++ rest) (nodes_from tries b keys m i)) none) ∙ building.left in
    record {
      nodes = building.done ++ [];
      nodes_are = ap (λ (n : ℕ). nodes_from tries n keys n 0) (sym b-is) ∙ sym all;
      starts_are = start ∙ building.starts_are [];
      offsets_are = building.offsets_are ∙ ap (λ (l : List Node). offsets_of (slots_of l)) (sym (append-nil building.done));
      codes_are = building.codes_are ∙ ap (λ (l : List Node). bits_of_nodes l) (sym (append-nil building.done));
    }
