-- Nodes that are found apart and put together.
use Rattle.std.proofs.Common.{◌≡◌, ℕ, zero, suc, ◌+◌, ◌<◌, ◌≤◌, Bool, List, [], ◌∷◌, ◌++◌, length, map, take, drop, get_or, Option, Some, None, Vec, Global, refl, sym, ap, ◌∙◌, append_assoc, arith}
use Rattle.std.specs.Option.{option_map, option_and_then}
use Rattle.std.specs.List.{range_with_len, slice_get}
use Rattle.std.proofs.Math.ListN.{get_or-map}
use Rattle.std.proofs.lemmas.List.{append-nil, length-append, length-map, map-append, take-append-drop, drop_more, drop_all, take_more, take_all, get_or_default}
use Rattle.std.proofs.lemmas.List.Concat.{flat_map-append}
use Rattle.recsplit_index.specs.declared.keys.HashedKey.{HashedKey}
use Rattle.recsplit_index.specs.declared.nodes.Parts.{Parts}
use Rattle.recsplit_index.specs.Nodes.{Node, node, offsets_of}
use Rattle.recsplit_index.specs.declared.buckets.Built.{Built}
use Rattle.recsplit_index.specs.Index.{bucket_count, bucket_keys, bucket_node, nodes_from, nodes_of, starts_from, slots_of, bits_of_nodes, Holds, HoldsAll}
use Rattle.recsplit_index.proofs.Buildings.{offsets-append}
use Rattle.recsplit_index.specs.Parts.{nodes_in, both_nodes, IsPart, AreParts, what_are_held, what_are_of}

-- ---- nodes of groups

both_cons : (n : Node) (xs ys : Option (List Node)) → both_nodes (option_map (λ rest. n ∷ rest) xs) ys ≡ option_map (λ rest. n ∷ rest) (both_nodes xs ys)
both_cons n None ys = refl
both_cons n (Some xs) None = refl
both_cons n (Some xs) (Some ys) = refl

both_first : (o : Option Node) (xs ys : Option (List Node)) → both_nodes (option_and_then (λ here. option_map (λ rest. here ∷ rest) xs) o) ys ≡ option_and_then (λ here. option_map (λ rest. here ∷ rest) (both_nodes xs ys)) o
both_first None xs ys = refl
both_first (Some n) xs ys = both_cons n xs ys

same_nodes : (o : Option (List Node)) → both_nodes (Some []) o ≡ o
same_nodes None = refl
same_nodes (Some ns) = refl

pub nodes_in-append : (tries : ℕ) (gs hs : List (List HashedKey)) → both_nodes (nodes_in tries gs) (nodes_in tries hs) ≡ nodes_in tries (gs ++ hs)
unfolding nodes_in
nodes_in-append tries [] hs = same_nodes (nodes_in tries hs)
nodes_in-append tries (g ∷ gs) hs =
    both_first (node (length g) tries 0 g) (nodes_in tries gs) (nodes_in tries hs)
    ∙ ap (λ (o : Option (List Node)). option_and_then (λ here. option_map (λ rest. here ∷ rest) o) (node (length g) tries 0 g)) (nodes_in-append tries gs hs)

-- the nodes of the buckets are those of their lists
pub nodes_from-in : (tries buckets : ℕ) (keys : List HashedKey) (more b : ℕ) → nodes_in tries (map (bucket_keys buckets keys) (range_with_len b more)) ≡ nodes_from tries buckets keys more b
unfolding nodes_in nodes_from
nodes_from-in tries buckets keys zero b = refl
nodes_from-in tries buckets keys (suc more) b =
    ap (λ (o : Option (List Node)). option_and_then (λ here. option_map (λ rest. here ∷ rest) o) (bucket_node tries buckets keys b)) (nodes_from-in tries buckets keys more (b + 1))

-- ---- parts that are joined

pub no_front : (xs ys : Option (List Node)) → AreParts None xs → AreParts None (both_nodes xs ys)
no_front None ys front = tt
no_front (Some xs) ys front = absurd front

pub no_behind : (parts : List Parts) (xs ys : Option (List Node)) → AreParts (Some parts) xs → AreParts None ys → AreParts None (both_nodes xs ys)
no_behind parts None ys front behind = absurd front
no_behind parts (Some xs) None front behind = tt
no_behind parts (Some xs) (Some ys) front behind = absurd behind

pub both_joined : (front behind all : List Parts) (xs ys : Option (List Node)) → all ≡ front ++ behind → AreParts (Some front) xs → AreParts (Some behind) ys → AreParts (Some all) (both_nodes xs ys)
both_joined front behind all None ys is f b = absurd f
both_joined front behind all (Some xs) None is f b = absurd b
both_joined front behind all (Some xs) (Some ys) is f b =
    ap what_are_held is ∙ map-append (λ p. (p.codes, p.offsets.items)) front behind ∙ ap (λ l. l ++ what_are_held behind) f ∙ ap (λ l. what_are_of xs ++ l) b ∙ sym (map-append (λ n. (n.bits, offsets_of n.slots)) xs ys)

-- ---- no group and one

abbrev pub lists_in : List (Vec HashedKey Global) → List (List HashedKey)
lists_in groups = map (λ g. g.items) groups

pub is_empty : (groups : List (Vec HashedKey Global)) → slice_get groups 0 ≡ None → lists_in groups ≡ []
is_empty [] is = refl
is_empty (g ∷ gs) is = absurd cc

pub is_one : (groups : List (Vec HashedKey Global)) (g : Vec HashedKey Global) → length groups < 2 → slice_get groups 0 ≡ Some g → lists_in groups ≡ g.items ∷ []
is_one [] g few is = absurd cc
is_one (h ∷ []) g few is = let same : h ≡ g = cc in ap (λ (x : Vec HashedKey Global). x.items ∷ []) same
is_one (h ∷ i ∷ gs) g few is = absurd (omega (arith, few))

pub no_group : (tries : ℕ) (groups : List (List HashedKey)) → groups ≡ [] → AreParts (Some []) (nodes_in tries groups)
unfolding nodes_in
no_group tries groups is = rw is refl

pub one_fails : (tries : ℕ) (g : List HashedKey) (groups : List (List HashedKey)) → groups ≡ g ∷ [] → IsPart None (node (length g) tries 0 g) → AreParts None (nodes_in tries groups)
unfolding nodes_in
one_fails tries g groups is part = rw is (fails (node (length g) tries 0 g) part)
  where
    fails : (o : Option Node) → IsPart None o → AreParts None (option_and_then (λ here. option_map (λ rest. here ∷ rest) (Some [])) o)
    fails None p = tt
    fails (Some n) p = absurd p

pub one_held : (tries : ℕ) (g : List HashedKey) (groups : List (List HashedKey)) (p : Parts) → groups ≡ g ∷ [] → IsPart (Some p) (node (length g) tries 0 g) → AreParts (Some (p ∷ [])) (nodes_in tries groups)
unfolding nodes_in
one_held tries g groups p is part = rw is (held (node (length g) tries 0 g) part)
  where
    held : (o : Option Node) → IsPart (Some p) o → AreParts (Some (p ∷ [])) (option_and_then (λ here. option_map (λ rest. here ∷ rest) (Some [])) o)
    held None p = absurd p
    held (Some n) h = rw (h.0, h.1) refl

-- ---- parts that are put one behind the other

-- what was put of the first so many
pub record IsAssembling (nodes : List Node) (i : ℕ) (starts : List ℕ) (codes : List Bool) (offsets : List ℕ) : Type 0 where
  pub starts_are : starts ++ starts_from (length offsets) (length codes) (drop i nodes) ≡ starts_from 0 0 nodes
  pub offsets_are : offsets ≡ offsets_of (slots_of (take i nodes))
  pub codes_are : codes ≡ bits_of_nodes (take i nodes)

no_node : Node
no_node = record { bits = []; slots = [] }

pub nothing_put : (nodes : List Node) (starts : List ℕ) (codes : List Bool) (offsets : List ℕ) → starts ≡ [] → codes ≡ [] → offsets ≡ [] → IsAssembling nodes 0 starts codes offsets
nothing_put nodes starts codes offsets s c o = record { starts_are = rw (s, c, o) refl; offsets_are = o; codes_are = c }

as_many : (parts : List Parts) (nodes : List Node) → what_are_held parts ≡ what_are_of nodes → length parts ≡ length nodes
as_many parts nodes same = sym (length-map parts (λ p. (p.codes, p.offsets.items))) ∙ ap length same ∙ length-map nodes (λ n. (n.bits, offsets_of n.slots))

abbrev held_of : Parts → List Bool × List ℕ
held_of p = (p.codes, p.offsets.items)

abbrev of_node : Node → List Bool × List ℕ
of_node n = (n.bits, offsets_of n.slots)

node_here : (parts : List Parts) (nodes : List Node) (part : Parts) (i : ℕ) → what_are_held parts ≡ what_are_of nodes → i < length parts → part ≡ get_or parts i part → held_of part ≡ of_node (get_or nodes i no_node)
node_here parts nodes part i same lt is =
    let less : i < length (what_are_of nodes) = omega (arith, lt, as_many parts nodes same, length-map nodes of_node) in
    ap held_of is ∙ sym (get_or-map held_of parts i part) ∙ ap (λ (l : List (List Bool × List ℕ)). get_or l i (held_of part)) same ∙ get_or_default (what_are_of nodes) i (held_of part) (of_node no_node) less ∙ get_or-map of_node nodes i no_node

pub put_more : (parts : List Parts) (nodes : List Node) (part : Parts) (i : ℕ) (starts starts2 : List ℕ) (codes codes2 : List Bool) (offsets offsets2 : List ℕ) → what_are_held parts ≡ what_are_of nodes → i < length parts → part ≡ get_or parts i part
    → IsAssembling nodes i starts codes offsets → starts2 ≡ starts ++ (length offsets ∷ length codes ∷ []) → codes2 ≡ codes ++ part.codes → offsets2 ≡ offsets ++ part.offsets.items → IsAssembling nodes (i + 1) starts2 codes2 offsets2
unfolding starts_from
put_more parts nodes part i starts starts2 codes codes2 offsets offsets2 same lt is so_far start code offset =
    let n = get_or nodes i no_node in
    let here = node_here parts nodes part i same lt is in
    let less : i < length nodes = omega (arith, lt, as_many parts nodes same) in
    let bits : part.codes ≡ n.bits = ap (λ (x : List Bool × List ℕ). x.0) here in
    let slots : part.offsets.items ≡ offsets_of n.slots = ap (λ (x : List Bool × List ℕ). x.1) here in
    let codes-are : codes2 ≡ codes ++ n.bits = code ∙ ap (λ (l : List Bool). codes ++ l) bits in
    let offsets-are : offsets2 ≡ offsets ++ offsets_of n.slots = offset ∙ ap (λ (l : List ℕ). offsets ++ l) slots in
    let keys_more : length offsets2 ≡ length offsets + length n.slots = ap length offsets-are ∙ length-append offsets (offsets_of n.slots) ∙ ap (λ (m : ℕ). length offsets + m) (length-map n.slots (λ key. key.offset)) in
    let bits_more : length codes2 ≡ length codes + length n.bits = ap length codes-are ∙ length-append codes n.bits in
    let done : take (i + 1) nodes ≡ take i nodes ++ n ∷ [] = take_more nodes i no_node less in
    let rest = drop (i + 1) nodes in
    record {
      starts_are =
          ap (λ (l : List ℕ). l ++ starts_from (length offsets2) (length codes2) rest) start ∙ append_assoc starts (length offsets ∷ length codes ∷ []) (starts_from (length offsets2) (length codes2) rest)
          ∙ ap (λ (k : ℕ). starts ++ (length offsets ∷ length codes ∷ starts_from k (length codes2) rest)) keys_more
          ∙ ap (λ (k : ℕ). starts ++ (length offsets ∷ length codes ∷ starts_from (length offsets + length n.slots) k rest)) bits_more
          ∙ ap (λ (l : List Node). starts ++ starts_from (length offsets) (length codes) l) (sym (drop_more nodes i no_node less)) ∙ so_far.starts_are;
      offsets_are = offsets-are ∙ ap (λ (l : List ℕ). l ++ offsets_of n.slots) so_far.offsets_are ∙ sym (offsets-append (slots_of (take i nodes)) n.slots)
          ∙ ap offsets_of (ap (λ (l : List HashedKey). slots_of (take i nodes) ++ l) (sym (append-nil n.slots)) ∙ sym (flat_map-append (λ m. m.slots) (take i nodes) (n ∷ []))) ∙ ap (λ (l : List Node). offsets_of (slots_of l)) (sym done);
      codes_are = codes-are ∙ ap (λ (l : List Bool). l ++ n.bits) so_far.codes_are ∙ ap (λ (l : List Bool). bits_of_nodes (take i nodes) ++ l) (sym (append-nil n.bits)) ∙ sym (flat_map-append (λ m. m.bits) (take i nodes) (n ∷ [])) ∙ ap bits_of_nodes (sym done);
    }

pub all_put : (parts : List Parts) (nodes : List Node) (i : ℕ) (starts : List ℕ) (built : Built) → what_are_held parts ≡ what_are_of nodes → length parts ≤ i → IsAssembling nodes i starts built.parts.codes built.parts.offsets.items
    → built.starts.items ≡ starts ++ (length built.parts.offsets.items ∷ length built.parts.codes ∷ []) → Holds built nodes
unfolding starts_from
all_put parts nodes i starts built same ge so_far start =
    let over : length nodes ≤ i = omega (arith, ge, as_many parts nodes same) in
    let all = take_all i nodes over in
    record {
      starts_are = start ∙ ap (λ (l : List Node). starts ++ starts_from (length built.parts.offsets.items) (length built.parts.codes) l) (sym (drop_all i nodes over)) ∙ so_far.starts_are;
      offsets_are = so_far.offsets_are ∙ ap (λ (l : List Node). offsets_of (slots_of l)) all;
      codes_are = so_far.codes_are ∙ ap bits_of_nodes all;
    }

pub holds_of : (built : Built) (parts : List Parts) (o : Option (List Node)) → AreParts (Some parts) o → ((nodes : List Node) → what_are_held parts ≡ what_are_of nodes → Holds built nodes) → HoldsAll (Some built) o
holds_of built parts None are holds = absurd are
holds_of built parts (Some nodes) are holds = holds nodes are

pub holds_nothing : (o : Option (List Node)) → AreParts None o → HoldsAll None o
holds_nothing None are = tt
holds_nothing (Some nodes) are = absurd are

-- ---- halves

pub halves : (tries : ℕ) (groups front behind : List (Vec HashedKey Global)) → groups ≡ front ++ behind → both_nodes (nodes_in tries (lists_in front)) (nodes_in tries (lists_in behind)) ≡ nodes_in tries (lists_in groups)
halves tries groups front behind is = nodes_in-append tries (lists_in front) (lists_in behind) ∙ ap (nodes_in tries) (sym (map-append (λ g. g.items) front behind) ∙ ap lists_in (sym is))

pub cut_at : {X : Type 0} (k : ℕ) (xs front behind : List X) → front ≡ take k xs → behind ≡ drop k xs → xs ≡ front ++ behind
cut_at k xs front behind f b = rw (f, b) (sym (take-append-drop k xs))

-- the nodes of the groups are those of the buckets
pub bucket_nodes : (tries b : ℕ) (keys : List HashedKey) (groups : List (Vec HashedKey Global)) → b ≡ bucket_count (length keys) → lists_in groups ≡ map (bucket_keys b keys) (range_with_len 0 b) → nodes_in tries (lists_in groups) ≡ nodes_of tries keys
unfolding nodes_of
bucket_nodes tries b keys groups b-is are = ap (nodes_in tries) are ∙ nodes_from-in tries b keys b 0 ∙ ap (λ (n : ℕ). nodes_from tries n keys n 0) b-is
