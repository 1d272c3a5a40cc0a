-- Nodes as they are put down.
use Rattle.std.proofs.Common.{◌≡◌, ℕ, zero, suc, ◌+◌, ◌-◌, ◌<◌, ◌≤◌, Bool, true, false, ◌==◌, zero-add, List, [], ◌∷◌, ◌++◌, length, Option, Some, None, refl, sym, ap, subst, ◌∙◌, append_assoc, arith}
use Rattle.std.specs.List.{filter, flat_map, count_by, range_with_len}
use Rattle.std.specs.Option.{option_map, option_and_then}
use Rattle.std.proofs.lemmas.List.{append-nil, map-id}
use Rattle.std.proofs.lemmas.List.FromFn.{map-range_with_len_more}
use Rattle.std.proofs.lemmas.List.Concat.{flat_map-append}
use Rattle.std.proofs.lemmas.List.Sums.{length-filter}
use Rattle.std.proofs.lemmas.List.Filters.{length-filter_both}
use Rattle.std.proofs.lemmas.Bool.{eqb-true, le-leb, lt-leb, lt-ltb, le-ltb}
use Rattle.bit_store.specs.Rice.{rice_code}
use Rattle.recsplit_index.specs.declared.keys.HashedKey.{HashedKey}
use Rattle.recsplit_index.specs.Nodes.{Node, node, leaf, leaf_of, by_position, place_under, first_below, is_leaf_seed, is_split_seed, left_of, goes_left, goes_right, joined, parameter, offsets_of, PutsNode}

-- ---- a leaf's keys by position

offsets-append : (xs ys : List HashedKey) → offsets_of (xs ++ ys) ≡ offsets_of xs ++ offsets_of ys
offsets-append [] ys = refl
offsets-append (x ∷ xs) ys = ap (λ (l : List ℕ). x.offset ∷ l) (offsets-append xs ys)

pub place_none : (front : List ℕ) → front ≡ front ++ []
place_none front = sym (append-nil front)

-- one position more
pub place_more : (f : ℕ → List HashedKey) (front out new : List ℕ) (k : ℕ) → out ≡ front ++ offsets_of (flat_map f (range_with_len 0 k)) → new ≡ out ++ offsets_of (f k) → new ≡ front ++ offsets_of (flat_map f (range_with_len 0 (k + 1)))
place_more f front out new k so_far is =
    let some = flat_map f (range_with_len 0 k) in
    let more : range_with_len 0 (k + 1) ≡ range_with_len 0 k ++ k ∷ [] = sym (map-id (range_with_len 0 (k + 1))) ∙ map-range_with_len_more (λ n. n) 0 k k (zero-add k) ∙ ap (λ (l : List ℕ). l ++ k ∷ []) (map-id (range_with_len 0 k)) in
    let all : flat_map f (range_with_len 0 (k + 1)) ≡ some ++ f k = ap (flat_map f) more ∙ flat_map-append f (range_with_len 0 k) (k ∷ []) ∙ ap (λ (l : List HashedKey). some ++ l) (append-nil (f k)) in
    is ∙ ap (λ (l : List ℕ). l ++ offsets_of (f k)) so_far ∙ append_assoc front (offsets_of some) (offsets_of (f k))
    ∙ ap (λ (l : List ℕ). front ++ l) (sym (offsets-append some (f k)) ∙ ap offsets_of (sym all))

pub place_all : (place : HashedKey → ℕ) (keys : List HashedKey) (front out : List ℕ) (k : ℕ) → length keys ≤ k → k ≤ length keys → out ≡ front ++ offsets_of (flat_map (λ p. filter (λ key. place key == p) keys) (range_with_len 0 k)) → out ≡ front ++ offsets_of (by_position place keys)
unfolding by_position
place_all place keys front out k ge le is =
    let all : k ≡ length keys = omega arith in
    is ∙ ap (λ (n : ℕ). front ++ offsets_of (flat_map (λ p. filter (λ key. place key == p) keys) (range_with_len 0 n))) all

-- ---- what is put

puts_same : (placed : Bool) (n m : Option Node) (bits : List Bool) (offsets : List ℕ) (new_bits : List Bool) (new_offsets : List ℕ) → n ≡ m → PutsNode placed m bits offsets new_bits new_offsets → PutsNode placed n bits offsets new_bits new_offsets
puts_same placed n m bits offsets new_bits new_offsets is puts = subst (λ (x : Option Node). PutsNode placed x bits offsets new_bits new_offsets) (sym is) puts

pub leaf_few : (tries depth : ℕ) (keys : List HashedKey) → length keys < 2 → leaf tries depth keys ≡ Some (record { bits = []; slots = keys })
unfolding leaf
leaf_few tries depth keys few = rw (lt-ltb (length keys) 2 few) refl

pub puts_few : (tries depth : ℕ) (keys : List HashedKey) (bits : List Bool) (offsets new_offsets : List ℕ) → length keys < 2 → new_offsets ≡ offsets ++ offsets_of keys → PutsNode true (leaf tries depth keys) bits offsets bits new_offsets
puts_few tries depth keys bits offsets new_offsets few is =
    puts_same true (leaf tries depth keys) (Some (record { bits = []; slots = keys })) bits offsets bits new_offsets (leaf_few tries depth keys few) (refl, sym (append-nil bits), is)

pub leaf_by : (tries depth : ℕ) (keys : List HashedKey) (seed : Option ℕ) → 2 ≤ length keys → seed ≡ first_below (is_leaf_seed depth keys) tries → leaf tries depth keys ≡ option_map (leaf_of depth keys) seed
unfolding leaf
leaf_by tries depth keys seed some is = rw (le-ltb (length keys) 2 some) (ap (option_map (leaf_of depth keys)) (sym is))

pub puts_no_leaf : (tries depth : ℕ) (keys : List HashedKey) (bits : List Bool) (offsets : List ℕ) → 2 ≤ length keys → None ≡ first_below (is_leaf_seed depth keys) tries → PutsNode false (leaf tries depth keys) bits offsets bits offsets
puts_no_leaf tries depth keys bits offsets some is = puts_same false (leaf tries depth keys) None bits offsets bits offsets (leaf_by tries depth keys None some is) refl

pub puts_leaf : (tries depth : ℕ) (keys : List HashedKey) (seed r : ℕ) (bits : List Bool) (offsets : List ℕ) (new_bits : List Bool) (new_offsets : List ℕ) → 2 ≤ length keys → Some seed ≡ first_below (is_leaf_seed depth keys) tries → r ≡ parameter (length keys)
    → new_bits ≡ bits ++ rice_code r seed → new_offsets ≡ offsets ++ offsets_of (by_position (place_under depth seed (length keys)) keys) → PutsNode true (leaf tries depth keys) bits offsets new_bits new_offsets
puts_leaf tries depth keys seed r bits offsets new_bits new_offsets some is r-is coded placed =
    puts_same true (leaf tries depth keys) (Some (leaf_of depth keys seed)) bits offsets new_bits new_offsets (leaf_by tries depth keys (Some seed) some is)
    (refl, coded ∙ ap (λ (p : ℕ). bits ++ rice_code p seed) r-is, placed)

-- ---- splits

pub left_some : (k : ℕ) → 8 < k → (0 < left_of k) × (left_of k < k)
unfolding left_of
left_some k many = (omega arith, omega arith)

pub left_length : (depth : ℕ) (keys : List HashedKey) (seed : ℕ) → is_split_seed depth keys seed ≡ true → length (filter (goes_left depth seed (length keys)) keys) ≡ left_of (length keys)
unfolding is_split_seed
left_length depth keys seed works = length-filter (goes_left depth seed (length keys)) keys ∙ eqb-true (count_by (goes_left depth seed (length keys)) keys) (left_of (length keys)) works

pub both_lengths : (depth : ℕ) (keys : List HashedKey) (seed : ℕ) → length (filter (goes_left depth seed (length keys)) keys) + length (filter (goes_right depth seed (length keys)) keys) ≡ length keys
both_lengths depth keys seed = length-filter_both (goes_left depth seed (length keys)) (goes_right depth seed (length keys)) (λ x. refl) keys

-- a node of at most eight keys is a leaf
pub node_leaf : (splits tries depth : ℕ) (keys : List HashedKey) → length keys ≤ 8 → node splits tries depth keys ≡ leaf tries depth keys
unfolding node
node_leaf zero tries depth keys few = refl
node_leaf (suc splits) tries depth keys few = rw (le-leb (length keys) 8 few) refl

-- a split under its seed
abbrev pub split_by : ℕ → ℕ → ℕ → List HashedKey → Option ℕ → Option Node
split_by splits tries depth keys seed =
    option_and_then
    (λ seed.
    option_and_then (λ one. option_map (joined (length keys) seed one) (node splits tries (depth + 1) (filter (goes_right depth seed (length keys)) keys)))
    (node splits tries (depth + 1) (filter (goes_left depth seed (length keys)) keys)))
    seed

pub node_split : (splits tries depth : ℕ) (keys : List HashedKey) (seed : Option ℕ) → 8 < length keys → seed ≡ first_below (is_split_seed depth keys) tries → node (suc splits) tries depth keys ≡ split_by splits tries depth keys seed
unfolding node
node_split splits tries depth keys seed many is = rw (lt-leb (length keys) 8 many) (ap (split_by splits tries depth keys) (sym is))

joined_puts : (size seed r : ℕ) (one other : Option Node) (placed : Bool) (bits0 bits : List Bool) (offsets : List ℕ) (bits1 : List Bool) (offsets1 : List ℕ) (bits2 : List Bool) (offsets2 : List ℕ) → r ≡ parameter size → bits ≡ bits0 ++ rice_code r seed
    → PutsNode true one bits offsets bits1 offsets1 → PutsNode placed other bits1 offsets1 bits2 offsets2 → PutsNode placed (option_and_then (λ n. option_map (joined size seed n) other) one) bits0 offsets bits2 offsets2
joined_puts size seed r None other placed bits0 bits offsets bits1 offsets1 bits2 offsets2 r-is coded first second = absurd cc
joined_puts size seed r (Some n) None placed bits0 bits offsets bits1 offsets1 bits2 offsets2 r-is coded first second = second
joined_puts size seed r (Some n) (Some m) placed bits0 bits offsets bits1 offsets1 bits2 offsets2 r-is coded first second =
    let code = rice_code (parameter size) seed in
    let here : bits ≡ bits0 ++ code = coded ∙ ap (λ (p : ℕ). bits0 ++ rice_code p seed) r-is in (
      second.0,
      second.1 ∙ ap (λ (l : List Bool). l ++ m.bits) (first.1 ∙ ap (λ (l : List Bool). l ++ n.bits) here) ∙ ap (λ (l : List Bool). l ++ m.bits) (append_assoc bits0 code n.bits) ∙ append_assoc bits0 (code ++ n.bits) m.bits
          ∙ ap (λ (l : List Bool). bits0 ++ l) (append_assoc code n.bits m.bits),
      second.2 ∙ ap (λ (l : List ℕ). l ++ offsets_of m.slots) first.2 ∙ append_assoc offsets (offsets_of n.slots) (offsets_of m.slots) ∙ ap (λ (l : List ℕ). offsets ++ l) (sym (offsets-append n.slots m.slots)),
    )

-- no seed, or no seed under it
pub puts_no_split : (splits tries depth : ℕ) (keys : List HashedKey) (bits : List Bool) (offsets : List ℕ) → length keys ≤ splits → 8 < length keys → None ≡ first_below (is_split_seed depth keys) tries → PutsNode false (node splits tries depth keys) bits offsets bits offsets
puts_no_split zero tries depth keys bits offsets enough many is = absurd (omega arith)
puts_no_split (suc splits) tries depth keys bits offsets enough many is = puts_same false (node (suc splits) tries depth keys) None bits offsets bits offsets (node_split splits tries depth keys None many is) refl

no_node : (one : Option Node) (bits : List Bool) (offsets : List ℕ) (new_bits : List Bool) (new_offsets : List ℕ) → PutsNode false one bits offsets new_bits new_offsets → one ≡ None
no_node None bits offsets new_bits new_offsets puts = refl
no_node (Some n) bits offsets new_bits new_offsets puts = absurd cc

pub puts_no_left : (splits tries depth : ℕ) (keys left : List HashedKey) (seed : ℕ) (bits bits0 : List Bool) (offsets : List ℕ) (bits1 : List Bool) (offsets1 : List ℕ) → length keys ≤ splits → 8 < length keys → Some seed ≡ first_below (is_split_seed depth keys) tries → is_split_seed depth keys seed ≡ true
    → left ≡ filter (goes_left depth seed (length keys)) keys → ((more : ℕ) → length left ≤ more → PutsNode false (node more tries (depth + 1) left) bits offsets bits1 offsets1)
    → PutsNode false (node splits tries depth keys) bits0 offsets bits1 offsets1
puts_no_left zero tries depth keys left seed bits bits0 offsets bits1 offsets1 enough many is works left-is puts = absurd (omega arith)
puts_no_left (suc splits) tries depth keys left seed bits bits0 offsets bits1 offsets1 enough many is works left-is puts =
    let size = length keys in
    let lefts = filter (goes_left depth seed size) keys in
    let few : length left ≤ splits = omega (arith, ap length left-is, left_length depth keys seed works, (left_some size many).1) in
    let none : node splits tries (depth + 1) lefts ≡ None = ap (node splits tries (depth + 1)) (sym left-is) ∙ no_node (node splits tries (depth + 1) left) bits offsets bits1 offsets1 (puts splits few) in
    let right : Option Node = node splits tries (depth + 1) (filter (goes_right depth seed size) keys) in
    puts_same false (node (suc splits) tries depth keys) None bits0 offsets bits1 offsets1
    (node_split splits tries depth keys (Some seed) many is ∙ ap (option_and_then (λ n. option_map (joined size seed n) right)) none) refl

pub puts_split : (splits tries depth : ℕ) (keys left right : List HashedKey) (seed r : ℕ) (placed : Bool) (bits0 bits : List Bool) (offsets : List ℕ) (bits1 : List Bool) (offsets1 : List ℕ) (bits2 : List Bool) (offsets2 : List ℕ) → length keys ≤ splits → 8 < length keys
    → Some seed ≡ first_below (is_split_seed depth keys) tries → is_split_seed depth keys seed ≡ true → left ≡ filter (goes_left depth seed (length keys)) keys → right ≡ filter (goes_right depth seed (length keys)) keys → r ≡ parameter (length keys) → bits ≡ bits0 ++ rice_code r seed
    → ((more : ℕ) → length left ≤ more → PutsNode true (node more tries (depth + 1) left) bits offsets bits1 offsets1)
    → PutsNode placed (node (splits - 1) tries (depth + 1) right) bits1 offsets1 bits2 offsets2 → PutsNode placed (node splits tries depth keys) bits0 offsets bits2 offsets2
puts_split zero tries depth keys left right seed r placed bits0 bits offsets bits1 offsets1 bits2 offsets2 enough many is works left-is right-is r-is coded first second = absurd (omega arith)
puts_split (suc splits) tries depth keys left right seed r placed bits0 bits offsets bits1 offsets1 bits2 offsets2 enough many is works left-is right-is r-is coded first second =
    let size = length keys in
    let lefts = filter (goes_left depth seed size) keys in
    let rights = filter (goes_right depth seed size) keys in
    let some = left_some size many in
    let len = left_length depth keys seed works in
    let few_left : length left ≤ splits = omega (arith, ap length left-is, len, some.1) in
    let one_less : suc splits - 1 ≡ splits = omega arith in
    let same : node (suc splits - 1) tries (depth + 1) right ≡ node splits tries (depth + 1) rights = ap (λ (m : ℕ). node m tries (depth + 1) right) one_less ∙ ap (node splits tries (depth + 1)) right-is in
    puts_same placed (node (suc splits) tries depth keys) (split_by splits tries depth keys (Some seed)) bits0 offsets bits2 offsets2 (node_split splits tries depth keys (Some seed) many is)
    (joined_puts size seed r (node splits tries (depth + 1) lefts) (node splits tries (depth + 1) rights) placed bits0 bits offsets bits1 offsets1 bits2 offsets2 r-is coded
    (puts_same true _ _ bits offsets bits1 offsets1 (ap (node splits tries (depth + 1)) (sym left-is)) (first splits few_left))
    (puts_same placed _ _ bits1 offsets1 bits2 offsets2 (sym same) second))

-- a node that is a leaf
pub puts_node_leaf : (splits tries depth : ℕ) (keys : List HashedKey) (placed : Bool) (bits : List Bool) (offsets : List ℕ) (new_bits : List Bool) (new_offsets : List ℕ) → length keys ≤ 8 → PutsNode placed (leaf tries depth keys) bits offsets new_bits new_offsets → PutsNode placed (node splits tries depth keys) bits offsets new_bits new_offsets
puts_node_leaf splits tries depth keys placed bits offsets new_bits new_offsets few puts = puts_same placed (node splits tries depth keys) (leaf tries depth keys) bits offsets new_bits new_offsets (node_leaf splits tries depth keys few) puts
