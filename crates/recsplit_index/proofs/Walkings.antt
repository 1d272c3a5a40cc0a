-- A walk through the nodes of a bucket.
use Rattle.std.proofs.Common.{◌≡◌, ℕ, suc, ◌+◌, ◌-◌, ◌^◌, ◌<◌, ◌≤◌, Bool, true, not, ltb, List, [], ◌∷◌, ◌++◌, length, Option, Some, None, refl, sym, ap, subst, ◌∙◌, arith, inl, inr}
use Rattle.std.specs.Prelude.{slice_get, IsSomeAnd, IfSome}
use Rattle.std.specs.List.{filter, AllByRecursion}
use Rattle.std.proofs.lemmas.Bool.{cases_lt, lt-ltb, le-ltb}
use Rattle.std.proofs.lemmas.List.{length-append}
use Rattle.bit_store.specs.Rice.{rice_code, StandsAt, Reading}
use Rattle.recsplit_index.specs.declared.keys.HashedKey.{HashedKey}
use Rattle.recsplit_index.specs.Hash.{position}
use Rattle.recsplit_index.specs.Nodes.{Node, node, by_position, place_under, is_leaf_seed, left_of, goes_left, goes_right, parameter}
use Rattle.recsplit_index.specs.Walks.{IsNodeAt, HasNode, IsSlotOf}
use Rattle.recsplit_index.proofs.Placements.{node_leaf, left_some, left_length, both_lengths}
use Rattle.recsplit_index.proofs.Positions.{position_small, slots-by_position}
use Rattle.recsplit_index.proofs.Every.{some_is, all_weaker, all_unfiltered, get_front, get_back}
use Rattle.recsplit_index.proofs.Shapes.{leaf_shape, split_shape, few_shape, positions_below, node_long, stands_front, stands_back}

-- ---- what stands at a place

-- a leaf there
pub record LeafAt (bits : List Bool) (at depth : ℕ) (keys : List HashedKey) (n : Node) : Type 0 where
  pub seed : ℕ
  pub small : seed < 2 ^ 16
  pub works : is_leaf_seed depth keys seed ≡ true
  pub stands : StandsAt bits at (rice_code (parameter (length keys)) seed)
  pub bits_are : n.bits ≡ rice_code (parameter (length keys)) seed
  pub slots_are : n.slots ≡ by_position (place_under depth seed (length keys)) keys

pub leaf_at : (bits : List Bool) (at depth : ℕ) (keys : List HashedKey) (n : Node) → 2 ≤ length keys → length keys ≤ 8 → IsNodeAt bits at depth keys n → LeafAt bits at depth keys n
leaf_at bits at depth keys n some few there =
    let l = leaf_shape there.tries depth keys n some (sym (node_leaf there.splits there.tries depth keys few) ∙ there.node_is) in
    let bits_are : n.bits ≡ rice_code (parameter (length keys)) l.seed = ap (λ (m : Node). m.bits) (sym l.node_is) in
    record {
      seed = l.seed;
      small = omega (arith, l.below, there.few);
      works = l.works;
      stands = subst (λ (c : List Bool). StandsAt bits at c) bits_are there.stands;
      bits_are = bits_are;
      slots_are = ap (λ (m : Node). m.slots) (sym l.node_is);
    }

-- a split there
pub record SplitAt (bits : List Bool) (at depth : ℕ) (keys : List HashedKey) (n : Node) : Type 0 where
  pub seed : ℕ
  pub small : seed < 2 ^ 16
  pub one : Node
  pub other : Node
  pub stands : StandsAt bits at (rice_code (parameter (length keys)) seed)
  pub left : IsNodeAt bits (at + length (rice_code (parameter (length keys)) seed)) (depth + 1) (filter (goes_left depth seed (length keys)) keys) one
  pub right : IsNodeAt bits (at + length (rice_code (parameter (length keys)) seed) + length one.bits) (depth + 1) (filter (goes_right depth seed (length keys)) keys) other
  pub left_long : length (filter (goes_left depth seed (length keys)) keys) ≡ left_of (length keys)
  pub right_long : length (filter (goes_right depth seed (length keys)) keys) ≡ length keys - left_of (length keys)
  pub long : length n.bits ≡ length (rice_code (parameter (length keys)) seed) + (length one.bits + length other.bits)
  pub slots_are : n.slots ≡ one.slots ++ other.slots

pub split_at : (bits : List Bool) (at depth : ℕ) (keys : List HashedKey) (n : Node) → 8 < length keys → IsNodeAt bits at depth keys n → SplitAt bits at depth keys n
split_at bits at depth keys n many there =
    let splits = there.splits - 1 in
    let one_more : there.splits ≡ suc splits = omega (arith, there.enough) in
    let s = split_shape splits there.tries depth keys n many (ap (λ (m : ℕ). node m there.tries depth keys) (sym one_more) ∙ there.node_is) in
    let size = length keys in
    let code = rice_code (parameter size) s.seed in
    let bits_are : n.bits ≡ code ++ (s.one.bits ++ s.other.bits) = ap (λ (m : Node). m.bits) (sym s.node_is) in
    let whole : StandsAt bits at (code ++ (s.one.bits ++ s.other.bits)) = subst (λ (c : List Bool). StandsAt bits at c) bits_are there.stands in
    let rest = stands_back bits at code (s.one.bits ++ s.other.bits) whole in
    let left_len = left_length depth keys s.seed s.works in
    let both = both_lengths depth keys s.seed in
    let some = left_some size many in
    record {
      seed = s.seed;
      small = omega (arith, s.below, there.few);
      one = s.one;
      other = s.other;
      stands = stands_front bits at code (s.one.bits ++ s.other.bits) whole;
      left = record { splits = splits; tries = there.tries; enough = omega (arith, there.enough, left_len, some.1); few = there.few; node_is = s.left_is; stands = stands_front bits (at + length code) s.one.bits s.other.bits rest };
      right = record { splits = splits; tries = there.tries; enough = omega (arith, there.enough, both, left_len, some.0); few = there.few; node_is = s.right_is; stands = stands_back bits (at + length code) s.one.bits s.other.bits rest };
      left_long = left_len;
      right_long = omega (arith, both, left_len);
      long = ap length bits_are ∙ length-append code (s.one.bits ++ s.other.bits) ∙ ap (λ (m : ℕ). length code + m) (length-append s.one.bits s.other.bits);
      slots_are = ap (λ (m : Node). m.slots) (sym s.node_is);
    }

-- ---- a code is read

-- what the reader promises
abbrev pub ReadsCode : Reading → Reading → ℕ → Option ℕ → Type 0
ReadsCode old new r result =
    ((v : ℕ) → v < 2 ^ 64 → StandsAt old.bits old.at (rice_code r v) → result ≡ Some v)
    × IfSome result (λ v. new ≡ record { bits = old.bits; at = old.at + length (rice_code r v) })

pub code_read : (old new : Reading) (r p v : ℕ) (result : Option ℕ) → ReadsCode old new r result → r ≡ p → v < 2 ^ 16 → StandsAt old.bits old.at (rice_code p v) → (result ≡ Some v) × (new ≡ record { bits = old.bits; at = old.at + length (rice_code p v) })
code_read old new r p v result reads is small stands =
    let here : StandsAt old.bits old.at (rice_code r v) = subst (λ (q : ℕ). StandsAt old.bits old.at (rice_code q v)) (sym is) stands in
    let found : result ≡ Some v = reads.0 v (omega (arith, small)) here in
    let moved : IfSome (Some v) (λ w. new ≡ record { bits = old.bits; at = old.at + length (rice_code r w) }) = subst (λ (o : Option ℕ). IfSome o (λ w. new ≡ record { bits = old.bits; at = old.at + length (rice_code r w) })) found reads.1 in
    (found, moved ∙ ap (λ (q : ℕ). record { bits = old.bits; at = old.at + length (rice_code q v) }) is)

pub moved_node : (old new : Reading) (at depth : ℕ) (keys : List HashedKey) (n : Node) → new ≡ record { bits = old.bits; at = at } → IsNodeAt old.bits at depth keys n → IsNodeAt new.bits new.at depth keys n
moved_node old new at depth keys n is there = subst (λ (r : Reading). IsNodeAt r.bits r.at depth keys n) (sym is) there

-- what a call of skip promises
abbrev pub Skips : Reading → Reading → ℕ → Type 0
Skips old new size = (depth : ℕ) (keys : List HashedKey) (n : Node) → size ≡ length keys → IsNodeAt old.bits old.at depth keys n → new ≡ record { bits = old.bits; at = old.at + length n.bits }

pub skip_few : (old : Reading) (size : ℕ) → size < 2 → Skips old old size
skip_few old size few = λ depth keys n is there.
    let none : n ≡ record { bits = []; slots = keys } = few_shape there.tries depth keys n (omega (arith, is)) (sym (node_leaf there.splits there.tries depth keys (omega (arith, is))) ∙ there.node_is) in
    let same : old.at + length n.bits ≡ old.at = omega (arith, ap (λ (m : Node). length m.bits) none) in
    ap (λ (a : ℕ). record { bits = old.bits; at = a }) (sym same)

pub skip_leaf : (old new : Reading) (size r : ℕ) (result : Option ℕ) → 2 ≤ size → size ≤ 8 → r ≡ parameter size → ReadsCode old new r result → Skips old new size
skip_leaf old new size r result some few r-is reads = λ depth keys n is there.
    let l = leaf_at old.bits old.at depth keys n (omega (arith, is)) (omega (arith, is)) there in
    let read = code_read old new r (parameter (length keys)) l.seed result reads (r-is ∙ ap parameter is) l.small l.stands in
    read.1 ∙ ap (λ (c : List Bool). record { bits = old.bits; at = old.at + length c }) (sym l.bits_are)

-- behind the code of a split its left node stands, and behind that the right one
pub left_there : (old new : Reading) (depth size left r : ℕ) (result : Option ℕ) → 8 < size → r ≡ parameter size → left ≡ left_of size → ReadsCode old new r result → HasNode old.bits old.at depth size → HasNode new.bits new.at (depth + 1) left
left_there old new depth size left r result many r-is left-is reads h =
    let keys = h.keys in
    let s = split_at old.bits old.at depth keys h.built (omega (arith, h.size_is)) h.there in
    let read = code_read old new r (parameter (length keys)) s.seed result reads (r-is ∙ ap parameter h.size_is) s.small s.stands in
    record {
      keys = filter (goes_left depth s.seed (length keys)) keys;
      built = s.one;
      size_is = left-is ∙ ap left_of h.size_is ∙ sym s.left_long;
      there = moved_node old new (old.at + length (rice_code (parameter (length keys)) s.seed)) (depth + 1) (filter (goes_left depth s.seed (length keys)) keys) s.one read.1 s.left;
    }

skipped : (old new next : Reading) (depth left : ℕ) (keys : List HashedKey) (n : Node) (at : ℕ) → left ≡ length keys → new ≡ record { bits = old.bits; at = at } → IsNodeAt old.bits at depth keys n → Skips new next left → next ≡ record { bits = old.bits; at = at + length n.bits }
skipped old new next depth left keys n at is new-is there skips =
    skips depth keys n is (moved_node old new at depth keys n new-is there) ∙ ap (λ (r : Reading). record { bits = r.bits; at = r.at + length n.bits }) new-is

pub right_there : (old new next : Reading) (depth size left right r : ℕ) (result : Option ℕ) → 8 < size → r ≡ parameter size → left ≡ left_of size → right ≡ size - left → ReadsCode old new r result → Skips new next left → HasNode old.bits old.at depth size → HasNode next.bits next.at (depth + 1) right
right_there old new next depth size left right r result many r-is left-is right-is reads skips h =
    let keys = h.keys in
    let s = split_at old.bits old.at depth keys h.built (omega (arith, h.size_is)) h.there in
    let read = code_read old new r (parameter (length keys)) s.seed result reads (r-is ∙ ap parameter h.size_is) s.small s.stands in
    let left_long : left ≡ length (filter (goes_left depth s.seed (length keys)) keys) = left-is ∙ ap left_of h.size_is ∙ sym s.left_long in
    let at = old.at + length (rice_code (parameter (length keys)) s.seed) in
    let behind = skipped old new next (depth + 1) left (filter (goes_left depth s.seed (length keys)) keys) s.one at left_long read.1 s.left skips in
    record {
      keys = filter (goes_right depth s.seed (length keys)) keys;
      built = s.other;
      size_is = omega (arith, right-is, left-is, h.size_is, ap left_of h.size_is, s.right_long);
      there = moved_node old next (at + length s.one.bits) (depth + 1) (filter (goes_right depth s.seed (length keys)) keys) s.other behind s.right;
    }

pub skip_split : (old new next last : Reading) (size left right r : ℕ) (result : Option ℕ) → 8 < size → r ≡ parameter size → left ≡ left_of size → right ≡ size - left → ReadsCode old new r result → Skips new next left → Skips next last right → Skips old last size
skip_split old new next last size left right r result many r-is left-is right-is reads first second = λ depth keys n is there.
    let s = split_at old.bits old.at depth keys n (omega (arith, is)) there in
    let read = code_read old new r (parameter (length keys)) s.seed result reads (r-is ∙ ap parameter is) s.small s.stands in
    let left_long : left ≡ length (filter (goes_left depth s.seed (length keys)) keys) = left-is ∙ ap left_of is ∙ sym s.left_long in
    let right_long : right ≡ length (filter (goes_right depth s.seed (length keys)) keys) = omega (arith, right-is, left-is, is, ap left_of is, s.right_long) in
    let at = old.at + length (rice_code (parameter (length keys)) s.seed) in
    let behind = skipped old new next (depth + 1) left (filter (goes_left depth s.seed (length keys)) keys) s.one at left_long read.1 s.left first in
    let end = skipped old next last (depth + 1) right (filter (goes_right depth s.seed (length keys)) keys) s.other (at + length s.one.bits) right_long behind s.right second in
    let same : at + length s.one.bits + length s.other.bits ≡ old.at + length n.bits = omega (arith, s.long) in
    end ∙ ap (λ (a : ℕ). record { bits = old.bits; at = a }) same

-- ---- where a hash leads

one_slot : (hash : ℕ) (keys : List HashedKey) → length keys ≡ 1 → AllByRecursion (λ key. key.hash ≡ hash → slice_get keys 0 ≡ Some key) keys
one_slot hash [] one = absurd (omega arith)
one_slot hash (key ∷ []) one = (λ is. refl, tt)
one_slot hash (key ∷ other ∷ keys) one = absurd (omega arith)

pub walk_one : (bits : List Bool) (at depth size hash : ℕ) (keys : List HashedKey) (n : Node) → size < 2 → 0 < size → size ≡ length keys → IsNodeAt bits at depth keys n → IsSlotOf hash 0 keys n.slots
walk_one bits at depth size hash keys n few some is there =
    let shape : n ≡ record { bits = []; slots = keys } = few_shape there.tries depth keys n (omega (arith, is)) (sym (node_leaf there.splits there.tries depth keys (omega (arith, is))) ∙ there.node_is) in
    subst (λ (m : Node). IsSlotOf hash 0 keys m.slots) (sym shape) (record { within = omega (arith, is); only = one_slot hash keys (omega (arith, is)) })

-- a seed is always there
pub seed_there : (old new : Reading) (depth size r : ℕ) (result : Option ℕ) → 2 ≤ size → r ≡ parameter size → ReadsCode old new r result → HasNode old.bits old.at depth size → (seed : ℕ) × (seed < 2 ^ 16) × (result ≡ Some seed)
seed_there old new depth size r result some r-is reads h =
    let keys = h.keys in
    let p-is : r ≡ parameter (length keys) = r-is ∙ ap parameter h.size_is in
    elim (cases_lt 8 (length keys)) [
      | inl many ↦
          let s = split_at old.bits old.at depth keys h.built many h.there in
          (s.seed, s.small, (code_read old new r (parameter (length keys)) s.seed result reads p-is s.small s.stands).0)
      | inr few ↦
          let l = leaf_at old.bits old.at depth keys h.built (omega (arith, some, h.size_is)) few h.there in
          (l.seed, l.small, (code_read old new r (parameter (length keys)) l.seed result reads p-is l.small l.stands).0)
    ]

pub walk_leaf : (old new : Reading) (depth size r seed place hash : ℕ) (result : Option ℕ) (keys : List HashedKey) (n : Node) → 2 ≤ size → size ≤ 8 → r ≡ parameter size → ReadsCode old new r result → result ≡ Some seed → place ≡ position depth seed size hash → size ≡ length keys → IsNodeAt old.bits old.at depth keys n
    → IsSlotOf hash place keys n.slots
unfolding is_leaf_seed
walk_leaf old new depth size r seed place hash result keys n some few r-is reads result-is place-is is there =
    let l = leaf_at old.bits old.at depth keys n (omega (arith, some, is)) (omega (arith, few, is)) there in
    let read = code_read old new r (parameter (length keys)) l.seed result reads (r-is ∙ ap parameter is) l.small l.stands in
    let same : seed ≡ l.seed = some_is seed l.seed (sym result-is ∙ read.0) in
    let k = length keys in
    let here : place ≡ position depth l.seed k hash = place-is ∙ ap (λ (s : ℕ). position depth s size hash) same ∙ ap (λ (m : ℕ). position depth l.seed m hash) is in
    let positive : 0 < k = omega (arith, some, is) in
    let within : place < k = omega (arith, here, position_small depth l.seed k hash positive) in
    let slots = slots-by_position (place_under depth l.seed k) keys place l.works (positions_below depth l.seed k keys positive) within in
    record {
      within = within;
      only =
          all_weaker (λ e. place_under depth l.seed k e ≡ place → slice_get (by_position (place_under depth l.seed k) keys) place ≡ Some e) (λ e. e.hash ≡ hash → slice_get n.slots place ≡ Some e) keys
          (λ e at hashed. ap (λ (x : List HashedKey). slice_get x place) l.slots_are ∙ at (ap (position depth l.seed k) hashed ∙ sym here)) slots;
    }

some_and : {A : Type 0} (P Q : A → Type 0) (o : Option A) → ((x : A) → P x → Q x) → IsSomeAnd o P → IsSomeAnd o Q
some_and P Q None f p = p
some_and P Q (Some x) f p = f x p

-- what a call of walk promises
abbrev pub Leads : Reading → ℕ → ℕ → ℕ → Option ℕ → Type 0
Leads old depth size hash result = (keys : List HashedKey) (n : Node) → size ≡ length keys → IsNodeAt old.bits old.at depth keys n → IsSomeAnd result (λ slot. IsSlotOf hash slot keys n.slots)

pub walk_left : (old new : Reading) (depth size left r seed place hash : ℕ) (result slot : Option ℕ) → 8 < size → r ≡ parameter size → left ≡ left_of size → place < left → ReadsCode old new r result → result ≡ Some seed → place ≡ position depth seed size hash → Leads new (depth + 1) left hash slot → Leads old depth size hash slot
walk_left old new depth size left r seed place hash result slot many r-is left-is less reads result-is place-is leads = λ keys n is there.
    let s = split_at old.bits old.at depth keys n (omega (arith, many, is)) there in
    let k = length keys in
    let read = code_read old new r (parameter k) s.seed result reads (r-is ∙ ap parameter is) s.small s.stands in
    let same : seed ≡ s.seed = some_is seed s.seed (sym result-is ∙ read.0) in
    let here : place ≡ position depth s.seed k hash = place-is ∙ ap (λ (x : ℕ). position depth x size hash) same ∙ ap (λ (m : ℕ). position depth s.seed m hash) is in
    let lefts = filter (goes_left depth s.seed k) keys in
    let left_long : left ≡ length lefts = left-is ∙ ap left_of is ∙ sym s.left_long in
    let there2 = moved_node old new (old.at + length (rice_code (parameter k) s.seed)) (depth + 1) lefts s.one read.1 s.left in
    let below : position depth s.seed k hash < left_of k = omega (arith, here, less, left-is, ap left_of is) in
    let some = left_some k (omega (arith, many, is)) in
    some_and (λ x. IsSlotOf hash x lefts s.one.slots) (λ x. IsSlotOf hash x keys n.slots) slot
    (λ x found.
    record {
      within = omega (arith, found.within, s.left_long, some.1);
      only =
          all_weaker (λ key. key.hash ≡ hash → key.hash ≡ hash → slice_get s.one.slots x ≡ Some key) (λ key. key.hash ≡ hash → slice_get n.slots x ≡ Some key) keys
          (λ key f hashed. ap (λ (l : List HashedKey). slice_get l x) s.slots_are ∙ get_front s.one.slots s.other.slots x key (f hashed hashed))
          (all_unfiltered (λ key. key.hash ≡ hash) (λ key. key.hash ≡ hash → slice_get s.one.slots x ≡ Some key) (goes_left depth s.seed k) keys
          (λ key hashed. ap (λ (h : ℕ). ltb (position depth s.seed k h) (left_of k)) hashed ∙ lt-ltb (position depth s.seed k hash) (left_of k) below) found.only);
    })
    (leads lefts s.one left_long there2)

pub walk_right : (old new next : Reading) (depth size left right r seed place hash : ℕ) (result : Option ℕ) (slot : ℕ) → 8 < size → r ≡ parameter size → left ≡ left_of size → right ≡ size - left → left ≤ place → ReadsCode old new r result → result ≡ Some seed → place ≡ position depth seed size hash → Skips new next left
    → Leads next (depth + 1) right hash (Some slot) → Leads old depth size hash (Some (left + slot))
walk_right old new next depth size left right r seed place hash result slot many r-is left-is right-is more reads result-is place-is skips leads = λ keys n is there.
    let s = split_at old.bits old.at depth keys n (omega (arith, many, is)) there in
    let k = length keys in
    let read = code_read old new r (parameter k) s.seed result reads (r-is ∙ ap parameter is) s.small s.stands in
    let same : seed ≡ s.seed = some_is seed s.seed (sym result-is ∙ read.0) in
    let here : place ≡ position depth s.seed k hash = place-is ∙ ap (λ (x : ℕ). position depth x size hash) same ∙ ap (λ (m : ℕ). position depth s.seed m hash) is in
    let lefts = filter (goes_left depth s.seed k) keys in
    let rights = filter (goes_right depth s.seed k) keys in
    let left_long : left ≡ length lefts = left-is ∙ ap left_of is ∙ sym s.left_long in
    let right_long : right ≡ length rights = omega (arith, right-is, left-is, is, ap left_of is, s.right_long) in
    let at = old.at + length (rice_code (parameter k) s.seed) in
    let behind = skipped old new next (depth + 1) left lefts s.one at left_long read.1 s.left skips in
    let there2 = moved_node old next (at + length s.one.bits) (depth + 1) rights s.other behind s.right in
    let above : left_of k ≤ position depth s.seed k hash = omega (arith, here, more, left-is, ap left_of is) in
    let some = left_some k (omega (arith, many, is)) in
    let found : IsSlotOf hash slot rights s.other.slots = leads rights s.other right_long there2 in
    let one_long : length s.one.slots ≡ left = node_long s.left.splits s.left.tries (depth + 1) lefts s.one s.left.node_is ∙ sym left_long in
    record {
      within = omega (arith, found.within, s.right_long, left-is, ap left_of is, some.1);
      only =
          all_weaker (λ key. key.hash ≡ hash → key.hash ≡ hash → slice_get s.other.slots slot ≡ Some key) (λ key. key.hash ≡ hash → slice_get n.slots (left + slot) ≡ Some key) keys
          (λ key f hashed. ap (λ (l : List HashedKey). slice_get l (left + slot)) s.slots_are ∙ get_back s.one.slots s.other.slots slot (left + slot) (Some key) (omega (arith, one_long)) (f hashed hashed))
          (all_unfiltered (λ key. key.hash ≡ hash) (λ key. key.hash ≡ hash → slice_get s.other.slots slot ≡ Some key) (goes_right depth s.seed k) keys
          (λ key hashed. ap (λ (h : ℕ). not (ltb (position depth s.seed k h) (left_of k))) hashed ∙ ap not (le-ltb (position depth s.seed k hash) (left_of k) above)) found.only);
    }

pub slot_below : (old : Reading) (depth size hash : ℕ) (slot : ℕ) → Leads old depth size hash (Some slot) → HasNode old.bits old.at depth size → slot < size
slot_below old depth size hash slot leads h = let found : IsSlotOf hash slot h.keys h.built.slots = leads h.keys h.built h.size_is h.there in omega (arith, found.within, h.size_is)

pub none_leads : {A : Type 0} (P : A → Type 0) (o : Option A) → o ≡ None → IsSomeAnd o P → ⊥
none_leads P None is p = p
none_leads P (Some x) is p = absurd cc

-- a walk doesn't end in nothing
pub leads_some : (old : Reading) (depth size hash : ℕ) (o : Option ℕ) → Leads old depth size hash o → HasNode old.bits old.at depth size → o ≡ None → ⊥
leads_some old depth size hash o leads h none = none_leads (λ slot. IsSlotOf hash slot h.keys h.built.slots) o none (leads h.keys h.built h.size_is h.there)

differs : {x : ℕ} → Some x ≡ None → ⊥
differs e = cc

pub seed_some : (result : Option ℕ) → ((seed : ℕ) × (seed < 2 ^ 16) × (result ≡ Some seed)) → result ≡ None → ⊥
seed_some result found none = differs (sym found.2 ∙ none)

pub seed_small : (result : Option ℕ) (field : ℕ) → ((seed : ℕ) × (seed < 2 ^ 16) × (result ≡ Some seed)) → result ≡ Some field → field < 2 ^ 32
seed_small result field found is = let same : field ≡ found.0 = some_is field found.0 (sym is ∙ found.2) in omega (arith, same, found.1)
