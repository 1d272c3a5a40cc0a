-- What a node is made of, and which slots its keys have.
use Rattle.std.proofs.Common.{◌≡◌, ℕ, zero, suc, ◌+◌, ◌<◌, ◌≤◌, Bool, true, false, cond, List, [], ◌∷◌, ◌++◌, length, take, drop, Option, Some, None, refl, sym, ap, subst, ◌∙◌, arith, inl, inr}
use Rattle.std.specs.List.{filter, AllByRecursion}
use Rattle.std.specs.Option.{option_map, option_and_then}
use Rattle.std.proofs.lemmas.Bool.{cases_lt}
use Rattle.std.proofs.lemmas.List.{length-append, drop-drop, take-take, take_all, take-append-le, drop-take, drop_at}
use Rattle.bit_store.specs.Rice.{StandsAt}
use Rattle.recsplit_index.specs.declared.keys.HashedKey.{HashedKey}
use Rattle.recsplit_index.specs.Nodes.{Node, node, leaf, leaf_of, place_under, first_from, first_below, is_leaf_seed, is_split_seed, goes_left, goes_right, joined}
use Rattle.recsplit_index.proofs.Placements.{leaf_by, leaf_few, node_leaf, node_split, both_lengths}
use Rattle.recsplit_index.proofs.Positions.{position_small, length-by_position, all-by_position}
use Rattle.recsplit_index.proofs.Every.{some_is, all_both, all_filtered}

-- ---- the first seed

found_by : (works : ℕ → Bool) (more x s : ℕ) (t : Bool) → works x ≡ t → (first_from works more (x + 1) ≡ Some s → (works s ≡ true) × (s < x + 1 + more)) → cond t (Some x) (first_from works more (x + 1)) ≡ Some s → (works s ≡ true) × (s < x + suc more)
found_by works more x s true is rest found =
    let same : x ≡ s = some_is x s found in
    (ap works (sym same) ∙ is, omega (arith, same))
found_by works more x s false is rest found =
    let later = rest found in
    (later.0, omega (arith, later.1))

found_from : (works : ℕ → Bool) (more x s : ℕ) → first_from works more x ≡ Some s → (works s ≡ true) × (s < x + more)
unfolding first_from
found_from works zero x s found = absurd cc
found_from works (suc more) x s found = found_by works more x s (works x) refl (found_from works more (x + 1) s) found

pub map_some : {A B : Type 0} (f : A → B) (o : Option A) (y : B) → option_map f o ≡ Some y → (x : A) × (o ≡ Some x) × (f x ≡ y)
map_some f None y is = absurd cc
map_some f (Some x) y is = (x, refl, some_is (f x) y is)

pub then_some : {A B : Type 0} (f : A → Option B) (o : Option A) (y : B) → option_and_then f o ≡ Some y → (x : A) × (o ≡ Some x) × (f x ≡ Some y)
then_some f None y is = absurd cc
then_some f (Some x) y is = (x, refl, is)

-- ---- the shape of a node

pub record IsLeafNode (tries depth : ℕ) (keys : List HashedKey) (n : Node) : Type 0 where
  pub seed : ℕ
  pub below : seed < tries
  pub works : is_leaf_seed depth keys seed ≡ true
  pub node_is : leaf_of depth keys seed ≡ n

pub leaf_shape : (tries depth : ℕ) (keys : List HashedKey) (n : Node) → 2 ≤ length keys → leaf tries depth keys ≡ Some n → IsLeafNode tries depth keys n
leaf_shape tries depth keys n some is =
    let found = map_some (leaf_of depth keys) (first_below (is_leaf_seed depth keys) tries) n (sym (leaf_by tries depth keys (first_below (is_leaf_seed depth keys) tries) some refl) ∙ is) in
    let first = found_from (is_leaf_seed depth keys) tries 0 found.0 found.1 in
    record { seed = found.0; below = omega (arith, first.1); works = first.0; node_is = found.2 }

pub record IsSplitNode (splits tries depth : ℕ) (keys : List HashedKey) (n : Node) : Type 0 where
  pub seed : ℕ
  pub below : seed < tries
  pub works : is_split_seed depth keys seed ≡ true
  pub one : Node
  pub other : Node
  pub left_is : node splits tries (depth + 1) (filter (goes_left depth seed (length keys)) keys) ≡ Some one
  pub right_is : node splits tries (depth + 1) (filter (goes_right depth seed (length keys)) keys) ≡ Some other
  pub node_is : joined (length keys) seed one other ≡ n

pub split_shape : (splits tries depth : ℕ) (keys : List HashedKey) (n : Node) → 8 < length keys → node (suc splits) tries depth keys ≡ Some n → IsSplitNode splits tries depth keys n
split_shape splits tries depth keys n many is =
    let size = length keys in
    let first = first_below (is_split_seed depth keys) tries in
    let right : ℕ → Option Node = λ seed. node splits tries (depth + 1) (filter (goes_right depth seed size) keys) in
    let left : ℕ → Option Node = λ seed. node splits tries (depth + 1) (filter (goes_left depth seed size) keys) in
    let seeded = then_some (λ seed. option_and_then (λ one. option_map (joined size seed one) (right seed)) (left seed)) first n (sym (node_split splits tries depth keys first many refl) ∙ is) in
    let lefts = then_some (λ one. option_map (joined size seeded.0 one) (right seeded.0)) (left seeded.0) n seeded.2 in
    let rights = map_some (joined size seeded.0 lefts.0) (right seeded.0) n lefts.2 in
    let found = found_from (is_split_seed depth keys) tries 0 seeded.0 seeded.1 in
    record { seed = seeded.0; below = omega (arith, found.1); works = found.0; one = lefts.0; other = rights.0; left_is = lefts.1; right_is = rights.1; node_is = rights.2 }

pub few_shape : (tries depth : ℕ) (keys : List HashedKey) (n : Node) → length keys < 2 → leaf tries depth keys ≡ Some n → n ≡ record { bits = []; slots = keys }
few_shape tries depth keys n few is = some_is n (record { bits = []; slots = keys }) (sym is ∙ leaf_few tries depth keys few)

-- ---- the slots of a node

pub positions_below : (depth seed size : ℕ) (keys : List HashedKey) → 0 < size → AllByRecursion (λ key. place_under depth seed size key < size) keys
positions_below depth seed size [] some = tt
positions_below depth seed size (key ∷ keys) some = (position_small depth seed size key.hash some, positions_below depth seed size keys some)

leaf_long : (tries depth : ℕ) (keys : List HashedKey) (n : Node) → leaf tries depth keys ≡ Some n → length n.slots ≡ length keys
leaf_long tries depth keys n is =
    elim (cases_lt (length keys) 2) [
      | inl few ↦ ap (λ (m : Node). length m.slots) (few_shape tries depth keys n few is)
      | inr some ↦
          let l = leaf_shape tries depth keys n some is in
          ap (λ (m : Node). length m.slots) (sym l.node_is) ∙ length-by_position (place_under depth l.seed (length keys)) keys (positions_below depth l.seed (length keys) keys (omega arith))
    ]

leaf_all : (P : HashedKey → Type 0) (tries depth : ℕ) (keys : List HashedKey) (n : Node) → leaf tries depth keys ≡ Some n → AllByRecursion P keys → AllByRecursion P n.slots
leaf_all P tries depth keys n is all =
    elim (cases_lt (length keys) 2) [
      | inl few ↦ subst (λ (m : Node). AllByRecursion P m.slots) (sym (few_shape tries depth keys n few is)) all
      | inr some ↦
          let l = leaf_shape tries depth keys n some is in
          subst (λ (m : Node). AllByRecursion P m.slots) l.node_is (all-by_position P (place_under depth l.seed (length keys)) keys all)
    ]

pub node_long : (splits tries depth : ℕ) (keys : List HashedKey) (n : Node) → node splits tries depth keys ≡ Some n → length n.slots ≡ length keys
unfolding node
node_long zero tries depth keys n is = leaf_long tries depth keys n is
node_long (suc splits) tries depth keys n is =
    elim (cases_lt 8 (length keys)) [
      | inl many ↦
          let s = split_shape splits tries depth keys n many is in
          ap (λ (m : Node). length m.slots) (sym s.node_is) ∙ length-append s.one.slots s.other.slots
          ∙ omega (arith, node_long splits tries (depth + 1) (filter (goes_left depth s.seed (length keys)) keys) s.one s.left_is, node_long splits tries (depth + 1) (filter (goes_right depth s.seed (length keys)) keys) s.other s.right_is, both_lengths depth keys s.seed)
      | inr few ↦ leaf_long tries depth keys n (sym (node_leaf (suc splits) tries depth keys few) ∙ is)
    ]

pub node_all : (P : HashedKey → Type 0) (splits tries depth : ℕ) (keys : List HashedKey) (n : Node) → node splits tries depth keys ≡ Some n → AllByRecursion P keys → AllByRecursion P n.slots
unfolding node
node_all P zero tries depth keys n is all = leaf_all P tries depth keys n is all
node_all P (suc splits) tries depth keys n is all =
    elim (cases_lt 8 (length keys)) [
      | inl many ↦
          let s = split_shape splits tries depth keys n many is in
          let left = filter (goes_left depth s.seed (length keys)) keys in
          let right = filter (goes_right depth s.seed (length keys)) keys in
          subst (λ (m : Node). AllByRecursion P m.slots) s.node_is
          (all_both P s.one.slots s.other.slots (node_all P splits tries (depth + 1) left s.one s.left_is (all_filtered P (goes_left depth s.seed (length keys)) keys all))
          (node_all P splits tries (depth + 1) right s.other s.right_is (all_filtered P (goes_right depth s.seed (length keys)) keys all)))
      | inr few ↦ leaf_all P tries depth keys n (sym (node_leaf (suc splits) tries depth keys few) ∙ is) all
    ]

-- ---- codes that stand in bits

pub stands_front : (bits : List Bool) (at : ℕ) (c d : List Bool) → StandsAt bits at (c ++ d) → StandsAt bits at c
stands_front bits at c d is =
    let whole = drop at bits in
    let len : length (c ++ d) ≡ length c + length d = length-append c d in
    let both : take (length c + length d) whole ≡ c ++ d = ap (λ (n : ℕ). take n whole) (sym len) ∙ is in
    sym (take-take (length c) (length c + length d) whole (omega arith)) ∙ ap (take (length c)) both ∙ take-append-le (length c) c d (omega arith) ∙ take_all (length c) c (omega arith)

pub stands_back : (bits : List Bool) (at : ℕ) (c d : List Bool) → StandsAt bits at (c ++ d) → StandsAt bits (at + length c) d
stands_back bits at c d is =
    let whole = drop at bits in
    let len : length (c ++ d) ≡ length c + length d = length-append c d in
    let both : take (length c + length d) whole ≡ c ++ d = ap (λ (n : ℕ). take n whole) (sym len) ∙ is in
    ap (take (length d)) (sym (drop-drop (length c) at bits)) ∙ sym (drop-take (length c) (length d) whole) ∙ ap (drop (length c)) both ∙ drop_at c d (length c) refl
