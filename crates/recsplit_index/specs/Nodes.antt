-- The nodes of a bucket: which seeds part its keys, how they are written, and which slot each key gets.
use Rattle.std.specs.Prelude.{◌≡◌, ℕ, zero, suc, ◌+◌, ◌*◌, Bool, true, false, not, ◌&&◌, ◌||◌, nat_lt, nat_le, ◌==◌, if◌then◌else◌, List, [], ◌∷◌, ◌++◌, length, map, Option, Some, None}
use Rattle.std.specs.Option.{option_map, option_and_then}
use Rattle.std.specs.List.{filter, flat_map, count_by, range_with_len}
use Rattle.std.specs.Int.{div_ceil}
use Rattle.bit_store.specs.Rice.{rice_code}
use Rattle.recsplit_index.specs.declared.keys.HashedKey.{HashedKey}
use Rattle.recsplit_index.specs.Hash.{position}

-- a node's codes one after the other, and its keys by slot
pub record Node : Type 0 where
  pub bits : List Bool
  pub slots : List HashedKey

-- the first number below the limit that works
unfoldable pub first_from : (ℕ → Bool) → ℕ → ℕ → Option ℕ
first_from works zero x = None
first_from works (suc more) x = if works x then Some x else first_from works more (x + 1)

abbrev pub first_below : (ℕ → Bool) → ℕ → Option ℕ
first_below works limit = first_from works limit 0

abbrev pub is_among : ℕ → List ℕ → Bool
is_among x [] = false
is_among x (y ∷ ys) = y == x || is_among x ys

-- the numbers differ from those before them, and from one another
unfoldable pub all_new : List ℕ → List ℕ → Bool
all_new before [] = true
all_new before (x ∷ xs) = not (is_among x before) && all_new (x ∷ before) xs

abbrev pub all_differ : List ℕ → Bool
all_differ xs = all_new [] xs

-- where a key of a node stands under a seed
abbrev pub place_under : ℕ → ℕ → ℕ → HashedKey → ℕ
place_under depth seed size key = position depth seed size key.hash

-- a seed of a leaf: the positions are all different
unfoldable pub is_leaf_seed : ℕ → List HashedKey → ℕ → Bool
is_leaf_seed depth keys seed = all_differ (map (place_under depth seed (length keys)) keys)

-- how many keys go left at a split
unfoldable pub left_of : ℕ → ℕ
left_of size = 8 * div_ceil (div_ceil size 8) 2

abbrev pub goes_left : ℕ → ℕ → ℕ → HashedKey → Bool
goes_left depth seed size key = nat_lt (place_under depth seed size key) (left_of size)

abbrev pub goes_right : ℕ → ℕ → ℕ → HashedKey → Bool
goes_right depth seed size key = not (goes_left depth seed size key)

-- a seed of a split: as many keys go left as are to
unfoldable pub is_split_seed : ℕ → List HashedKey → ℕ → Bool
is_split_seed depth keys seed = count_by (goes_left depth seed (length keys)) keys == left_of (length keys)

-- the parameter of a node's code, by the node's size
unfoldable pub parameter : ℕ → ℕ
parameter size =
    if size == 2 then 0 else if size == 3 then 1 else if size == 4 then 3 else if size == 5 then 4 else if size == 6 then 5 else if size == 7 then 7 else if size == 8 then 8
    else 2

-- the keys of a leaf by position
unfoldable pub by_position : (HashedKey → ℕ) → List HashedKey → List HashedKey
by_position place keys = flat_map (λ p. filter (λ key. place key == p) keys) (range_with_len 0 (length keys))

abbrev pub leaf_of : ℕ → List HashedKey → ℕ → Node
leaf_of depth keys seed = record { bits = rice_code (parameter (length keys)) seed; slots = by_position (place_under depth seed (length keys)) keys }

-- a node of at most eight keys: of at most one nothing is written
unfoldable pub leaf : ℕ → ℕ → List HashedKey → Option Node
leaf tries depth keys =
    if nat_lt (length keys) 2 then Some (record { bits = []; slots = keys })
    else option_map (leaf_of depth keys) (first_below (is_leaf_seed depth keys) tries)

-- the code of a split, then the left node, then the right
abbrev pub joined : ℕ → ℕ → Node → Node → Node
joined size seed one other = record { bits = rice_code (parameter size) seed ++ (one.bits ++ other.bits); slots = one.slots ++ other.slots }

-- the node of these keys, where each seed is found within the tries; a node has fewer splits than keys
unfoldable pub node : ℕ → ℕ → ℕ → List HashedKey → Option Node
node zero tries depth keys = leaf tries depth keys
node (suc splits) tries depth keys =
    if nat_le (length keys) 8 then leaf tries depth keys
    else
    option_and_then
    (λ seed.
    option_and_then (λ one. option_map (joined (length keys) seed one) (node splits tries (depth + 1) (filter (goes_right depth seed (length keys)) keys)))
    (node splits tries (depth + 1) (filter (goes_left depth seed (length keys)) keys)))
    (first_below (is_split_seed depth keys) tries)

abbrev pub offsets_of : List HashedKey → List ℕ
offsets_of keys = map (λ key. key.offset) keys

-- the node is put behind bits and offsets where there is one
abbrev pub PutsNode : Bool → Option Node → List Bool → List ℕ → List Bool → List ℕ → Type 0
PutsNode placed None bits offsets new_bits new_offsets = placed ≡ false
PutsNode placed (Some n) bits offsets new_bits new_offsets = (placed ≡ true) × (new_bits ≡ bits ++ n.bits) × (new_offsets ≡ offsets ++ offsets_of n.slots)
