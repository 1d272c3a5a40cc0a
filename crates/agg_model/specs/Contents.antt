-- What the files of an entity hold over a range of steps.
use Rattle.std.specs.Prelude.{ℕ, ◌*◌, ◌==◌, ◌&&◌, nat_eq, nat_le, nat_lt, Bool, false, List, [], ◌∷◌, map, if◌then◌else◌, Option, Some, None, is_some}
use Rattle.std.specs.List.{filter}
use Rattle.std.specs.Cmp.Lexicographic.{pointwise}
use Rattle.agg_model.specs.declared.entity.Entity.{Entity}
use Rattle.agg_model.specs.declared.change.Change.{Change}
use Rattle.agg_model.specs.declared.contents.Pair.{Pair}
use Rattle.agg_model.specs.declared.contents.Before.{Before}
use Rattle.agg_model.specs.declared.contents.Times.{Times}
use Rattle.agg_model.specs.Entity.{entity_number}
use Rattle.agg_model.specs.Place.{is_of}
use Rattle.agg_model.specs.ChangeList.{value_at}
use Rattle.agg_model.specs.Arranged.{arranged}

-- the change is one of this entity, with a number from one on and below another
unfoldable pub is_within : Entity → ℕ → ℕ → Change → Bool
is_within e from to c = (entity_number c.entity == entity_number e) && (nat_le from c.tx && nat_lt c.tx to)

-- and one of this key too
unfoldable pub is_of_within : Entity → List ℕ → ℕ → ℕ → Change → Bool
is_of_within e k from to c = is_of e k c && (nat_le from c.tx && nat_lt c.tx to)

-- the changes of an entity in the steps from a on and below b, by key and number
unfoldable pub changes_over : ℕ → List Change → Entity → ℕ → ℕ → List Change
changes_over size cs e a b = arranged (filter (is_within e (a * size) (b * size)) cs)

-- the first of the changes has this key
abbrev pub goes_on : List ℕ → List Change → Bool
goes_on k [] = false
goes_on k (c ∷ cs) = pointwise nat_eq k c.key

-- each key of changes that are sorted by it, once
abbrev pub keys_of : List Change → List (List ℕ)
keys_of [] = []
keys_of (c ∷ cs) = if goes_on c.key cs then keys_of cs else c.key ∷ keys_of cs

-- the value, and the empty word for none
abbrev pub word_of : Option (List ℕ) → List ℕ
word_of None = []
word_of (Some value) = value

-- the key with its value just before n
abbrev pub pair_at : List Change → Entity → ℕ → List ℕ → Pair
pair_at cs e n k = record { key = k; value = word_of (value_at cs e k n) }

-- of the keys of files from step 0 on, those with a value
abbrev pub kept_keys : List Change → Entity → ℕ → ℕ → List (List ℕ) → List (List ℕ)
kept_keys cs e n a ks = if a == 0 then filter (λ k. is_some (value_at cs e k n)) ks else ks

-- `.kv`: the keys that changed there, each with its value at the end
unfoldable pub kv_contents : ℕ → List Change → Entity → ℕ → ℕ → List Pair
kv_contents size cs e a b =
    map (pair_at cs e (b * size)) (kept_keys cs e (b * size) a (keys_of (changes_over size cs e a b)))

-- the change's key and number with the value just before it
abbrev pub before_of : List Change → Entity → Change → Before
before_of cs e c = record { key = c.key; tx = c.tx; value = word_of (value_at cs e c.key c.tx) }

-- `.v`: the changes there, each with the value just before it
unfoldable pub v_contents : ℕ → List Change → Entity → ℕ → ℕ → List Before
v_contents size cs e a b = map (before_of cs e) (changes_over size cs e a b)

-- the numbers from one on and below another at which a key changed, ascending
unfoldable pub times : List Change → Entity → List ℕ → ℕ → ℕ → List ℕ
times cs e k from to = map (λ c. c.tx) (filter (is_of_within e k from to) cs)

abbrev pub times_of : List Change → Entity → ℕ → ℕ → List ℕ → Times
times_of cs e from to k = record { key = k; items = times cs e k from to }

-- `.ef`: the keys that changed there, each with its numbers there
unfoldable pub ef_contents : ℕ → List Change → Entity → ℕ → ℕ → List Times
ef_contents size cs e a b =
    map (times_of cs e (a * size) (b * size)) (keys_of (changes_over size cs e a b))
