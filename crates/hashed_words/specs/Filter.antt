-- A filter beside a hash accessor: a slot holds the mark of its keys, or says that they have several.
use Rattle.std.specs.Prelude.{◌≡◌, ℕ, ◌+◌, ◌%◌, ◌<◌, ◌||◌, nat_eq, Bool, true, List, length, slice_index_or}
use Rattle.word_file.specs.Paired.{key_count, key_at}
use Rattle.recsplit_index.specs.Hash.{key_hash, scaled}

-- from 1 to 255
abbrev pub mark_of : ℕ → ℕ
mark_of hash = hash % 255 + 1

-- what a slot holds lets keys of this mark pass; 255 lets all pass
abbrev pub passes : ℕ → ℕ → Bool
passes held mark = nat_eq held 255 || nat_eq held mark

-- a key of this hash passes, by the one slot that is its own; without slots every key does
abbrev pub Admits : List ℕ → ℕ → Type 0
Admits marks hash =
    0 < length marks → passes (slice_index_or marks (scaled hash (length marks)) 0) (mark_of hash) ≡ true

-- every key of these words passes
abbrev pub AdmitsKeys : List ℕ → List (List ℕ) → Type 0
AdmitsKeys marks words = (place : ℕ) → place < key_count words → Admits marks (key_hash 0 (key_at words place))
