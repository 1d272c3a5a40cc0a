-- Places among the keys of paired words.
use Rattle.std.specs.Prelude.{◌≡◌, ℕ, ◌*◌, ◌^◌, ◌<◌, ◌≤◌, List, length, drop}
use Rattle.std.specs.Int.{w64, from_be_bytes}
use Rattle.word_file.specs.Paired.{key_count, key_at, key_offset, IsBelow}
use Rattle.btree_index.specs.Levels.{entries}

-- the first place whose key isn't below, or the number of keys
pub record IsFirstNotBelow (words : List (List ℕ)) (key : List ℕ) (place : ℕ) : Type 0 where
  pub within : place ≤ key_count words
  pub before : (p : ℕ) → p < place → IsBelow (key_at words p) key
  pub there : place < key_count words → IsBelow (key_at words place) key → ⊥

-- the entries of level j before m are below the key
abbrev pub AreBelow : List (List ℕ) → List ℕ → ℕ → ℕ → Type 0
AreBelow words key j m = (k : ℕ) → k < m → k * 16 ^ j < key_count words → IsBelow (key_at words (k * 16 ^ j)) key

-- its entry m, where there is one, isn't
abbrev pub IsNotBelow : List (List ℕ) → List ℕ → ℕ → ℕ → Type 0
IsNotBelow words key j m = m * 16 ^ j < key_count words → IsBelow (key_at words (m * 16 ^ j)) key → ⊥

-- the part begins with the entries of level j
pub record IsLevel (words : List (List ℕ)) (j : ℕ) (part : List ℕ) : Type 0 where
  pub long : 8 * entries (key_count words) j ≤ length part
  pub reads : (k : ℕ) → k < entries (key_count words) j → from_be_bytes w64 (drop (8 * k) part) ≡ key_offset words (k * 16 ^ j)
