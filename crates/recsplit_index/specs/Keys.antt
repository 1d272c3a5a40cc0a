-- The keys of paired words, with their hashes and in their order.
use Rattle.std.specs.Prelude.{◌≡◌, ℕ, zero, suc, ◌<◌, List, [], map}
use Rattle.std.specs.List.{range_with_len}
use Rattle.std.specs.Ordering.{nat_cmp}
use Rattle.std.specs.Cmp.Lexicographic.{slice_cmp}
use Rattle.std.specs.BTreeMap.{insert_entry}
use Rattle.word_file.specs.Paired.{key_count, key_at, key_offset}
use Rattle.recsplit_index.specs.declared.keys.HashedKey.{HashedKey}
use Rattle.recsplit_index.specs.Hash.{key_hash}

-- each key's hash under a salt, with its offset
abbrev pub hashed_key : ℕ → List (List ℕ) → ℕ → HashedKey
hashed_key salt words place = record { hash = key_hash salt (key_at words place); offset = key_offset words place }

unfoldable pub hashed_keys : ℕ → List (List ℕ) → List HashedKey
hashed_keys salt words = map (hashed_key salt words) (range_with_len 0 (key_count words))

-- the first n keys with their offsets, in ascending order of the keys
unfoldable pub first_by_key : List (List ℕ) → ℕ → List (List ℕ × ℕ)
first_by_key words zero = []
first_by_key words (suc n) = insert_entry (slice_cmp nat_cmp) (first_by_key words n) (key_at words n) (key_offset words n)

-- all of them
abbrev pub by_key : List (List ℕ) → List (List ℕ × ℕ)
by_key words = first_by_key words (key_count words)

-- the key stands at a place, and its word at the offset
pub record IsKeyAt (words : List (List ℕ)) (key : List ℕ) (offset : ℕ) : Type 0 where
  pub place : ℕ
  pub within : place < key_count words
  pub key_is : key_at words place ≡ key
  pub offset_is : offset ≡ key_offset words place

-- no key is this one
abbrev pub IsNoKey : List (List ℕ) → List ℕ → Type 0
IsNoKey words key = (place : ℕ) → place < key_count words → key_at words place ≡ key → ⊥
