-- Hashes, piece by piece.
use Rattle.std.proofs.Common.{◌≡◌, ℕ, suc, ◌+◌, ◌-◌, ◌<◌, ◌≤◌, List, length, drop, ap, ◌∙◌, arith}
use Rattle.std.specs.Int.{div_ceil, w64, from_be_bytes}
use Rattle.std.proofs.lemmas.List.{drop-drop}
use Rattle.recsplit_index.specs.Hash.{hash_from, taken_in}

-- one piece more
pub piece_more : (start at : ℕ) (hash : ℕ) (key : List ℕ) → at < length key
    → hash_from (div_ceil (length key - at) 8) hash (drop at key) ≡ hash_from (div_ceil (length key - (at + 8)) 8) (taken_in hash (from_be_bytes w64 (drop at key))) (drop (at + 8) key)
unfolding hash_from
piece_more start at hash key lt =
    let count : div_ceil (length key - at) 8 ≡ suc (div_ceil (length key - (at + 8)) 8) = omega arith in
    ap (λ (n : ℕ). hash_from n hash (drop at key)) count
    ∙ ap (hash_from (div_ceil (length key - (at + 8)) 8) (taken_in hash (from_be_bytes w64 (drop at key)))) (drop-drop 8 at key)

-- no piece is left
pub piece_none : (at : ℕ) (hash : ℕ) (key : List ℕ) → length key ≤ at → hash_from (div_ceil (length key - at) 8) hash (drop at key) ≡ hash
unfolding hash_from
piece_none at hash key le =
    let count : div_ceil (length key - at) 8 ≡ 0 = omega arith in
    ap (λ (n : ℕ). hash_from n hash (drop at key)) count
