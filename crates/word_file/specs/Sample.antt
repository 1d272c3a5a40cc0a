-- Pairs to try accessors on.
use Rattle.std.specs.Prelude.{ℕ, zero, suc, ◌+◌, ◌*◌, List, [], ◌∷◌, ◌++◌}
use Rattle.std.specs.Int.{w16, to_be_bytes}

-- the first n odd numbers, each of two bytes and with an empty value
unfoldable pub odd_words : ℕ → List (List ℕ)
odd_words zero = []
odd_words (suc n) = odd_words n ++ to_be_bytes w16 (2 * n + 1) ∷ [] ∷ []
