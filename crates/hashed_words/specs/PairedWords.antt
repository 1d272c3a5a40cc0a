-- The words of pairs, one behind the other.
use Rattle.std.specs.Prelude.{ℕ, List, [], ◌∷◌, map}

-- a key, its value, the next key and so on
abbrev pub paired_words : List (List ℕ × List ℕ) → List (List ℕ)
paired_words [] = []
paired_words (p ∷ ps) = p.0 ∷ p.1 ∷ paired_words ps

abbrev pub keys_of : List (List ℕ × List ℕ) → List (List ℕ)
keys_of ps = map (λ p. p.0) ps

abbrev pub values_of : List (List ℕ × List ℕ) → List (List ℕ)
values_of ps = map (λ p. p.1) ps
