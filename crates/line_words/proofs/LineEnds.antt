-- A carriage return at the end of a line.
use Rattle.std.proofs.Common.{◌≡◌, ℕ, ◌-◌, List, [], ◌∷◌, length, get_or, take, refl, ap, arith}
use Rattle.std.proofs.lemmas.Grind.{common_steps}
use Rattle.std.proofs.lemmas.Option.{get_or_from_slice_get}
use Rattle.line_words.specs.Lines.{without_cr}

-- a line with no carriage return at its end stays
pub without_cr-keeps : (line : List ℕ) → (get_or line (length line - 1) 0 ≡ 13 → ⊥) → without_cr line ≡ line
without_cr-keeps [] ends = refl
without_cr-keeps (b ∷ []) ends = grind arith
without_cr-keeps (b ∷ c ∷ line) ends = ap (λ rest. b ∷ rest) (without_cr-keeps (c ∷ line) (λ h. ends (grind (arith, common_steps, h))))

-- one carriage return at the end goes
pub without_cr-drops : (line : List ℕ) → get_or line (length line - 1) 0 ≡ 13 → without_cr line ≡ take (length line - 1) line
without_cr-drops [] ends = refl
without_cr-drops (b ∷ []) ends = grind arith
without_cr-drops (b ∷ c ∷ line) ends = grind (arith, common_steps, without_cr-drops (c ∷ line) (grind (arith, common_steps, ends)))

-- what a line is without its carriage return
pub ruleset cr_ends = (without_cr-keeps, without_cr-drops, get_or_from_slice_get)
