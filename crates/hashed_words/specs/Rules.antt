-- What a kind of file asks of its words, and the first word that breaks it.
use Rattle.std.specs.Prelude.{ℕ, ◌+◌, Bool, List, [], ◌∷◌, if◌then◌else◌, Option, Some, None}

-- whether a key word stands behind the one before it, where there is one; and how much is counted with a value
-- word, if so much was counted before, unless it breaks a rule
pub record Rules : Type 0 where
  pub key_stands : Option (List ℕ) → List ℕ → Bool
  pub count_value : ℕ → List ℕ → Option ℕ

-- a value word breaks its rule at its place, or else the words go on
abbrev pub behind_value : ℕ → (ℕ → Option ℕ) → Option ℕ → Option ℕ
behind_value place go_on None = Some place
behind_value place go_on (Some counted) = go_on counted

-- of words that begin with a key word: the place of the first that breaks a rule. A value word that is missing
-- breaks one at the place where it would stand.
abbrev pub bad_from : Rules → Option (List ℕ) → ℕ → ℕ → List (List ℕ) → Option ℕ
bad_from rules last counted place [] = None
bad_from rules last counted place (key ∷ []) = if rules.key_stands last key then Some (place + 1) else Some place
bad_from rules last counted place (key ∷ value ∷ words) =
    if rules.key_stands last key then
    behind_value (place + 1) (λ sum. bad_from rules (Some key) sum (place + 2) words) (rules.count_value counted value)
    else Some place

abbrev pub bad_place : Rules → List (List ℕ) → Option ℕ
bad_place rules words = bad_from rules None 0 0 words
