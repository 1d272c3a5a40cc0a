-- How a listed read goes from key to key.
use Rattle.std.specs.Prelude.{◌≡◌, ℕ, true, List, [], ◌∷◌, ◌++◌, if◌then◌else◌, Option, Some, None, IfSome}
use Rattle.std.specs.Ordering.{nat_cmp, is_lt}
use Rattle.std.specs.Cmp.Lexicographic.{slice_cmp}
use Rattle.agg_model.specs.declared.page.PageRow.{PageRow}
use Rattle.agg_model.specs.Listed.{is_from, is_under}

-- the least key above this one
abbrev pub behind_key : List ℕ → List ℕ
behind_key k = k ++ 0 ∷ []

-- no key from one on and below the next one has numbers; no next one is an open end
pub record IsNext (numbers : List ℕ → List ℕ) (first : List ℕ) (next : Option (List ℕ)) : Type 0 where
  pub from : IfSome next (λ k. is_from (Some first) k ≡ true)
  pub passed : (k : List ℕ) → is_from (Some first) k ≡ true → is_under next k ≡ true → numbers k ≡ []

-- the lesser of two keys, where there are two
abbrev pub lesser : Option (List ℕ) → Option (List ℕ) → Option (List ℕ)
lesser None other = other
lesser (Some k) None = Some k
lesser (Some k) (Some l) = if is_lt (slice_cmp nat_cmp l k) then Some l else Some k

-- the row of a key that has a value
abbrev pub row_with : List ℕ → Option (List ℕ) → List PageRow
row_with k None = []
row_with k (Some value) = record { key = k; value = Some value } ∷ []

-- the row of a key that has numbers
abbrev pub row_at : List ℕ → Option (List ℕ) → List ℕ → List PageRow
row_at k value [] = []
row_at k value (n ∷ ns) = record { key = k; value = value } ∷ []
