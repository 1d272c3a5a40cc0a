-- Where an open row stands.
use Rattle.std.proofs.Common.{◌≡◌, Bool, true, false, cond, ◌||◌, ℕ, zero, suc, ◌<◌, List, [], ◌∷◌, ◌++◌, length, get_or, refl, sym, ◌∙◌, ap, arith, append_assoc}
use Rattle.core_machine.specs.declared.machine.Opening.{Opening}
use Rattle.core_machine.specs.Sound.{is_row, has_row}
use Rattle.core_machine.specs.Entries.{without_row}
use Rattle.core_run.specs.declared.running.Row.{Row}
use Rattle.core_run.specs.Running.{opening_of, openings}
use Rattle.core_run.specs.Rows.{IsPlaceOf}

lift : {k n : ℕ} → k < n → suc k < suc n
lift h = omega (arith, h)

lower : {k n : ℕ} → suc k < suc n → k < n
lower h = omega (arith, h)

first : (n : ℕ) → 0 < suc n
first n = omega arith

none-below : {n : ℕ} → n < 0 → ⊥
none-below h = omega (arith, h)

module _ (caller number : ℕ) where
  -- no row before this place is the caller's of this number
  abbrev pub ArePassed : ℕ → List Row → Type 0
  ArePassed i rows = (k : ℕ) (d : Row) → k < i → is_row caller number (opening_of (get_or rows k d)) ≡ false

  pub none-there : (rows : List Row) → ArePassed (length rows) rows → has_row (openings rows) caller number ≡ false
  none-there [] passed = refl
  none-there (row ∷ rows) passed =
      ap (λ b. b || has_row (openings rows) caller number) (passed 0 row (first (length rows)))
      ∙ none-there rows (λ k d below. passed (suc k) d (lift below))

  skip : (b : Bool) (row : Opening) (rows : List Opening) → b ≡ false → cond b rows (row ∷ without_row caller number rows) ≡ row ∷ without_row caller number rows
  skip b row rows e = ap (λ t. cond t rows (row ∷ without_row caller number rows)) e

  take-it : (b : Bool) (row : Opening) (rows : List Opening) → b ≡ true → cond b rows (row ∷ without_row caller number rows) ≡ rows
  take-it b row rows e = ap (λ t. cond t rows (row ∷ without_row caller number rows)) e

  or-right : (a b : Bool) → b ≡ true → (a || b) ≡ true
  or-right true b h = refl
  or-right false b h = h

  pub place-there : (rows : List Row) (i : ℕ) (d : Row) → i < length rows → ArePassed i rows → is_row caller number (opening_of (get_or rows i d)) ≡ true → IsPlaceOf rows caller number i
  place-there [] i d below passed is = absurd (none-below below)
  place-there (row ∷ rows) zero d below passed is = record {
    within = below;
    there = ap (λ b. b || has_row (openings rows) caller number) is;
    without = take-it (is_row caller number (opening_of row)) (opening_of row) (openings rows) is;
  }
  place-there (row ∷ rows) (suc i) d below passed is =
      let rest = place-there rows i d (lower below) (λ k e h. passed (suc k) e (lift h)) is in
      record {
        within = below;
        there = or-right (is_row caller number (opening_of row)) (has_row (openings rows) caller number) rest.there;
        without =
            skip (is_row caller number (opening_of row)) (opening_of row) (openings rows) (passed 0 row (first i))
            ∙ ap (λ l. opening_of row ∷ l) rest.without;
      }

-- ---- lists of rows

pub openings-push : (rows : List Row) (r : Row) → openings (rows ++ r ∷ []) ≡ openings rows ++ opening_of r ∷ []
openings-push [] r = refl
openings-push (row ∷ rows) r = ap (λ l. opening_of row ∷ l) (openings-push rows r)

-- one more row was turned into one with a set
pub openings-step : (rows new : List Row) (r : Row) (row : Opening) (rest items all : List Opening) → new ≡ rows ++ r ∷ [] → opening_of r ≡ row → items ≡ row ∷ rest → openings rows ++ items ≡ all → openings new ++ rest ≡ all
openings-step rows new r row rest items all pushed is here whole =
    ap (λ l. openings l ++ rest) pushed
    ∙ ap (λ l. l ++ rest) (openings-push rows r)
    ∙ append_assoc (openings rows) (opening_of r ∷ []) rest
    ∙ (λ i. openings rows ++ (is i ∷ rest))
    ∙ ap (λ l. openings rows ++ l) (sym here)
    ∙ whole
