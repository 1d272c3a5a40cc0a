-- Laws of walks over what an epoch sees, in pieces.
use Rattle.std.proofs.Common.{◌≡◌, ℕ, zero, suc, ◌+◌, ◌<◌, ◌≤◌, Bool, true, false, cond, List, [], ◌∷◌, ◌++◌, length, take, All, Option, Some, None, refl, sym, ap, subst, ◌∙◌, arith}
use Rattle.std.specs.List.{filter}
use Rattle.std.proofs.lemmas.List.{length-append}
use Rattle.std.proofs.lemmas.List.Elements.{filter-append}
use Rattle.agg_outside.specs.declared.rows.RowId.{RowId}
use Rattle.agg_outside.specs.declared.rows.Row.{Row}
use Rattle.agg_outside.specs.Rows.{Held, is_before, ascends, rows_from}
use Rattle.row_epochs.specs.Seen.{is_alive, is_seen, seen}
use Rattle.row_epochs.specs.Places.{next_piece, first_place}
use Rattle.row_epochs.specs.Versions.{IsVersion, AreVersions}
use Rattle.row_epochs.proofs.RowWalks.{last_piece, more_pieces, rows_from-first}
use Rattle.row_epochs.proofs.WriteLaws.{seen-version, filter_agree-on, ascends-filter}
use Rattle.hot_keeper.specs.Pruning.{has_low_number, low_rows}

-- what the present epoch sees is what is alive
pub seen-alive : (epoch : ℕ) (rs : List Row) → All (IsVersion epoch) rs → seen epoch rs ≡ filter is_alive rs
seen-alive epoch rs all = filter_agree-on (is_seen epoch) is_alive rs (λ i d below. seen-version epoch _ (all i d below))

rows_from-filter-by : (q : Row → Bool) (p : RowId) (r : Row) (rs : List Row) (t u : Bool) → is_before r.id p ≡ t → q r ≡ u → filter q (rows_from p rs) ≡ rows_from p (filter q rs) → filter q (cond t (rows_from p rs) (r ∷ rows_from p rs)) ≡ rows_from p (cond u (r ∷ filter q rs) (filter q rs))
rows_from-filter-by q p r rs true true e f rest = rw e rest
rows_from-filter-by q p r rs true false e f rest = rest
rows_from-filter-by q p r rs false true e f rest = rw (f, e) (ap (λ (l : List Row). r ∷ l) rest)
rows_from-filter-by q p r rs false false e f rest = rw f rest

-- a test and a place, in either order
pub rows_from-filter : (q : Row → Bool) (p : RowId) (rs : List Row) → filter q (rows_from p rs) ≡ rows_from p (filter q rs)
rows_from-filter q p [] = refl
rows_from-filter q p (r ∷ rs) = rows_from-filter-by q p r rs (is_before r.id p) (q r) refl refl (rows_from-filter q p rs)

-- the rows that a walk in pieces goes over, at one place of it
pub record Walk (epoch : ℕ) (rs : List Row) (place : RowId) (piece : List Row) (next : Option RowId) : Type 0 where
  pub ends : next ≡ None → rows_from place (seen epoch rs) ≡ piece
  pub goes_on : (q : RowId) → next ≡ Some q → rows_from place (seen epoch rs) ≡ piece ++ rows_from q (seen epoch rs)

pub walk : (epoch last : ℕ) (h : Held) (place : RowId) (piece : List Row) (next : Option RowId) → AreVersions last h → piece ≡ take 256 (seen epoch (rows_from place h.rows)) → next ≡ next_piece 256 piece → Walk epoch h.rows place piece next
walk epoch last h place piece next are is more =
    let ys = seen epoch h.rows in
    let found : piece ≡ take 256 (rows_from place ys) = is ∙ ap (take 256) (rows_from-filter (is_seen epoch) place h.rows) in
    let order : ascends ys ≡ true = ascends-filter (is_seen epoch) h.rows are.in_order in
    record {
      ends = λ none. last_piece 256 place ys piece found (omega arith) (sym more ∙ none);
      goes_on = λ q some. more_pieces 256 place ys piece q found order (sym more ∙ some);
    }

-- ---- rows with low numbers

pub take-all : {A : Type 0} (n : ℕ) (xs : List A) → length xs ≤ n → take n xs ≡ xs
take-all zero [] h = refl
take-all (suc n) [] h = refl
take-all zero (x ∷ xs) h = absurd (omega arith)
take-all {A} (suc n) (x ∷ xs) h = ap (λ (l : List A). x ∷ l) (take-all n xs (omega arith))

module _ (tx : ℕ) where
  abbrev pub low : List Row → List Row
  low rs = filter (has_low_number tx) rs

  -- how many have been found
  pub count_on : (count sum more : ℕ) (piece rest all : List Row) → sum ≡ count + more → more ≡ length (low piece) → count + length (low (piece ++ rest)) ≡ length (low all) → sum + length (low rest) ≡ length (low all)
  count_on count sum more piece rest all is found whole =
      let e : length (low (piece ++ rest)) ≡ length (low piece) + length (low rest) = ap length (filter-append (has_low_number tx) piece rest) ∙ length-append (low piece) (low rest) in
      omega (arith, is, found, whole, e)

-- the low rows are those of what the present epoch sees
pub low-seen : (tx epoch : ℕ) (h : Held) → AreVersions epoch h → low tx (seen epoch h.rows) ≡ low_rows tx h.rows
low-seen tx epoch h are = ap (filter (has_low_number tx)) (seen-alive epoch h.rows are.versions)

-- ---- counting

pub low_present : (tx present epoch : ℕ) (h : Held) → present ≡ epoch → AreVersions epoch h → low tx (seen present h.rows) ≡ low_rows tx h.rows
low_present tx present epoch h same are = ap (λ n. low tx (seen n h.rows)) same ∙ low-seen tx epoch h are

abbrev pub CountLeft : ℕ → ℕ → List Row → RowId → ℕ → Type 0
CountLeft tx present rs place count = count + length (low tx (rows_from place (seen present rs))) ≡ length (low tx (seen present rs))

pub counted_first : (tx present : ℕ) (rs : List Row) (place : RowId) → place ≡ first_place → CountLeft tx present rs place 0
counted_first tx present rs place first =
    let e : length (low tx (rows_from place (seen present rs))) ≡ length (low tx (seen present rs)) =
    ap (λ (p : RowId). length (low tx (rows_from p (seen present rs)))) first ∙ ap (λ (l : List Row). length (low tx l)) (rows_from-first (seen present rs)) in
    omega (arith, e)

pub counted_all : (tx present epoch : ℕ) (h : Held) (place : RowId) (piece : List Row) (next : Option RowId) (count sum more : ℕ) → present ≡ epoch → AreVersions epoch h → Walk present h.rows place piece next
    → sum ≡ count + more → more ≡ length (low tx piece) → next ≡ None → CountLeft tx present h.rows place count → sum ≡ length (low_rows tx h.rows)
counted_all tx present epoch h place piece next count sum more same are w is found none left =
    let e : count + length (low tx piece) ≡ length (low tx (seen present h.rows)) = ap (λ (l : List Row). count + length (low tx l)) (sym (w.ends none)) ∙ left in
    is ∙ ap (λ n. count + n) found ∙ e ∙ ap length (low_present tx present epoch h same are)

pub counted_on : (tx present : ℕ) (h : Held) (place q : RowId) (piece : List Row) (next : Option RowId) (count sum more : ℕ) → Walk present h.rows place piece next → sum ≡ count + more → more ≡ length (low tx piece) → next ≡ Some q
    → CountLeft tx present h.rows place count → CountLeft tx present h.rows q sum
counted_on tx present h place q piece next count sum more w is found some left =
    count_on tx count sum more piece (rows_from q (seen present h.rows)) (seen present h.rows) is found
    (ap (λ (l : List Row). count + length (low tx l)) (sym (w.goes_on q some)) ∙ left)
