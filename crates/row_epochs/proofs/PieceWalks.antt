-- Laws of reading rows in pieces, as far as so many are found.
use Rattle.std.proofs.Common.{◌≡◌, ℕ, zero, suc, ◌+◌, ◌<◌, ◌≤◌, Bool, true, false, cond, List, [], ◌∷◌, ◌++◌, length, take, map, Option, Some, None, refl, sym, ap, ◌∙◌, arith, min, append-nil, append_assoc}
use Rattle.std.specs.List.{filter}
use Rattle.std.proofs.Math.Seq.{take-length}
use Rattle.std.proofs.lemmas.List.Elements.{filter-append}
use Rattle.std.proofs.lemmas.List.{map-append, length-take, take-append-le}
use Rattle.agg_outside.specs.declared.rows.RowId.{RowId}
use Rattle.agg_outside.specs.declared.rows.Row.{Row}
use Rattle.agg_outside.specs.Rows.{ascends, rows_from}
use Rattle.row_epochs.specs.Seen.{is_seen, seen, is_dead, dead}
use Rattle.row_epochs.specs.Places.{first_place, next_piece, ids_of}
use Rattle.row_epochs.proofs.RowWalks.{rows_from-first, last_piece, more_pieces}

-- what is taken of what was taken and more
pub take-take_append : {A : Type 0} (n : ℕ) (xs ys : List A) → take n (take n xs ++ ys) ≡ take n (xs ++ ys)
take-take_append zero xs ys = refl
take-take_append (suc n) [] ys = refl
take-take_append {A} (suc n) (x ∷ xs) ys = ap (λ (l : List A). x ∷ l) (take-take_append n xs ys)

-- rows in two parts, of which the first is taken from at once
pub taken_on : (limit epoch : ℕ) (found new piece rest all : List Row) → new ≡ take limit (found ++ seen epoch piece) → all ≡ piece ++ rest → take limit (new ++ seen epoch rest) ≡ take limit (found ++ seen epoch all)
taken_on limit epoch found new piece rest all is whole =
    ap (λ (l : List Row). take limit (l ++ seen epoch rest)) is
    ∙ take-take_append limit (found ++ seen epoch piece) (seen epoch rest)
    ∙ ap (take limit) (append_assoc found (seen epoch piece) (seen epoch rest) ∙ ap (λ (l : List Row). found ++ l) (sym (filter-append (is_seen epoch) piece rest) ∙ ap (seen epoch) (sym whole)))

-- as many as are sought
pub taken_all : {A : Type 0} (limit : ℕ) (found more : List A) → length found ≤ limit → limit ≤ length found → take limit (found ++ more) ≡ found
taken_all limit found more short full =
    let same : limit ≡ length found = omega arith in
    take-append-le limit found more full ∙ ap (λ n. take n found) same ∙ take-length found

pub length-taken : {A : Type 0} (limit : ℕ) (xs : List A) → length (take limit xs) ≤ limit
length-taken limit xs = omega (arith, length-take limit xs)
