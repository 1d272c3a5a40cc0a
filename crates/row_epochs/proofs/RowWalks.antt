-- Laws of looks at rows that ascend: what a look finds, and what is behind it.
use Rattle.std.proofs.Common.{◌≡◌, ◌⊎◌, inl, inr, ℕ, zero, suc, ◌+◌, ◌-◌, ◌<◌, ◌≤◌, Bool, true, false, not, cond, ◌&&◌, List, [], ◌∷◌, ◌++◌, length, take, drop, get_or, slice_get, Option, Some, None, IfSome, IsTrue, refl, sym, ap, subst, ◌∙◌, arith, min, ltb-true, ltb-false, leb-true, leb-false}
use Rattle.std.specs.Prelude.{◌==◌, nat_eq, nat_le, nat_lt, if◌then◌else◌}
use Rattle.std.specs.Option.{option_map}
use Rattle.std.specs.List.{filter}
use Rattle.std.specs.declared.cmp.Ordering.{Ordering}
use Rattle.std.specs.declared.cmp.Ordering.TheVariants.{Less, Equal, Greater}
use Rattle.std.specs.Ordering.{nat_cmp, ordering_then, ordering_reverse, is_lt, is_gt, is_eq}
use Rattle.std.specs.Cmp.{unsigned_tied, nat_cmp_total}
use Rattle.std.specs.Cmp.Lexicographic.{slice_cmp, pointwise, texts_ties}
use Rattle.std.proofs.lemmas.Bool.{lt-ltb, le-ltb, cases_Bool}
use Rattle.std.proofs.lemmas.List.{take-append-drop, length-take, length-drop, get_or-drop}
use Rattle.agg_outside.specs.declared.rows.RowId.{RowId}
use Rattle.agg_outside.specs.declared.rows.Row.{Row}
use Rattle.agg_outside.specs.Rows.{id_cmp, is_before, is_same, ascends_after, ascends, last_or, first_from, last_before, rows_from}
use Rattle.agg_outside.specs.RowOrder.{id_cmp_total, before_itself, before_trans, before_not_back, after-get_or, ascends-after, ascends_after-before, rows_from-place, none_before-from}
use Rattle.agg_model.specs.declared.entity.Entity.{Entity}
use Rattle.agg_model.specs.declared.entity.Entity.TheVariants.{Accounts, Storage, Code, LogAddrs, LogTopics, TracesFrom, TracesTo}
use Rattle.agg_model.specs.Entity.{entity_number}
use Rattle.agg_model.specs.Place.{is_of}
use Rattle.agg_model.specs.Contents.{is_of_within, is_within}
use Rattle.row_epochs.specs.Places.{behind, place_at, first_place, next_piece}
use Rattle.row_epochs.specs.Changes.{entity_of, change_of}

-- ---- entities by number

pub entity_number-entity_of : (n : ℕ) → n ≤ 6 → entity_number (entity_of n) ≡ n
unfolding entity_number entity_of
entity_number-entity_of zero h = refl
entity_number-entity_of (suc zero) h = refl
entity_number-entity_of (suc (suc zero)) h = refl
entity_number-entity_of (suc (suc (suc zero))) h = refl
entity_number-entity_of (suc (suc (suc (suc zero)))) h = refl
entity_number-entity_of (suc (suc (suc (suc (suc zero))))) h = refl
entity_number-entity_of (suc (suc (suc (suc (suc (suc zero)))))) h = refl
entity_number-entity_of (suc (suc (suc (suc (suc (suc (suc n))))))) h = absurd (omega arith)

pub entity_back : (e : Entity) → entity_of (entity_number e) ≡ e
unfolding entity_of entity_number
entity_back Accounts = refl
entity_back Storage = refl
entity_back Code = refl
entity_back LogAddrs = refl
entity_back LogTopics = refl
entity_back TracesFrom = refl
entity_back TracesTo = refl

-- ---- the id behind another

both : (a b : Bool) → (if a then b else false) ≡ true → (a ≡ true) × (b ≡ true)
both true b h = (refl, h)
both false b h = cc h

are_both : (a b : Bool) → a ≡ true → b ≡ true → (if a then b else false) ≡ true
are_both true b p q = q
are_both false b p q = cc p

behind_by : (r s t d e : Ordering) → is_lt e ≡ not (is_lt (ordering_reverse d)) → is_lt (ordering_then r (ordering_then s (ordering_then t e))) ≡ not (is_lt (ordering_reverse (ordering_then r (ordering_then s (ordering_then t d)))))
behind_by Less s t d e h = refl
behind_by Greater s t d e h = refl
behind_by Equal Less t d e h = refl
behind_by Equal Greater t d e h = refl
behind_by Equal Equal Less d e h = refl
behind_by Equal Equal Greater d e h = refl
behind_by Equal Equal Equal d e h = h

nat_lt-cmp : (a b : ℕ) → is_lt (nat_cmp a b) ≡ nat_lt a b
nat_lt-cmp a b =
    elim (nat_lt a b) as (λ t. is_lt (cond t Less (cond (a == b) Equal Greater)) ≡ t) [
      | true ↦ refl
      | false ↦ elim (a == b) as (λ u. is_lt (cond u Equal Greater) ≡ false) [ true ↦ refl | false ↦ refl ]
    ]

lt_suc-by : (a b : ℕ) (t : Bool) → nat_lt b a ≡ t → nat_lt a (b + 1) ≡ not t
lt_suc-by a b true e = let h : b < a = ltb-true b a e in le-ltb a (b + 1) (omega arith)
lt_suc-by a b false e = let h : a ≤ b = ltb-false b a e in lt-ltb a (b + 1) (omega arith)

nat_cmp-back : (a b : ℕ) → ordering_reverse (nat_cmp a b) ≡ nat_cmp b a
nat_cmp-back a b = sym (nat_cmp_total.antisymm b a)

-- what isn't after an id is before the one behind it
pub before_behind : (x y : RowId) → is_before x (behind y) ≡ not (is_before y x)
unfolding id_cmp
before_behind x y =
    behind_by (nat_cmp x.entity y.entity) (slice_cmp nat_cmp x.key y.key) (nat_cmp x.tx y.tx) (nat_cmp x.born y.born) (nat_cmp x.born (y.born + 1))
    (nat_lt-cmp x.born (y.born + 1) ∙ lt_suc-by x.born y.born (nat_lt y.born x.born) refl ∙ ap not (sym (ap is_lt (nat_cmp-back x.born y.born) ∙ nat_lt-cmp y.born x.born)))
    ∙ ap (λ r. not (is_lt r)) (sym (id_cmp_total.antisymm y x))

-- ---- rows from a place on

rows_from-after : (low : RowId) (rows : List Row) → ascends_after low rows ≡ true → rows_from (behind low) rows ≡ rows
rows_from-after low [] s = refl
rows_from-after low (row ∷ rows) s =
    let parts = both _ _ s in
    let not_before : is_before row.id (behind low) ≡ false = before_behind row.id low ∙ ap not parts.0 in
    rw not_before (ap (λ (l : List Row). row ∷ l) (rows_from-after low rows (ascends_after-before low row.id rows parts.0 parts.1)))

-- behind a row come the rows after it
pub rows_from-place_of : (rows : List Row) (i : ℕ) (d : Row) → ascends rows ≡ true → i < length rows → rows_from (behind (get_or rows i d).id) rows ≡ drop (suc i) rows
rows_from-place_of [] i d s below = absurd (omega arith)
rows_from-place_of (row ∷ rows) zero d s below =
    let before : is_before row.id (behind row.id) ≡ true = before_behind row.id row.id ∙ ap not (before_itself row.id) in
    rw before (rows_from-after row.id rows s)
rows_from-place_of (row ∷ rows) (suc i) d s below =
    let lower : i < length rows = omega arith in
    let later : is_before row.id (get_or rows i d).id ≡ true = after-get_or row.id rows i d s lower in
    let before : is_before row.id (behind (get_or rows i d).id) ≡ true =
    before_behind row.id (get_or rows i d).id ∙ ap not (before_not_back row.id (get_or rows i d).id later) in
    rw before (rows_from-place_of rows i d (ascends-after row.id rows s) lower)

-- the rows from a place on are those behind so many
rows_from-drop-by : (p : RowId) (row : Row) (rows : List Row) (t : Bool) → is_before row.id p ≡ t → ascends (row ∷ rows) ≡ true → ((j : ℕ) × (rows_from p rows ≡ drop j rows)) → (j : ℕ) × (rows_from p (row ∷ rows) ≡ drop j (row ∷ rows))
rows_from-drop-by p row rows true e s rest = (suc rest.0, rw e rest.1)
rows_from-drop-by p row rows false e s rest =
    (0, rows_from-place p (row ∷ rows) 0 (record { within = omega arith; before = refl; rest = none_before-from p (row ∷ rows) 0 row s (omega arith) e }))

pub rows_from-drop : (p : RowId) (rows : List Row) → ascends rows ≡ true → (j : ℕ) × (rows_from p rows ≡ drop j rows)
rows_from-drop p [] s = (0, refl)
rows_from-drop p (row ∷ rows) s =
    rows_from-drop-by p row rows (is_before row.id p) refl s (rows_from-drop p rows (ascends-after row.id rows s))

drop_nil : {A : Type 0} (n : ℕ) → drop {A = A} n [] ≡ []
drop_nil zero = refl
drop_nil (suc n) = refl

drop_drop : {A : Type 0} (j k : ℕ) (xs : List A) → drop k (drop j xs) ≡ drop (j + k) xs
drop_drop zero k xs = ap (λ n. drop n xs) (let e : k ≡ 0 + k = omega arith in e)
drop_drop (suc j) k [] = drop_nil k ∙ sym (drop_nil (suc j + k))
drop_drop (suc j) k (x ∷ xs) = drop_drop j k xs ∙ ap (λ n. drop n (x ∷ xs)) (let e : suc (j + k) ≡ suc j + k = omega arith in e)

-- behind one of the rows from a place on come the others
pub rows_from-behind : (p : RowId) (rows : List Row) (k : ℕ) (d : Row) → ascends rows ≡ true → k < length (rows_from p rows) → rows_from (behind (get_or (rows_from p rows) k d).id) rows ≡ drop (suc k) (rows_from p rows)
rows_from-behind p rows k d s below =
    let at = rows_from-drop p rows s in
    let j = at.0 in
    let in_rest : k < length (drop j rows) = subst (λ (l : List Row). k < length l) at.1 below in
    let lower : j + k < length rows = omega (arith, length-drop j rows, in_rest) in
    let same : get_or (rows_from p rows) k d ≡ get_or rows (j + k) d = ap (λ (l : List Row). get_or l k d) at.1 ∙ get_or-drop j rows k d in
    ap (λ (r : Row). rows_from (behind r.id) rows) same
    ∙ rows_from-place_of rows (j + k) d s lower
    ∙ sym (drop_drop j (suc k) rows ∙ ap (λ n. drop n rows) (let e : j + suc k ≡ suc (j + k) = omega arith in e))
    ∙ ap (λ (l : List Row). drop (suc k) l) (sym at.1)

first_from-head-by : (p : RowId) (row : Row) (rows : List Row) (t : Bool) → first_from p rows ≡ slice_get (rows_from p rows) 0 → cond t (first_from p rows) (Some row) ≡ slice_get (cond t (rows_from p rows) (row ∷ rows_from p rows)) 0
first_from-head-by p row rows true h = h
first_from-head-by p row rows false h = refl

pub first_from-head : (p : RowId) (rows : List Row) → first_from p rows ≡ slice_get (rows_from p rows) 0
first_from-head p [] = refl
first_from-head p (row ∷ rows) = first_from-head-by p row rows (is_before row.id p) (first_from-head p rows)

head_some : (xs : List Row) (r : Row) → slice_get xs 0 ≡ Some r → (xs ≡ r ∷ drop 1 xs) × (get_or xs 0 r ≡ r) × (0 < length xs)
head_some [] r e = cc e
head_some (x ∷ xs) r e = let same : x ≡ r = cc e in (ap (λ (y : Row). y ∷ xs) same, same, omega arith)

head_none : (xs : List Row) → slice_get xs 0 ≡ None → xs ≡ []
head_none [] e = refl
head_none (x ∷ xs) e = cc e

-- the row that a look finds, and those behind it
pub rows_from-found : (p : RowId) (rows : List Row) (r : Row) → ascends rows ≡ true → first_from p rows ≡ Some r → rows_from p rows ≡ r ∷ rows_from (behind r.id) rows
rows_from-found p rows r s e =
    let parts = head_some (rows_from p rows) r (sym (first_from-head p rows) ∙ e) in
    let below : 0 < length (rows_from p rows) = parts.2 in
    parts.0 ∙ ap (λ (l : List Row). r ∷ l) (sym (rows_from-behind p rows 0 r s below) ∙ ap (λ (x : Row). rows_from (behind x.id) rows) parts.1)

pub rows_from-none_found : (p : RowId) (rows : List Row) → first_from p rows ≡ None → rows_from p rows ≡ []
rows_from-none_found p rows e = head_none (rows_from p rows) (sym (first_from-head p rows) ∙ e)

-- ---- pieces

slice_get-some : {A : Type 0} (xs : List A) (k : ℕ) → k < length xs → (x : A) × (slice_get xs k ≡ Some x) × (get_or xs k x ≡ x)
slice_get-some [] k below = absurd (omega arith)
slice_get-some (x ∷ xs) zero below = (x, refl, refl)
slice_get-some (x ∷ xs) (suc k) below = slice_get-some xs k (omega arith)

slice_get-get_or : {A : Type 0} (xs : List A) (k : ℕ) (x : A) → slice_get xs k ≡ Some x → (k < length xs) × (get_or xs k x ≡ x)
slice_get-get_or [] k x e = cc e
slice_get-get_or (y ∷ xs) zero x e = let same : y ≡ x = cc e in (omega arith, same)
slice_get-get_or (y ∷ xs) (suc k) x e = let rest = slice_get-get_or xs k x e in let low : k < length xs = rest.0 in (omega arith, rest.1)

take-short : {A : Type 0} (n : ℕ) (xs : List A) → length (take n xs) < n → take n xs ≡ xs
take-short zero xs h = absurd (omega arith)
take-short (suc n) [] h = refl
take-short {A} (suc n) (x ∷ xs) h = ap (λ (l : List A). x ∷ l) (take-short n xs (omega arith))

get_or-take : {A : Type 0} (n k : ℕ) (xs : List A) (d : A) → k < n → get_or (take n xs) k d ≡ get_or xs k d
get_or-take zero k xs d h = absurd (omega arith)
get_or-take (suc n) k [] d h = refl
get_or-take (suc n) zero (x ∷ xs) d h = refl
get_or-take (suc n) (suc k) (x ∷ xs) d h = get_or-take n k xs d (omega arith)

-- what a piece leaves: nothing
last_piece-by : (size : ℕ) (xs : List Row) (t : Bool) → nat_lt (length (take size xs)) size ≡ t → 1 ≤ size
    → cond t None (option_map (λ (row : Row). behind row.id) (slice_get (take size xs) (length (take size xs) - 1))) ≡ None → xs ≡ take size xs
last_piece-by size xs true e some none = sym (take-short size xs (ltb-true (length (take size xs)) size e))
last_piece-by size xs false e some none =
    let full : size ≤ length (take size xs) = ltb-false (length (take size xs)) size e in
    let last = slice_get-some (take size xs) (length (take size xs) - 1) (omega arith) in
    cc (none, ap (λ (o : Option Row). option_map (λ (row : Row). behind row.id) o) last.1)

pub last_piece : (size : ℕ) (p : RowId) (rows piece : List Row) → piece ≡ take size (rows_from p rows) → 1 ≤ size → next_piece size piece ≡ None → rows_from p rows ≡ piece
last_piece size p rows piece is some none =
    last_piece-by size (rows_from p rows) (nat_lt (length (take size (rows_from p rows))) size) refl some (ap (next_piece size) (sym is) ∙ none) ∙ sym is

more_pieces-by : (size : ℕ) (p : RowId) (rows : List Row) (q : RowId) (t : Bool) (o : Option Row) → nat_lt (length (take size (rows_from p rows))) size ≡ t → slice_get (take size (rows_from p rows)) (length (take size (rows_from p rows)) - 1) ≡ o → ascends rows ≡ true
    → cond t None (option_map (λ (row : Row). behind row.id) o) ≡ Some q → rows_from p rows ≡ take size (rows_from p rows) ++ rows_from q rows
more_pieces-by size p rows q true o e is s more = cc more
more_pieces-by size p rows q false None e is s more = cc more
more_pieces-by size p rows q false (Some r) e is s more =
    let xs = rows_from p rows in
    let at = slice_get-get_or (take size xs) (length (take size xs) - 1) r is in
    let full : size ≤ length (take size xs) = ltb-false (length (take size xs)) size e in
    let there : length (take size xs) - 1 < length (take size xs) = at.0 in
    let long : length (take size xs) ≡ min size (length xs) = length-take size xs in
    let k = length (take size xs) - 1 in
    let low : k < size = omega arith in
    let within : k < length xs = omega arith in
    let last : get_or xs k r ≡ r = sym (get_or-take size k xs r low) ∙ at.1 in
    let next : suc k ≡ size = omega arith in
    let is_q : behind r.id ≡ q = cc more in
    sym (take-append-drop size xs)
    ∙ ap (λ (l : List Row). take size xs ++ l)
    (ap (λ n. drop n xs) (sym next) ∙ sym (rows_from-behind p rows k r s within) ∙ ap (λ (x : Row). rows_from (behind x.id) rows) last ∙ ap (λ (x : RowId). rows_from x rows) is_q)

-- the rest
pub more_pieces : (size : ℕ) (p : RowId) (rows piece : List Row) (q : RowId) → piece ≡ take size (rows_from p rows) → ascends rows ≡ true → next_piece size piece ≡ Some q → rows_from p rows ≡ piece ++ rows_from q rows
more_pieces size p rows piece q is s more =
    more_pieces-by size p rows q (nat_lt (length (take size (rows_from p rows))) size) (slice_get (take size (rows_from p rows)) (length (take size (rows_from p rows)) - 1)) refl refl s (ap (next_piece size) (sym is) ∙ more)
    ∙ ap (λ (l : List Row). l ++ rows_from q rows) (sym is)

-- ---- all rows are behind the first place

none_lower : (n : ℕ) → nat_lt n 0 ≡ false
none_lower n = le-ltb n 0 (omega arith)

first_by : (r s t u : Ordering) → is_lt r ≡ false → is_lt s ≡ false → is_lt t ≡ false → is_lt u ≡ false → is_lt (ordering_then r (ordering_then s (ordering_then t u))) ≡ false
first_by Less s t u a b c d = cc a
first_by Greater s t u a b c d = refl
first_by Equal Less t u a b c d = cc b
first_by Equal Greater t u a b c d = refl
first_by Equal Equal Less u a b c d = cc c
first_by Equal Equal Greater u a b c d = refl
first_by Equal Equal Equal u a b c d = d

no_key_lower : (key : List ℕ) → is_lt (slice_cmp nat_cmp key []) ≡ false
no_key_lower [] = refl
no_key_lower (b ∷ bs) = refl

not_before_first : (id : RowId) → is_before id first_place ≡ false
unfolding id_cmp
not_before_first id =
    first_by (nat_cmp id.entity 0) (slice_cmp nat_cmp id.key []) (nat_cmp id.tx 0) (nat_cmp id.born 0)
    (nat_lt-cmp id.entity 0 ∙ none_lower id.entity) (no_key_lower id.key) (nat_lt-cmp id.tx 0 ∙ none_lower id.tx) (nat_lt-cmp id.born 0 ∙ none_lower id.born)

pub rows_from-first : (rows : List Row) → rows_from first_place rows ≡ rows
rows_from-first [] = refl
rows_from-first (row ∷ rows) = rw (not_before_first row.id) (ap (λ (l : List Row). row ∷ l) (rows_from-first rows))

-- ---- windows of one key

le_not-by : (a b : ℕ) (t u : Bool) → nat_lt b a ≡ t → nat_le a b ≡ u → u ≡ not t
le_not-by a b true true e f = let h : b < a = ltb-true b a e in let g : a ≤ b = leb-true a b f in absurd (omega arith)
le_not-by a b true false e f = refl
le_not-by a b false true e f = refl
le_not-by a b false false e f = let h : a ≤ b = ltb-false b a e in let g : b < a = leb-false a b f in absurd (omega arith)

pub le_not : (a b : ℕ) → nat_le a b ≡ not (nat_lt b a)
le_not a b = le_not-by a b (nat_lt b a) (nat_le a b) refl refl

window_by : (r s : Ordering) (from to tx : ℕ) (t u : Ordering) → is_lt t ≡ false → is_lt u ≡ false
    → ((is_eq r && is_eq s) && (nat_le from tx && nat_lt tx to)) ≡ (not (is_lt (ordering_then r (ordering_then s (ordering_then (nat_cmp tx from) t)))) && is_lt (ordering_then r (ordering_then s (ordering_then (nat_cmp tx to) u))))
window_by Less s from to tx t u a b = refl
window_by Greater s from to tx t u a b = refl
window_by Equal Less from to tx t u a b = refl
window_by Equal Greater from to tx t u a b = refl
window_by Equal Equal from to tx t u a b =
    λ i. (le_not from tx ∙ ap not (sym (tie from t a))) i && sym (tie to u b) i
  where
    tied : (r t : Ordering) → is_lt t ≡ false → is_lt (ordering_then r t) ≡ is_lt r
    tied Less t h = refl
    tied Equal t h = h
    tied Greater t h = refl

    tie : (n : ℕ) (t : Ordering) → is_lt t ≡ false → is_lt (ordering_then (nat_cmp tx n) t) ≡ nat_lt tx n
    tie n t h = tied (nat_cmp tx n) t h ∙ nat_lt-cmp tx n

-- a row is of a window of a key where it is between the window's places
pub is_of_within-places : (e : Entity) (k : List ℕ) (from to : ℕ) (row : Row) → row.id.entity ≤ 6 → is_of_within e k from to (change_of row) ≡ (not (is_before row.id (place_at e k from)) && is_before row.id (place_at e k to))
unfolding is_of_within is_of change_of id_cmp
is_of_within-places e k from to row known =
    let apart : ((entity_number (entity_of row.id.entity) == entity_number e) && pointwise nat_eq row.id.key k) ≡ (is_eq (nat_cmp row.id.entity (entity_number e)) && is_eq (slice_cmp nat_cmp row.id.key k)) =
    (λ i. (entity_number-entity_of row.id.entity known i == entity_number e) && pointwise nat_eq row.id.key k)
    ∙ (λ i. sym (unsigned_tied row.id.entity (entity_number e)) i && texts_ties row.id.key k i) in
    ap (λ t. t && (nat_le from row.id.tx && nat_lt row.id.tx to)) apart
    ∙ window_by (nat_cmp row.id.entity (entity_number e)) (slice_cmp nat_cmp row.id.key k) from to row.id.tx (nat_cmp row.id.born 0) (nat_cmp row.id.born 0)
    (nat_lt-cmp row.id.born 0 ∙ none_lower row.id.born) (nat_lt-cmp row.id.born 0 ∙ none_lower row.id.born)
