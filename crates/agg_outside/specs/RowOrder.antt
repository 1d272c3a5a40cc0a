-- Laws of the order of rows, and of a keeper's calls on rows that ascend.
use Rattle.std.proofs.Common.{◌≡◌, ◌⊎◌, inl, inr, ℕ, zero, suc, ◌<◌, ◌≤◌, Bool, true, false, if◌then◌else◌, List, [], ◌∷◌, length, take, drop, get_or, set, insert, remove, slice_get, Some, None, IsSome, IsNone, IsTrue, refl, sym, ap, ◌∙◌, arith}
use Rattle.std.proofs.lemmas.Bool.{cases_Bool}
use Rattle.std.specs.declared.cmp.Ordering.{Ordering}
use Rattle.std.specs.declared.cmp.Ordering.TheVariants.{Less, Equal, Greater}
use Rattle.std.specs.Ordering.{ordering_then, ordering_reverse, eq_by_cmp, is_lt, is_eq}
use Rattle.std.specs.Cmp.{IsTotalOrder, IsEquivalence, IsPartialOrder, eq_by_cmp_equiv, po, on_total, then_total, nat_cmp_total, tied_itself, tied_back}
use Rattle.std.specs.Cmp.Lexicographic.{nat_list_cmp_total}
use Rattle.std.specs.FinMap.{nat_cmp-IsAntisymmetric, slice_cmp-IsAntisymmetric}
use Rattle.agg_outside.specs.declared.rows.RowId.{RowId}
use Rattle.agg_outside.specs.declared.rows.Row.{Row}
use Rattle.agg_outside.specs.declared.rows.RowWrite.{RowWrite}
use Rattle.agg_outside.specs.declared.rows.RowWrite.TheVariants.{Insert, Kill, Remove, Floor}
use Rattle.agg_outside.specs.Rows.{id_cmp, is_before, is_same, ascends_after, ascends, last_or, first_from, last_before, rows_from, row_at, insert_row, kill_row, remove_row, Held, written, CanWrite, applied, CanApply}

-- ---- the order of ids

pub id_cmp_total : IsTotalOrder id_cmp
unfolding id_cmp
id_cmp_total =
    then_total (on_total (λ (r : RowId). r.entity) nat_cmp_total)
    (then_total (on_total (λ (r : RowId). r.key) nat_list_cmp_total)
    (then_total (on_total (λ (r : RowId). r.tx) nat_cmp_total) (on_total (λ (r : RowId). r.born) nat_cmp_total)))

-- `eq` and `partial_cmp` that go by it
pub id_eq_equiv : IsEquivalence (eq_by_cmp id_cmp)
id_eq_equiv = eq_by_cmp_equiv id_cmp_total

pub id_partial_order : IsPartialOrder (eq_by_cmp id_cmp) (λ a b. Some (id_cmp a b))
id_partial_order = po id_cmp_total (λ a b. refl)

-- what two comparisons in turn say of each
then_first : (r s : Ordering) → ordering_then r s ≡ Equal → r ≡ Equal
then_first Less s e = cc e
then_first Equal s e = refl
then_first Greater s e = cc e

then_second : (r s : Ordering) → ordering_then r s ≡ Equal → s ≡ Equal
then_second Less s e = cc e
then_second Equal s e = e
then_second Greater s e = cc e

-- two ids that tie are one
pub id_cmp_same : (a b : RowId) → id_cmp a b ≡ Equal → a ≡ b
unfolding id_cmp
id_cmp_same a b e =
    let rest = then_second _ _ e in
    let last = then_second _ _ rest in
    let entities : a.entity ≡ b.entity = nat_cmp-IsAntisymmetric _ _ (then_first _ _ e) in
    let keys : a.key ≡ b.key = slice_cmp-IsAntisymmetric nat_cmp-IsAntisymmetric _ _ (then_first _ _ rest) in
    let txs : a.tx ≡ b.tx = nat_cmp-IsAntisymmetric _ _ (then_first _ _ last) in
    let borns : a.born ≡ b.born = nat_cmp-IsAntisymmetric _ _ (then_second _ _ last) in
    λ i. record { entity = entities i; key = keys i; tx = txs i; born = borns i }

-- ---- before, same or after

lt_is : (r : Ordering) → is_lt r ≡ true → r ≡ Less
lt_is Less h = refl
lt_is Equal h = cc h
lt_is Greater h = cc h

eq_is : (r : Ordering) → is_eq r ≡ true → r ≡ Equal
eq_is Less h = cc h
eq_is Equal h = refl
eq_is Greater h = cc h

reverse_of_less : (r : Ordering) → r ≡ ordering_reverse Less → is_lt r ≡ false
reverse_of_less r e = ap is_lt e

-- nothing is before itself
pub before_itself : (a : RowId) → is_before a a ≡ false
before_itself a = ap is_lt (tied_itself id_cmp_total a)

pub same_itself : (a : RowId) → is_same a a ≡ true
same_itself a = ap is_eq (tied_itself id_cmp_total a)

pub same_is : (a b : RowId) → is_same a b ≡ true → a ≡ b
same_is a b h = id_cmp_same a b (eq_is (id_cmp a b) h)

pub before_trans : (a b c : RowId) → is_before a b ≡ true → is_before b c ≡ true → is_before a c ≡ true
before_trans a b c h k = ap is_lt (id_cmp_total.trans a b c (lt_is (id_cmp a b) h) (lt_is (id_cmp b c) k))

pub before_not_back : (a b : RowId) → is_before a b ≡ true → is_before b a ≡ false
before_not_back a b h = ap is_lt (id_cmp_total.antisymm b a ∙ ap ordering_reverse (lt_is (id_cmp a b) h))

pub before_not_same : (a b : RowId) → is_before a b ≡ true → is_same a b ≡ false
before_not_same a b h = ap is_eq (lt_is (id_cmp a b) h)

pub after_not_same : (a b : RowId) → is_before b a ≡ true → is_same a b ≡ false
after_not_same a b h = ap is_eq (id_cmp_total.antisymm a b ∙ ap ordering_reverse (lt_is (id_cmp b a) h))

pub same_not_before : (a b : RowId) → is_same a b ≡ true → is_before a b ≡ false
same_not_before a b h = ap is_lt (eq_is (id_cmp a b) h)

pub same_back : (a b : RowId) → is_same a b ≡ true → is_same b a ≡ true
same_back a b h = ap is_eq (tied_back id_cmp_total a b (eq_is (id_cmp a b) h))

three_by : (a b : RowId) (r : Ordering) → id_cmp a b ≡ r → (is_before a b ≡ true) ⊎ (a ≡ b) ⊎ (is_before b a ≡ true)
three_by a b Less e = inl (ap is_lt e)
three_by a b Equal e = inr (inl (id_cmp_same a b e))
three_by a b Greater e = inr (inr (ap is_lt (id_cmp_total.antisymm b a ∙ ap ordering_reverse e)))

-- before, same or after
pub three_ways : (a b : RowId) → (is_before a b ≡ true) ⊎ (a ≡ b) ⊎ (is_before b a ≡ true)
three_ways a b = three_by a b (id_cmp a b) refl

-- one that is neither before the other nor the same is after it
pub after_from_neither : (a b : RowId) → is_before a b ≡ false → is_same a b ≡ false → is_before b a ≡ true
after_from_neither a b h n = elim (three_ways a b) [
  | inl before ↦ cc (before, h)
  | inr rest ↦ elim rest [
    | inl same ↦ let e : is_same a b ≡ true = ap (λ (w : RowId). is_same a w) (sym same) ∙ same_itself a in cc (e, n)
    | inr after ↦ after
  ]
]

pub same_from_neither : (a b : RowId) → is_before a b ≡ false → is_before b a ≡ false → a ≡ b
same_from_neither a b h k = elim (three_ways a b) [
  | inl before ↦ cc (before, h)
  | inr rest ↦ elim rest [
    | inl same ↦ same
    | inr after ↦ cc (after, k)
  ]
]

-- before one that isn't after a third
pub before_then_not : (a b c : RowId) → is_before a b ≡ true → is_before c b ≡ false → is_before a c ≡ true
before_then_not a b c h n = elim (three_ways b c) [
  | inl before ↦ before_trans a b c h before
  | inr rest ↦ elim rest [
    | inl same ↦ ap (λ (w : RowId). is_before a w) (sym same) ∙ h
    | inr after ↦ cc (after, n)
  ]
]

-- not after one that is before a third
pub not_then_before : (a b c : RowId) → is_before b a ≡ false → is_before b c ≡ true → is_before a c ≡ true
not_then_before a b c n h = elim (three_ways a b) [
  | inl before ↦ before_trans a b c before h
  | inr rest ↦ elim rest [
    | inl same ↦ ap (λ (w : RowId). is_before w c) same ∙ h
    | inr after ↦ cc (after, n)
  ]
]

-- not after one that isn't after a third
pub not_then_not : (a b c : RowId) → is_before b a ≡ false → is_before c b ≡ false → is_before c a ≡ false
not_then_not a b c n m = elim (cases_Bool (is_before c a)) [
  | inl before ↦ let e = before_then_not c a b before n in cc (e, m)
  | inr not ↦ not
]

-- ---- rows that ascend

both_true : (a b : Bool) → (if a then b else false) ≡ true → (a ≡ true) × (b ≡ true)
both_true true b h = (refl, h)
both_true false b h = cc h

both_are : (a b : Bool) → a ≡ true → b ≡ true → (if a then b else false) ≡ true
both_are true b p q = q
both_are false b p q = cc p

-- rows after an id are after each that is before it
pub ascends_after-before : (low id : RowId) (rows : List Row) → is_before low id ≡ true → ascends_after id rows ≡ true → ascends_after low rows ≡ true
ascends_after-before low id [] h s = refl
ascends_after-before low id (row ∷ rows) h s =
    let parts = both_true _ _ s in
    both_are _ _ (before_trans low id row.id h parts.0) parts.1

pub ascends-after : (low : RowId) (rows : List Row) → ascends_after low rows ≡ true → ascends rows ≡ true
ascends-after low [] h = refl
ascends-after low (row ∷ rows) h = (both_true _ _ h).1

-- a row whose id is new
insert-ascends_after : (low : RowId) (new : Row) (rows : List Row) → is_before low new.id ≡ true → ascends_after low rows ≡ true → IsNone (row_at new.id rows) → ascends_after low (insert_row new rows) ≡ true
insert-ascends_after low new [] h s n = both_are _ _ h refl
insert-ascends_after low new (row ∷ rows) h s n =
    let parts = both_true _ _ s in
    elim (cases_Bool (is_before row.id new.id)) [
      | inl before ↦
          let fresh : IsNone (row_at new.id rows) = rw (before_not_same row.id new.id before) at n in
          rw before (both_are _ _ parts.0 (insert-ascends_after row.id new rows before parts.1 fresh))
      | inr not ↦ elim (cases_Bool (is_same row.id new.id)) [
        | inl same ↦ cc (rw same at n)
        | inr other ↦ rw not (both_are _ _ h (both_are _ _ (after_from_neither row.id new.id not other) parts.1))
      ]
    ]

pub insert-ascends : (new : Row) (rows : List Row) → ascends rows ≡ true → IsNone (row_at new.id rows) → ascends (insert_row new rows) ≡ true
insert-ascends new [] s n = refl
insert-ascends new (row ∷ rows) s n =
    elim (cases_Bool (is_before row.id new.id)) [
      | inl before ↦
          let fresh : IsNone (row_at new.id rows) = rw (before_not_same row.id new.id before) at n in
          rw before (insert-ascends_after row.id new rows before s fresh)
      | inr not ↦ elim (cases_Bool (is_same row.id new.id)) [
        | inl same ↦ cc (rw same at n)
        | inr other ↦ rw not (both_are _ _ (after_from_neither row.id new.id not other) s)
      ]
    ]

-- killing keeps the ids
killed-id : (b : Bool) (row : Row) (epoch : ℕ) → (if b then record row { killed = epoch } else row).id ≡ row.id
killed-id true row epoch = refl
killed-id false row epoch = refl

kill-ascends_after : (low id : RowId) (epoch : ℕ) (rows : List Row) → ascends_after low (kill_row id epoch rows) ≡ ascends_after low rows
kill-ascends_after low id epoch [] = refl
kill-ascends_after low id epoch (row ∷ rows) =
    elim (cases_Bool (is_same row.id id)) [
      | inl same ↦ rw (same, kill-ascends_after row.id id epoch rows) refl
      | inr other ↦ rw (other, kill-ascends_after row.id id epoch rows) refl
    ]

pub kill-ascends : (id : RowId) (epoch : ℕ) (rows : List Row) → ascends (kill_row id epoch rows) ≡ ascends rows
kill-ascends id epoch [] = refl
kill-ascends id epoch (row ∷ rows) =
    elim (cases_Bool (is_same row.id id)) [
      | inl same ↦ rw (same, kill-ascends_after row.id id epoch rows) refl
      | inr other ↦ rw (other, kill-ascends_after row.id id epoch rows) refl
    ]

remove-ascends_after : (low id : RowId) (rows : List Row) → ascends_after low rows ≡ true → ascends_after low (remove_row id rows) ≡ true
remove-ascends_after low id [] s = refl
remove-ascends_after low id (row ∷ rows) s =
    let parts = both_true _ _ s in
    elim (cases_Bool (is_same row.id id)) [
      | inl same ↦ rw same (remove-ascends_after low id rows (ascends_after-before low row.id rows parts.0 parts.1))
      | inr other ↦ rw other (both_are _ _ parts.0 (remove-ascends_after row.id id rows parts.1))
    ]

pub remove-ascends : (id : RowId) (rows : List Row) → ascends rows ≡ true → ascends (remove_row id rows) ≡ true
remove-ascends id [] s = refl
remove-ascends id (row ∷ rows) s =
    elim (cases_Bool (is_same row.id id)) [
      | inl same ↦ rw same (ascends-after row.id (remove_row id rows) (remove-ascends_after row.id id rows s))
      | inr other ↦ rw other (remove-ascends_after row.id id rows s)
    ]

pub written-ascends : (write : RowWrite) (held : Held) → ascends held.rows ≡ true → CanWrite write held → ascends (written write held).rows ≡ true
written-ascends (Insert row) held s can = insert-ascends row held.rows s can
written-ascends (Kill id epoch) held s can = kill-ascends id epoch held.rows ∙ s
written-ascends (Remove id) held s can = remove-ascends id held.rows s
written-ascends (Floor step) held s can = s

pub applied-ascends : (writes : List RowWrite) (held : Held) → ascends held.rows ≡ true → CanApply writes held → ascends (applied writes held).rows ≡ true
applied-ascends [] held s can = s
applied-ascends (write ∷ writes) held s can = applied-ascends writes (written write held) (written-ascends write held s can.0) can.1

-- ---- the place of an id

-- every row is before the id
abbrev pub all_before : RowId → List Row → Bool
all_before id [] = true
all_before id (row ∷ rows) = if is_before row.id id then all_before id rows else false

-- no row is before the id
abbrev pub none_before : RowId → List Row → Bool
none_before id [] = true
none_before id (row ∷ rows) = if is_before row.id id then false else none_before id rows

-- the rows before the id are so many, and come first
pub record IsPlace (id : RowId) (rows : List Row) (place : ℕ) : Type 0 where
  pub within : place ≤ length rows
  pub before : IsTrue (all_before id (take place rows))
  pub rest : IsTrue (none_before id (drop place rows))

none_parts : (a b : Bool) → (if a then false else b) ≡ true → (a ≡ false) × (b ≡ true)
none_parts true b h = cc h
none_parts false b h = (refl, h)

all_first : (id : RowId) (row : Row) (rows : List Row) → all_before id (row ∷ rows) ≡ true → is_before row.id id ≡ true
all_first id row rows h = (both_true (is_before row.id id) (all_before id rows) h).0

all_rest : (id : RowId) (row : Row) (rows : List Row) → all_before id (row ∷ rows) ≡ true → all_before id rows ≡ true
all_rest id row rows h = (both_true (is_before row.id id) (all_before id rows) h).1

none_first : (id : RowId) (row : Row) (rows : List Row) → none_before id (row ∷ rows) ≡ true → is_before row.id id ≡ false
none_first id row rows h = (none_parts (is_before row.id id) (none_before id rows) h).0

none_rest : (id : RowId) (row : Row) (rows : List Row) → none_before id (row ∷ rows) ≡ true → none_before id rows ≡ true
none_rest id row rows h = (none_parts (is_before row.id id) (none_before id rows) h).1

-- the place among the rows after the first
tail_place : (id : RowId) (row : Row) (rows : List Row) (place : ℕ) → IsPlace id (row ∷ rows) (suc place) → IsPlace id rows place
tail_place id row rows place p =
    let within : place ≤ length rows = let h = p.within in omega arith in
    record { within = within; before = all_rest id row (take place rows) p.before; rest = p.rest }

none_are : (a b : Bool) → a ≡ false → b ≡ true → (if a then false else b) ≡ true
none_are true b p q = cc p
none_are false b p q = q

-- a row of rows that are after an id is after it
pub after-get_or : (low : RowId) (rows : List Row) (i : ℕ) (row : Row) → ascends_after low rows ≡ true → i < length rows → is_before low (get_or rows i row).id ≡ true
after-get_or low [] i row s h = absurd (omega arith)
after-get_or low (r ∷ rows) zero row s h = (both_true _ _ s).0
after-get_or low (r ∷ rows) (suc i) row s h =
    let parts = both_true _ _ s in
    after-get_or low rows i row (ascends_after-before low r.id rows parts.0 parts.1) (omega arith)

none_before-after : (id low : RowId) (rows : List Row) → is_before low id ≡ false → ascends_after low rows ≡ true → none_before id rows ≡ true
none_before-after id low [] n s = refl
none_before-after id low (row ∷ rows) n s =
    let parts = both_true _ _ s in
    let not : is_before row.id id ≡ false = not_then_not id low row.id n (before_not_back low row.id parts.0) in
    none_are _ _ not (none_before-after id row.id rows not parts.1)

-- all up to a row that is before the id are
pub all_before-up : (id : RowId) (rows : List Row) (i : ℕ) (row : Row) → ascends rows ≡ true → i < length rows → is_before (get_or rows i row).id id ≡ true → all_before id (take (suc i) rows) ≡ true
all_before-up id [] i row s h b = absurd (omega arith)
all_before-up id (r ∷ rows) zero row s h b = both_are _ _ b refl
all_before-up id (r ∷ rows) (suc i) row s h b =
    let k : i < length rows = omega arith in
    let first : is_before r.id id ≡ true = before_trans r.id (get_or rows i row).id id (after-get_or r.id rows i row s k) b in
    both_are _ _ first (all_before-up id rows i row (ascends-after r.id rows s) k b)

-- none from a row on that isn't before the id is
pub none_before-from : (id : RowId) (rows : List Row) (i : ℕ) (row : Row) → ascends rows ≡ true → i < length rows → is_before (get_or rows i row).id id ≡ false → none_before id (drop i rows) ≡ true
none_before-from id [] i row s h n = absurd (omega arith)
none_before-from id (r ∷ rows) zero row s h n = none_are _ _ n (none_before-after id r.id rows n s)
none_before-from id (r ∷ rows) (suc i) row s h n = none_before-from id rows i row (ascends-after r.id rows s) (omega arith) n

-- what the calls answer at the place
pub first_from-place : (id : RowId) (rows : List Row) (place : ℕ) → IsPlace id rows place → first_from id rows ≡ slice_get rows place
first_from-place id [] place p = refl
first_from-place id (row ∷ rows) zero p = rw (none_first id row rows p.rest) refl
first_from-place id (row ∷ rows) (suc place) p =
    let first : is_before row.id id ≡ true = all_first id row (take place rows) p.before in
    rw first (first_from-place id rows place (tail_place id row rows place p))

last_before-none : (id : RowId) (rows : List Row) → none_before id rows ≡ true → last_before id rows ≡ None
last_before-none id [] h = refl
last_before-none id (row ∷ rows) h =
    rw (none_first id row rows h) (last_before-none id rows (none_rest id row rows h))

pub last_before-start : (id : RowId) (rows : List Row) → IsPlace id rows 0 → last_before id rows ≡ None
last_before-start id rows p = last_before-none id rows p.rest

last_or_some : (row : Row) (rows : List Row) (place : ℕ) → place < length rows → last_or row (slice_get rows place) ≡ slice_get rows place
last_or_some row [] place h = absurd (omega arith)
last_or_some row (r ∷ rows) zero h = refl
last_or_some row (r ∷ rows) (suc place) h = last_or_some row rows place (omega arith)

pub last_before-place : (id : RowId) (rows : List Row) (place : ℕ) → IsPlace id rows (suc place) → last_before id rows ≡ slice_get rows place
last_before-place id [] place p = absurd (let h = p.within in omega arith)
last_before-place id (row ∷ rows) zero p =
    let first : is_before row.id id ≡ true = all_first id row [] p.before in
    let none : last_before id rows ≡ None = last_before-none id rows p.rest in
    rw (first, none) refl
last_before-place id (row ∷ rows) (suc place) p =
    let first : is_before row.id id ≡ true = all_first id row (take (suc place) rows) p.before in
    let w : suc place ≤ length rows = let h = p.within in omega arith in
    let rest : last_before id rows ≡ slice_get rows place = last_before-place id rows place (tail_place id row rows (suc place) p) in
    rw (first, rest) (last_or_some row rows place (omega arith))

rows_from-none : (id : RowId) (rows : List Row) → none_before id rows ≡ true → rows_from id rows ≡ rows
rows_from-none id [] h = refl
rows_from-none id (row ∷ rows) h =
    rw (none_first id row rows h) (ap (λ (l : List Row). row ∷ l) (rows_from-none id rows (none_rest id row rows h)))

pub rows_from-place : (id : RowId) (rows : List Row) (place : ℕ) → IsPlace id rows place → rows_from id rows ≡ drop place rows
rows_from-place id [] zero p = refl
rows_from-place id [] (suc place) p = refl
rows_from-place id (row ∷ rows) zero p = rows_from-none id (row ∷ rows) p.rest
rows_from-place id (row ∷ rows) (suc place) p =
    let first : is_before row.id id ≡ true = all_first id row (take place rows) p.before in
    rw first (rows_from-place id rows place (tail_place id row rows place p))

-- a row goes in at its place
pub insert_row-place : (new : Row) (rows : List Row) (place : ℕ) → IsPlace new.id rows place → insert_row new rows ≡ insert rows place new
insert_row-place new [] zero p = refl
insert_row-place new [] (suc place) p = absurd (let h = p.within in omega arith)
insert_row-place new (row ∷ rows) zero p = rw (none_first new.id row rows p.rest) refl
insert_row-place new (row ∷ rows) (suc place) p =
    let first : is_before row.id new.id ≡ true = all_first new.id row (take place rows) p.before in
    rw first (ap (λ (l : List Row). row ∷ l) (insert_row-place new rows place (tail_place new.id row rows place p)))

-- rows that are all after an id don't have it
pub row_at-after : (id : RowId) (rows : List Row) → ascends_after id rows ≡ true → row_at id rows ≡ None
row_at-after id [] s = refl
row_at-after id (row ∷ rows) s =
    let parts = both_true _ _ s in
    rw (after_not_same row.id id parts.0) (row_at-after id rows (ascends_after-before id row.id rows parts.0 parts.1))

pub kill-after : (id : RowId) (epoch : ℕ) (rows : List Row) → ascends_after id rows ≡ true → kill_row id epoch rows ≡ rows
kill-after id epoch [] s = refl
kill-after id epoch (row ∷ rows) s =
    let parts = both_true _ _ s in
    rw (after_not_same row.id id parts.0) (ap (λ (l : List Row). row ∷ l) (kill-after id epoch rows (ascends_after-before id row.id rows parts.0 parts.1)))

pub remove-after : (id : RowId) (rows : List Row) → ascends_after id rows ≡ true → remove_row id rows ≡ rows
remove-after id [] s = refl
remove-after id (row ∷ rows) s =
    let parts = both_true _ _ s in
    rw (after_not_same row.id id parts.0) (ap (λ (l : List Row). row ∷ l) (remove-after id rows (ascends_after-before id row.id rows parts.0 parts.1)))

-- where a row that isn't before an id stands first and the id is there, it is that row's
pub same_first : (id : RowId) (row : Row) (rows : List Row) → is_before row.id id ≡ false → ascends (row ∷ rows) ≡ true → IsSome (row_at id (row ∷ rows)) → row.id ≡ id
same_first id row rows n s there = elim (cases_Bool (is_same row.id id)) [
  | inl same ↦ same_is row.id id same
  | inr other ↦
      let after : is_before id row.id ≡ true = after_from_neither row.id id n other in
      let gone : row_at id (row ∷ rows) ≡ None = row_at-after id (row ∷ rows) (both_are _ _ after s) in
      cc (rw gone at there)
]

-- an id that is there is at its place
pub row_at-place : (id : RowId) (rows : List Row) (place : ℕ) → ascends rows ≡ true → IsPlace id rows place → IsSome (row_at id rows) → (place < length rows) × ((row : Row) → (get_or rows place row).id ≡ id)
row_at-place id [] place s p there = cc there
row_at-place id (row ∷ rows) zero s p there =
    let same : row.id ≡ id = same_first id row rows (none_first id row rows p.rest) s there in
    (omega arith, λ r. same)
row_at-place id (row ∷ rows) (suc place) s p there =
    let first : is_before row.id id ≡ true = all_first id row (take place rows) p.before in
    let rest : IsSome (row_at id rows) = rw (before_not_same row.id id first) at there in
    let more = row_at-place id rows place (ascends-after row.id rows s) (tail_place id row rows place p) rest in
    let at : place < length rows = more.0 in
    (omega arith, more.1)

-- a kill changes the row at its place, and a removal takes it away
pub kill_row-place : (id : RowId) (epoch : ℕ) (rows : List Row) (place : ℕ) (row : Row) → ascends rows ≡ true → IsPlace id rows place → IsSome (row_at id rows) → kill_row id epoch rows ≡ set rows place (record (get_or rows place row) { killed = epoch })
kill_row-place id epoch [] place row s p there = refl
kill_row-place id epoch (r ∷ rows) zero row s p there =
    let same : r.id ≡ id = same_first id r rows (none_first id r rows p.rest) s there in
    let told : is_same r.id id ≡ true = ap (λ (w : RowId). is_same w id) same ∙ same_itself id in
    let behind : ascends_after id rows ≡ true = ap (λ (w : RowId). ascends_after w rows) (sym same) ∙ s in
    rw told (ap (λ (l : List Row). record r { killed = epoch } ∷ l) (kill-after id epoch rows behind))
kill_row-place id epoch (r ∷ rows) (suc place) row s p there =
    let first : is_before r.id id ≡ true = all_first id r (take place rows) p.before in
    let other : is_same r.id id ≡ false = before_not_same r.id id first in
    let rest : IsSome (row_at id rows) = rw other at there in
    rw other (ap (λ (l : List Row). r ∷ l) (kill_row-place id epoch rows place row (ascends-after r.id rows s) (tail_place id r rows place p) rest))

pub remove_row-place : (id : RowId) (rows : List Row) (place : ℕ) → ascends rows ≡ true → IsPlace id rows place → IsSome (row_at id rows) → remove_row id rows ≡ remove rows place
remove_row-place id [] place s p there = cc there
remove_row-place id (r ∷ rows) zero s p there =
    let same : r.id ≡ id = same_first id r rows (none_first id r rows p.rest) s there in
    let told : is_same r.id id ≡ true = ap (λ (w : RowId). is_same w id) same ∙ same_itself id in
    let behind : ascends_after id rows ≡ true = ap (λ (w : RowId). ascends_after w rows) (sym same) ∙ s in
    rw told (remove-after id rows behind)
remove_row-place id (r ∷ rows) (suc place) s p there =
    let first : is_before r.id id ≡ true = all_first id r (take place rows) p.before in
    let other : is_same r.id id ≡ false = before_not_same r.id id first in
    let rest : IsSome (row_at id rows) = rw other at there in
    rw other (ap (λ (l : List Row). r ∷ l) (remove_row-place id rows place (ascends-after r.id rows s) (tail_place id r rows place p) rest))
