-- What the rows of a tree are, after each change of a slot: an id with what its row has besides.
use Rattle.std.proofs.Common.{◌≡◌, ℕ, zero, suc, ◌<◌, Bool, true, false, not, ◌&&◌, ◌-◌, if◌then◌else◌, List, [], ◌∷◌, ◌++◌, length, take, get_or, filter, slice_get, Option, Some, None, is_some, inl, inr, refl, sym, ap, ◌∙◌, subst, arith, length-append, append_assoc}
use Rattle.std.proofs.lemmas.Bool.{cases_Bool}
use Rattle.std.specs.declared.cmp.Ordering.{Ordering}
use Rattle.std.specs.declared.cmp.Ordering.TheVariants.{Less, Equal, Greater}
use Rattle.std.specs.Ordering.{is_lt, is_le, is_eq, ordering_reverse, match_ordering}
use Rattle.std.specs.List.{AllByRecursion}
use Rattle.std.specs.List.Sorted.{IsStrictlySortedBy}
use Rattle.std.specs.Map.{keys_of, lookup, remove_entry, set_value}
use Rattle.std.specs.BTreeMap.{insert_entry, is_at}
use Rattle.std.specs.BTreeMap.Range.{entries_between}
use Rattle.std.specs.declared.ops.Bound.TheVariants.{Included, Excluded, Unbounded}
use Rattle.agg_outside.specs.declared.rows.RowId.{RowId}
use Rattle.agg_outside.specs.declared.rows.Row.{Row}
use Rattle.memory_side.specs.declared.row_body.RowBody.{RowBody}
use Rattle.agg_outside.specs.Rows.{id_cmp, is_before, is_same, ascends_after, ascends, first_from, last_before, last_or, rows_from, row_at, insert_row, kill_row, remove_row}
use Rattle.agg_outside.specs.RowOrder.{id_cmp_total, id_eq_equiv, all_before, after-get_or, ascends-after, kill-after, remove-after, before_trans, before_not_back, same_is}
use Rattle.memory_side.specs.RowTree.{row_with, body_of, rows_of, after_all, slots_ascend}

abbrev Slots : Type 0
Slots = List (RowId × RowBody)

-- ---- a range is a filter

le_by : (r : Ordering) → is_le r ≡ not (is_lt (ordering_reverse r))
le_by Less = refl
le_by Equal = refl
le_by Greater = refl

pub from_id : (id other : RowId) → is_le (id_cmp id other) ≡ not (is_before other id)
from_id id other = le_by (id_cmp id other) ∙ ap (λ (r : Ordering). not (is_lt r)) (sym (id_cmp_total.antisymm other id))

flip : (b : Bool) → not (not b) ≡ b
flip true = refl
flip false = refl

-- the rows of the slots from an id on
pub rows_of-from : (id : RowId) (slots : Slots) → rows_of (filter (λ (slot : RowId × RowBody). not (is_before slot.0 id)) slots) ≡ rows_from id (rows_of slots)
rows_of-from id [] = refl
rows_of-from id ((key, body) ∷ slots) = elim (cases_Bool (is_before key id)) [
  | inl before ↦ rw before (rows_of-from id slots)
  | inr not ↦ rw not (ap (λ (l : List Row). row_with key body ∷ l) (rows_of-from id slots))
]

pub first_from-rows_from : (id : RowId) (rows : List Row) → first_from id rows ≡ slice_get (rows_from id rows) 0
first_from-rows_from id [] = refl
first_from-rows_from id (row ∷ rows) = elim (cases_Bool (is_before row.id id)) [
  | inl before ↦ rw before (first_from-rows_from id rows)
  | inr not ↦ rw not refl
]

-- the last row of a list
abbrev pub last_row : List Row → Option Row
last_row [] = None
last_row (row ∷ rows) = last_or row (last_row rows)

pub last_before-rows_of : (id : RowId) (slots : Slots) → last_row (rows_of (filter (λ (slot : RowId × RowBody). is_before slot.0 id) slots)) ≡ last_before id (rows_of slots)
last_before-rows_of id [] = refl
last_before-rows_of id ((key, body) ∷ slots) = elim (cases_Bool (is_before key id)) [
  | inl before ↦ rw before (ap (λ (o : Option Row). last_or (row_with key body) o) (last_before-rows_of id slots))
  | inr not ↦ rw not (last_before-rows_of id slots)
]

pub rows_of-append : (xs ys : Slots) → rows_of (xs ++ ys) ≡ rows_of xs ++ rows_of ys
rows_of-append [] ys = refl
rows_of-append ((key, body) ∷ xs) ys = ap (λ (l : List Row). row_with key body ∷ l) (rows_of-append xs ys)

last_or_is : (row last : Row) (o : Option Row) → o ≡ Some last → last_or row o ≡ Some last
last_or_is row last None e = cc e
last_or_is row last (Some r) e = e

pub last_row-push : (rows : List Row) (row : Row) → last_row (rows ++ row ∷ []) ≡ Some row
last_row-push [] row = refl
last_row-push (r ∷ rows) row = last_or_is r row (last_row (rows ++ row ∷ [])) (last_row-push rows row)

-- ---- slots in order

both_true : (a b : Bool) → (if a then b else false) ≡ true → (a ≡ true) × (b ≡ true)
both_true true b h = (refl, h)
both_true false b h = cc h

both_are : (a b : Bool) → a ≡ true → b ≡ true → (if a then b else false) ≡ true
both_are true b p q = q
both_are false b p q = cc p

after_from_sorted : (id : RowId) (slots : Slots) → AllByRecursion (λ (k : RowId). id_cmp id k ≡ Less) (keys_of slots) → after_all id slots ≡ true
after_from_sorted id [] h = refl
after_from_sorted id (slot ∷ slots) h = both_are _ _ (ap is_lt h.0) (after_from_sorted id slots h.1)

pub slots_ascend-sorted : (slots : Slots) → IsStrictlySortedBy id_cmp (keys_of slots) → slots_ascend slots ≡ true
unfolding IsStrictlySortedBy
slots_ascend-sorted [] h = refl
slots_ascend-sorted (slot ∷ slots) h = both_are _ _ (after_from_sorted slot.0 slots h.0) (slots_ascend-sorted slots h.1)

after-rows : (id : RowId) (slots : Slots) → after_all id slots ≡ true → slots_ascend slots ≡ true → ascends_after id (rows_of slots) ≡ true
after-rows id [] h s = refl
after-rows id ((key, body) ∷ slots) h s =
    let parts = both_true (after_all key slots) (slots_ascend slots) s in
    both_are _ _ (both_true (is_before id key) (after_all id slots) h).0 (after-rows key slots parts.0 parts.1)

after_all-below : (low id : RowId) (slots : Slots) → is_before low id ≡ true → after_all id slots ≡ true → after_all low slots ≡ true
after_all-below low id [] b h = refl
after_all-below low id (slot ∷ slots) b h =
    let parts = both_true (is_before id slot.0) (after_all id slots) h in
    both_are _ _ (before_trans low id slot.0 b parts.0) (after_all-below low id slots b parts.1)

pub rows_of-ascends : (slots : Slots) → slots_ascend slots ≡ true → ascends (rows_of slots) ≡ true
rows_of-ascends [] s = refl
rows_of-ascends ((key, body) ∷ slots) s =
    let parts = both_true (after_all key slots) (slots_ascend slots) s in
    after-rows key slots parts.0 parts.1

same_flip : (a b : RowId) → is_same a b ≡ is_same b a
same_flip a b = id_eq_equiv.symm a b

insert_row-after : (new : Row) (rows : List Row) → ascends_after new.id rows ≡ true → insert_row new rows ≡ new ∷ rows
insert_row-after new [] s = refl
insert_row-after new (row ∷ rows) s =
    rw (before_not_back new.id row.id (both_true (is_before new.id row.id) (ascends_after row.id rows) s).0) refl

-- a row that is killed in its slot
pub set-kill : (id : RowId) (epoch : ℕ) (body : RowBody) (slots : Slots) → slots_ascend slots ≡ true → lookup (is_at (id_cmp id)) slots ≡ Some body → rows_of (set_value (is_at (id_cmp id)) slots (record body { killed = epoch })) ≡ kill_row id epoch (rows_of slots)
set-kill id epoch body [] s there = cc there
set-kill id epoch body ((key, old) ∷ slots) s there =
    let parts = both_true (after_all key slots) (slots_ascend slots) s in
    elim (cases_Bool (is_same id key)) [
      | inl same ↦
          let e : key ≡ id = sym (same_is id key same) in
          let is : old ≡ body = let f : Some old ≡ Some body = rw same at there in cc f in
          let behind : ascends_after id (rows_of slots) ≡ true = subst (λ (w : RowId). ascends_after w (rows_of slots) ≡ true) e (after-rows key slots parts.0 parts.1) in
          let back : is_same key id ≡ true = same_flip key id ∙ same in
          rw (same, back, is) (ap (λ (l : List Row). row_with key (record body { killed = epoch }) ∷ l) (sym (kill-after id epoch (rows_of slots) behind)))
      | inr other ↦
          let back : is_same key id ≡ false = same_flip key id ∙ other in
          rw (other, back) (ap (λ (l : List Row). row_with key old ∷ l) (set-kill id epoch body slots parts.1 (rw other at there)))
    ]

-- ---- the two ranges of a tree

and_true : (b : Bool) → (b && true) ≡ b
and_true true = refl
and_true false = refl

pub rows_of-range_from : (id : RowId) (slots : Slots) → rows_of (entries_between id_cmp (Included id) Unbounded slots) ≡ rows_from id (rows_of slots)
rows_of-range_from id slots =
    let same : (slot : RowId × RowBody) → (is_le (id_cmp id slot.0) && true) ≡ not (is_before slot.0 id) = λ slot. and_true (is_le (id_cmp id slot.0)) ∙ from_id id slot.0 in
    (λ i. rows_of (filter (λ (slot : RowId × RowBody). same slot i) slots)) ∙ rows_of-from id slots

pub last_row-range_before : (id : RowId) (slots : Slots) → last_row (rows_of (entries_between id_cmp Unbounded (Excluded id) slots)) ≡ last_before id (rows_of slots)
last_row-range_before id slots =
    let same : (slot : RowId × RowBody) → not (is_le (id_cmp id slot.0)) ≡ is_before slot.0 id = λ slot. ap not (from_id id slot.0) ∙ flip (is_before slot.0 id) in
    (λ i. last_row (rows_of (filter (λ (slot : RowId × RowBody). same slot i) slots))) ∙ last_before-rows_of id slots

pub taken_more : (copies rows : List Row) (row : Row) (limit : ℕ) → length copies < limit → (copies ++ row ∷ []) ++ take (limit - length (copies ++ row ∷ [])) rows ≡ copies ++ take (limit - length copies) (row ∷ rows)
taken_more copies rows row limit h =
    let n : limit - length copies ≡ suc (limit - length (copies ++ row ∷ [])) = omega (arith, length-append copies (row ∷ [])) in
    rw n (append_assoc copies (row ∷ []) (take (limit - length (copies ++ row ∷ [])) rows))

-- ---- a row that is there

pub row_at-lookup : (id : RowId) (slots : Slots) → is_some (row_at id (rows_of slots)) ≡ is_some (lookup (is_at (id_cmp id)) slots)
row_at-lookup id [] = refl
row_at-lookup id ((key, body) ∷ slots) = elim (cases_Bool (is_same id key)) [
  | inl same ↦ rw (same, same_flip key id ∙ same) refl
  | inr other ↦ rw (other, same_flip key id ∙ other) (row_at-lookup id slots)
]

pub full_slot : (slot : Option RowBody) → is_some slot ≡ true → (body : RowBody) × (slot ≡ Some body)
full_slot None h = cc h
full_slot (Some body) h = (body, refl)

-- ---- the slots of rows in order

abbrev pub slots_of : List Row → Slots
slots_of [] = []
slots_of (row ∷ rows) = (row.id, body_of row) ∷ slots_of rows

pub rows_of-slots_of : (rows : List Row) → rows_of (slots_of rows) ≡ rows
rows_of-slots_of [] = refl
rows_of-slots_of (row ∷ rows) = ap (λ (l : List Row). row ∷ l) (rows_of-slots_of rows)

pub slots_of-push : (rows : List Row) (row : Row) → slots_of (rows ++ row ∷ []) ≡ slots_of rows ++ (row.id, body_of row) ∷ []
slots_of-push [] row = refl
slots_of-push (r ∷ rows) row = ap (λ (l : Slots). (r.id, body_of r) ∷ l) (slots_of-push rows row)

lt_is : (r : Ordering) → is_lt r ≡ true → r ≡ Less
lt_is Less h = refl
lt_is Equal h = cc h
lt_is Greater h = cc h

pub insert_last : (id : RowId) (value : RowBody) (rows : List Row) → all_before id rows ≡ true → insert_entry id_cmp (slots_of rows) id value ≡ slots_of rows ++ (id, value) ∷ []
insert_last id value [] h = refl
insert_last id value (row ∷ rows) h =
    let parts = both_true (is_before row.id id) (all_before id rows) h in
    let greater : id_cmp id row.id ≡ Greater = id_cmp_total.antisymm id row.id ∙ ap ordering_reverse (lt_is (id_cmp row.id id) parts.0) in
    rw greater (ap (λ (l : Slots). (row.id, body_of row) ∷ l) (insert_last id value rows parts.1))

pub before_each : (rows : List Row) (i : ℕ) (d : Row) → ascends rows ≡ true → i < length rows → all_before (get_or rows i d).id (take i rows) ≡ true
before_each [] i d s h = absurd (omega arith)
before_each (row ∷ rows) zero d s h = refl
before_each (row ∷ rows) (suc i) d s h =
    both_are _ _ (after-get_or row.id rows i d s (omega arith)) (before_each rows i d (ascends-after row.id rows s) (omega arith))

-- ---- rows that are added, and taken back

insert_full_by : (id : RowId) (body : RowBody) (key : RowId) (value : RowBody) (slots : Slots) (r : Ordering) → id_cmp id key ≡ r → slots_ascend ((key, value) ∷ slots) ≡ true → is_some (row_at id (rows_of ((key, value) ∷ slots))) ≡ false
    → (is_some (row_at id (rows_of slots)) ≡ false → rows_of (insert_entry id_cmp slots id body) ≡ insert_row (row_with id body) (rows_of slots))
    → rows_of (match_ordering r ((id, body) ∷ (key, value) ∷ slots) ((key, body) ∷ slots) ((key, value) ∷ insert_entry id_cmp slots id body)) ≡ insert_row (row_with id body) (rows_of ((key, value) ∷ slots))
insert_full_by id body key value slots Less e s none rest =
    let parts = both_true (after_all key slots) (slots_ascend slots) s in
    let before : is_before id key ≡ true = ap is_lt e in
    let behind : after_all id ((key, value) ∷ slots) ≡ true = both_are _ _ before (after_all-below id key slots before parts.0) in
    sym (insert_row-after (row_with id body) (rows_of ((key, value) ∷ slots)) (after-rows id ((key, value) ∷ slots) behind s))
insert_full_by id body key old slots Equal e s none rest =
    let back : is_same key id ≡ true = same_flip key id ∙ ap is_eq e in
    cc (rw back at none)
insert_full_by id body key old slots Greater e s none rest =
    let other : is_same key id ≡ false = same_flip key id ∙ ap is_eq e in
    let before : is_before key id ≡ true = ap is_lt (id_cmp_total.antisymm key id ∙ ap ordering_reverse e) in
    rw before (ap (λ (l : List Row). row_with key old ∷ l) (rest (rw other at none)))

-- a row whose id is new goes in at its place
pub insert_full : (id : RowId) (body : RowBody) (slots : Slots) → slots_ascend slots ≡ true → is_some (row_at id (rows_of slots)) ≡ false → rows_of (insert_entry id_cmp slots id body) ≡ insert_row (row_with id body) (rows_of slots)
insert_full id body [] s none = refl
insert_full id body ((key, value) ∷ slots) s none =
    insert_full_by id body key value slots (id_cmp id key) refl s none
    (λ h. insert_full id body slots (both_true (after_all key slots) (slots_ascend slots) s).1 h)

-- a slot that is taken away takes its row along
pub rows_of-remove : (id : RowId) (slots : Slots) → slots_ascend slots ≡ true → rows_of (remove_entry (is_at (id_cmp id)) slots) ≡ remove_row id (rows_of slots)
rows_of-remove id [] s = refl
rows_of-remove id ((key, old) ∷ slots) s =
    let parts = both_true (after_all key slots) (slots_ascend slots) s in
    elim (cases_Bool (is_same id key)) [
      | inl same ↦
          let e : key ≡ id = sym (same_is id key same) in
          let behind : ascends_after id (rows_of slots) ≡ true = subst (λ (w : RowId). ascends_after w (rows_of slots) ≡ true) e (after-rows key slots parts.0 parts.1) in
          let back : is_same key id ≡ true = same_flip key id ∙ same in
          rw (same, back) (sym (remove-after id (rows_of slots) behind))
      | inr other ↦
          let back : is_same key id ≡ false = same_flip key id ∙ other in
          rw (other, back) (ap (λ (l : List Row). row_with key old ∷ l) (rows_of-remove id slots parts.1))
    ]
