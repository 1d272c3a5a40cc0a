-- Writes made up to a place, and additions taken back from there.
use Rattle.std.proofs.Common.{◌≡◌, ℕ, zero, suc, ◌<◌, Bool, true, false, ◌&&◌, List, [], ◌∷◌, length, take, get_or, is_some, Result, Ok, Err, is_err, OnOk, OnErr, inl, inr, refl, ap, arith}
use Rattle.std.proofs.lemmas.Bool.{cases_Bool}
use Rattle.std.specs.List.{list_all}
use Rattle.agg_outside.specs.declared.rows.RowId.{RowId}
use Rattle.agg_outside.specs.declared.rows.Row.{Row}
use Rattle.agg_outside.specs.declared.rows.RowWrite.{RowWrite}
use Rattle.agg_outside.specs.Rows.{Held, is_before, is_same, row_at, insert_row, remove_row, written, CanWrite, applied, CanApply}
use Rattle.agg_outside.specs.RowOrder.{same_itself, before_not_same}
use Rattle.memory_side.specs.RowTree.{adds}

-- an id that isn't there can be removed at no cost
remove-none : (id : RowId) (rows : List Row) → is_some (row_at id rows) ≡ false → remove_row id rows ≡ rows
remove-none id [] none = refl
remove-none id (row ∷ rows) none = elim (cases_Bool (is_same row.id id)) [
  | inl same ↦ cc (rw same at none)
  | inr other ↦ rw other (ap (λ (l : List Row). row ∷ l) (remove-none id rows (rw other at none)))
]

-- a new row that goes in and out
pub remove-insert : (new : Row) (rows : List Row) → is_some (row_at new.id rows) ≡ false → remove_row new.id (insert_row new rows) ≡ rows
remove-insert new [] none = rw (same_itself new.id) refl
remove-insert new (row ∷ rows) none = elim (cases_Bool (is_before row.id new.id)) [
  | inl before ↦
      let other : is_same row.id new.id ≡ false = before_not_same row.id new.id before in
      rw (before, other) (ap (λ (l : List Row). row ∷ l) (remove-insert new rows (rw other at none)))
  | inr not ↦ rw (not, same_itself new.id) (remove-none new.id (row ∷ rows) none)
]

pub applied-more : (writes : List RowWrite) (i : ℕ) (d : RowWrite) (held : Held) → i < length writes → applied (take (suc i) writes) held ≡ written (get_or writes i d) (applied (take i writes) held)
applied-more [] i d held h = absurd (omega arith)
applied-more (write ∷ writes) zero d held h = refl
applied-more (write ∷ writes) (suc i) d held h = applied-more writes i d (written write held) (omega arith)

pub can-more : (writes : List RowWrite) (i : ℕ) (d : RowWrite) (held : Held) → i < length writes → CanApply writes held → CanWrite (get_or writes i d) (applied (take i writes) held)
can-more [] i d held h can = absurd (omega arith)
can-more (write ∷ writes) zero d held h can = can.0
can-more (write ∷ writes) (suc i) d held h can = can-more writes i d (written write held) (omega arith) can.1

pub can-front : (writes : List RowWrite) (i : ℕ) (held : Held) → CanApply writes held → CanApply (take i writes) held
can-front [] zero held can = can
can-front [] (suc i) held can = can
can-front (write ∷ writes) zero held can = tt
can-front (write ∷ writes) (suc i) held can = (can.0, can-front writes i (written write held) can.1)

both : (a b : Bool) → (a && b) ≡ true → (a ≡ true) × (b ≡ true)
both true b h = (refl, h)
both false b h = cc h

pub adds_at : (writes : List RowWrite) (i : ℕ) (d : RowWrite) → list_all adds writes ≡ true → i < length writes → adds (get_or writes i d) ≡ true
adds_at [] i d all h = absurd (omega arith)
adds_at (write ∷ writes) zero d all h = (both (adds write) (list_all adds writes) all).0
adds_at (write ∷ writes) (suc i) d all h = adds_at writes i d (both (adds write) (list_all adds writes) all).1 (omega arith)

pub adds-front : (writes : List RowWrite) (i : ℕ) → list_all adds writes ≡ true → list_all adds (take i writes) ≡ true
adds-front [] zero all = refl
adds-front [] (suc i) all = refl
adds-front (write ∷ writes) zero all = refl
adds-front (write ∷ writes) (suc i) all =
    let parts = both (adds write) (list_all adds writes) all in
    rw parts.0 (adds-front writes i parts.1)

pub on_ok : {T E : Type 0} (r : Result T E) (P Q R : Type 0) → OnOk r P → OnOk r Q → (P → Q → R) → OnOk r R
on_ok (Ok x) P Q R p q f = f p q
on_ok (Err e) P Q R p q f = tt

pub either : {T E : Type 0} (r : Result T E) (P Q R : Type 0) → OnOk r P → OnErr r Q → (P → R) → (Q → R) → R
either (Ok x) P Q R p q f g = f p
either (Err e) P Q R p q f g = g q

pub none_taken : (writes : List RowWrite) (held : Held) → applied (take 0 writes) held ≡ held
none_taken [] held = refl
none_taken (write ∷ writes) held = refl

pub from_ok : {T E : Type 0} (r : Result T E) (P : Type 0) → is_err r ≡ false → OnOk r P → P
from_ok (Ok x) P h p = p
from_ok (Err e) P h p = cc h

pub from_err : {T E : Type 0} (r : Result T E) (P : Type 0) → is_err r ≡ true → OnErr r P → P
from_err (Ok x) P h p = cc h
from_err (Err e) P h p = p
