-- What a binary search finds among rows that ascend.
use Rattle.std.proofs.Common.{◌≡◌, ℕ, zero, suc, ◌<◌, ◌≤◌, Bool, true, false, if◌then◌else◌, List, [], ◌∷◌, length, take, drop, get_or, refl, arith}
use Rattle.std.specs.List.Sorted.{IsPartitionPoint, IsPartitionedBy}
use Rattle.agg_outside.specs.declared.rows.RowId.{RowId}
use Rattle.agg_outside.specs.declared.rows.Row.{Row}
use Rattle.agg_outside.specs.Rows.{is_before, ascends}
use Rattle.agg_outside.specs.RowOrder.{all_before, none_before, IsPlace, before_trans, ascends-after, after-get_or}

-- the rows before an id come first
pub is_before-partitioned : (id : RowId) (rows : List Row) → ascends rows ≡ true → IsPartitionedBy (λ (row : Row). is_before row.id id) rows
is_before-partitioned id [] s i j d le lt h = absurd (omega arith)
is_before-partitioned id (row ∷ rows) s zero zero d le lt h = h
is_before-partitioned id (row ∷ rows) s zero (suc j) d le lt h =
    let within : j < length rows = omega arith in
    before_trans row.id (get_or rows j d).id id (after-get_or row.id rows j d s within) h
is_before-partitioned id (row ∷ rows) s (suc i) zero d le lt h = absurd (omega arith)
is_before-partitioned id (row ∷ rows) s (suc i) (suc j) d le lt h =
    is_before-partitioned id rows (ascends-after row.id rows s) i j d (omega arith) (omega arith) h

both_are : (a b : Bool) → a ≡ true → b ≡ true → (if a then b else false) ≡ true
both_are true b p q = q
both_are false b p q = cc p

none_are : (a b : Bool) → a ≡ false → b ≡ true → (if a then false else b) ≡ true
none_are true b p q = cc p
none_are false b p q = q

-- from each place to the lists
all_from_each : (id : RowId) (rows : List Row) (n : ℕ) → ((k : ℕ) (d : Row) → k < n → k < length rows → is_before (get_or rows k d).id id ≡ true) → all_before id (take n rows) ≡ true
all_from_each id [] zero each = refl
all_from_each id [] (suc n) each = refl
all_from_each id (row ∷ rows) zero each = refl
all_from_each id (row ∷ rows) (suc n) each =
    both_are _ _ (each 0 row (omega arith) (omega arith)) (all_from_each id rows n (λ k d h w. each (suc k) d (omega arith) (omega arith)))

none_from_each : (id : RowId) (rows : List Row) (n : ℕ) → ((k : ℕ) (d : Row) → n ≤ k → k < length rows → is_before (get_or rows k d).id id ≡ false) → none_before id (drop n rows) ≡ true
none_from_each id [] zero each = refl
none_from_each id [] (suc n) each = refl
none_from_each id (row ∷ rows) zero each =
    none_are _ _ (each 0 row (omega arith) (omega arith)) (none_from_each id rows 0 (λ k d h w. each (suc k) d (omega arith) (omega arith)))
none_from_each id (row ∷ rows) (suc n) each =
    none_from_each id rows n (λ k d h w. each (suc k) d (omega arith) (omega arith))

pub place_from_point : (id : RowId) (rows : List Row) (n : ℕ) → n ≤ length rows → IsPartitionPoint (λ (row : Row). is_before row.id id ≡ true) (λ (row : Row). is_before row.id id ≡ false) rows n → IsPlace id rows n
place_from_point id rows n within point = record {
  within = within;
  before = all_from_each id rows n (λ k d h w. point.0 k d (omega arith) h);
  rest = none_from_each id rows n (λ k d h w. point.1 k d h w);
}
