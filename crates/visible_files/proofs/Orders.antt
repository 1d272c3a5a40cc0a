-- Lists whose keys rise, and places in them.
use Rattle.std.proofs.Common.{◌≡◌, ℕ, zero, suc, ◌≤◌, ◌<◌, Bool, true, false, cond, nat_lt, List, [], ◌∷◌, ◌++◌, length, take, drop, get_or, filter, map, refl, ap, arith}
use Rattle.std.proofs.lemmas.Bool.{lt-ltb, le-ltb, ltb-true, ltb-false}
use Rattle.std.specs.List.{insert}
use Rattle.std.specs.List.Sorted.{IsPartitionPoint, IsPartitionedBy}
use Rattle.visible_files.specs.declared.ids.GroupId.{GroupId}
use Rattle.visible_files.specs.Ids.{place, Ascends, Rises, IsLowerBound, placed}

pub rises_lower : (low low' : ℕ) (xs : List ℕ) → Rises low xs → low' ≤ low → Rises low' xs
rises_lower low low' [] h le = tt
rises_lower low low' (x ∷ xs) h le = (let a : low ≤ x = h.0 in omega arith, h.1)

pub ascends_lower : (low low' : ℕ) (xs : List ℕ) → Ascends low xs → low' ≤ low → Ascends low' xs
ascends_lower low low' [] h le = tt
ascends_lower low low' (x ∷ xs) h le = (let a : low ≤ x = h.0 in omega arith, h.1)

pub rises_from_ascends : (low : ℕ) (xs : List ℕ) → Ascends low xs → Rises low xs
rises_from_ascends low [] h = tt
rises_from_ascends low (x ∷ xs) h = (h.0, rises_lower (suc x) x xs (rises_from_ascends (suc x) xs h.1) (omega arith))

le_chain : {a b c : ℕ} → a ≤ b → b ≤ c → a ≤ c
le_chain h g = omega arith

module _ {X : Type 0} (key : X → ℕ) where
  pub rises_least : (low : ℕ) (xs : List X) (j : ℕ) (d : X) → Rises low (map key xs) → j < length xs → low ≤ key (get_or xs j d)
  rises_least low [] j d h lt = absurd (omega arith)
  rises_least low (x ∷ xs) zero d h lt = h.0
  rises_least low (x ∷ xs) (suc j) d h lt = le_chain h.0 (rises_least (key x) xs j d h.1 (omega arith))

  pub ascends_least : (low : ℕ) (xs : List X) (j : ℕ) (d : X) → Ascends low (map key xs) → j < length xs → low ≤ key (get_or xs j d)
  ascends_least low xs j d h lt = rises_least low xs j d (rises_from_ascends low (map key xs) h) lt

  pub rises-partitioned : (k low : ℕ) (xs : List X) → Rises low (map key xs) → IsPartitionedBy (λ x. nat_lt (key x) k) xs
  rises-partitioned k low [] s i j d le lt h = absurd (omega arith)
  rises-partitioned k low (x ∷ xs) s zero zero d le lt h = h
  rises-partitioned k low (x ∷ xs) s zero (suc j) d le lt h =
      let up = rises_least (key x) xs j d s.1 (omega arith) in
      let below : key (get_or xs j d) < k = ltb-true (key (get_or xs j d)) k h in
      lt-ltb (key x) k (omega arith)
  rises-partitioned k low (x ∷ xs) s (suc i) zero d le lt h = absurd (omega arith)
  rises-partitioned k low (x ∷ xs) s (suc i) (suc j) d le lt h = rises-partitioned k (key x) xs s.1 i j d (omega arith) (omega arith) h

  pub bound_from_point : (k : ℕ) (xs : List X) (n : ℕ) → n ≤ length xs → IsPartitionPoint (λ x. nat_lt (key x) k ≡ true) (λ x. nat_lt (key x) k ≡ false) xs n → IsLowerBound key xs k n
  bound_from_point k xs n within point = record {
    within = within;
    before = λ i d h. ltb-true (key (get_or xs i d)) k (point.0 i d (omega arith) h);
    rest = λ i d h w. ltb-false (key (get_or xs i d)) k (point.1 i d h w);
  }

  pub bound_tail : (x : X) (xs : List X) (k n : ℕ) → IsLowerBound key (x ∷ xs) k (suc n) → IsLowerBound key xs k n
  bound_tail x xs k n b = record {
    within = (let w : suc n ≤ suc (length xs) = b.within in omega arith);
    before = λ i d h. b.before (suc i) d (omega arith);
    rest = λ i d h w. b.rest (suc i) d (omega arith) (omega arith);
  }

  rises-filter-by : (p : X → Bool) (low : ℕ) (x : X) (xs : List X) (t : Bool) → low ≤ key x → Rises (key x) (map key (filter p xs)) → Rises low (map key (cond t (x ∷ filter p xs) (filter p xs)))
  rises-filter-by p low x xs true le rest = (le, rest)
  rises-filter-by p low x xs false le rest = rises_lower (key x) low (map key (filter p xs)) rest le

  pub rises-filter : (p : X → Bool) (low : ℕ) (xs : List X) → Rises low (map key xs) → Rises low (map key (filter p xs))
  rises-filter p low [] h = tt
  rises-filter p low (x ∷ xs) h = rises-filter-by p low x xs (p x) h.0 (rises-filter p (key x) xs h.1)

  -- an insert at a place that no element has
  pub ascends-insert : (x : X) (low : ℕ) (xs : List X) (n : ℕ) → Ascends low (map key xs) → low ≤ key x → IsLowerBound key xs (key x) n → ((d : X) → n < length xs → key x < key (get_or xs n d)) → Ascends low (map key (insert xs n x))
  ascends-insert x low [] zero h le b free = (le, tt)
  ascends-insert x low [] (suc n) h le b free = absurd (let w : suc n ≤ 0 = b.within in omega arith)
  ascends-insert x low (y ∷ ys) zero h le b free = (le, (free y (omega arith), h.1))
  ascends-insert x low (y ∷ ys) (suc n) h le b free =
      (h.0, ascends-insert x (suc (key y)) ys n h.1 (b.before 0 x (omega arith)) (bound_tail y ys (key x) n b) (λ d w. free d (omega arith)))

  pub ascends-remove : (low : ℕ) (xs : List X) (n : ℕ) → Ascends low (map key xs) → Ascends low (map key (take n xs ++ drop (suc n) xs))
  ascends-remove low [] zero h = tt
  ascends-remove low [] (suc n) h = tt
  ascends-remove low (x ∷ xs) zero h = ascends_lower (suc (key x)) low (map key xs) h.1 (let a : low ≤ key x = h.0 in omega arith)
  ascends-remove low (x ∷ xs) (suc n) h = (h.0, ascends-remove (suc (key x)) xs n h.1)

-- places of the elements of a list
module _ {X : Type 0} (id_of : X → GroupId) where
  placed-by : (x y : X) (ys zs : List X) (t : Bool) → nat_lt (place (id_of y)) (place (id_of x)) ≡ t → t ≡ true → placed id_of x ys ≡ zs → cond t (y ∷ placed id_of x ys) (x ∷ y ∷ ys) ≡ y ∷ zs
  placed-by x y ys zs true e is h = ap (λ l. y ∷ l) h
  placed-by x y ys zs false e is h = absurd (cc is)

  pub placed-insert : (x : X) (ys : List X) (n : ℕ) → IsLowerBound (λ y. place (id_of y)) ys (place (id_of x)) n → placed id_of x ys ≡ insert ys n x
  placed-insert x [] zero b = refl
  placed-insert x [] (suc n) b = absurd (let w : suc n ≤ 0 = b.within in omega arith)
  placed-insert x (y ∷ ys) zero b =
      ap (λ t. cond t (y ∷ placed id_of x ys) (x ∷ y ∷ ys)) (le-ltb (place (id_of y)) (place (id_of x)) (b.rest 0 y (omega arith) (omega arith)))
  placed-insert x (y ∷ ys) (suc n) b =
      placed-by x y ys (insert ys n x) (nat_lt (place (id_of y)) (place (id_of x))) refl (lt-ltb (place (id_of y)) (place (id_of x)) (b.before 0 y (omega arith))) (placed-insert x ys n (bound_tail (λ y. place (id_of y)) y ys (place (id_of x)) n b))

  rises-placed-by : (x y : X) (low : ℕ) (ys : List X) (t : Bool) → nat_lt (place (id_of y)) (place (id_of x)) ≡ t → Rises low (map (λ z. place (id_of z)) (y ∷ ys)) → low ≤ place (id_of x)
      → (place (id_of y) ≤ place (id_of x) → Rises (place (id_of y)) (map (λ z. place (id_of z)) (placed id_of x ys)))
      → Rises low (map (λ z. place (id_of z)) (cond t (y ∷ placed id_of x ys) (x ∷ y ∷ ys)))
  rises-placed-by x y low ys true e h le rest = (h.0, rest (let lt : place (id_of y) < place (id_of x) = ltb-true (place (id_of y)) (place (id_of x)) e in omega arith))
  rises-placed-by x y low ys false e h le rest = (le, (ltb-false (place (id_of y)) (place (id_of x)) e, h.1))

  pub rises-placed : (x : X) (low : ℕ) (ys : List X) → Rises low (map (λ y. place (id_of y)) ys) → low ≤ place (id_of x) → Rises low (map (λ y. place (id_of y)) (placed id_of x ys))
  rises-placed x low [] h le = (le, tt)
  rises-placed x low (y ∷ ys) h le = rises-placed-by x y low ys (nat_lt (place (id_of y)) (place (id_of x))) refl h le (rises-placed x (place (id_of y)) ys h.1)
