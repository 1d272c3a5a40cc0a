-- Tests of lists by `list_any`.
use Rattle.std.proofs.Common.{◌≡◌, ℕ, zero, suc, ◌<◌, Bool, true, false, cond, not, ◌&&◌, ◌||◌, List, [], ◌∷◌, ◌++◌, length, take, drop, get_or, filter, map, refl, sym, ◌∙◌, ap, arith}
use Rattle.std.proofs.lemmas.Bool.{false≢true}
use Rattle.std.specs.List.{list_any}

pub or-false : (b : Bool) → (b || false) ≡ b
or-false true = refl
or-false false = refl

pub or-true : (b : Bool) → (b || true) ≡ true
or-true true = refl
or-true false = refl

pub or_assoc : (a b c : Bool) → ((a || b) || c) ≡ (a || (b || c))
or_assoc true b c = refl
or_assoc false b c = refl

pub or_swap : (a b c : Bool) → (a || (b || c)) ≡ (b || (a || c))
or_swap true true c = refl
or_swap true false c = refl
or_swap false b c = refl

pub or_comm : (a b : Bool) → (a || b) ≡ (b || a)
or_comm true b = sym (or-true b)
or_comm false b = sym (or-false b)

pub and_swap : (a b c : Bool) → (a && (b && c)) ≡ (b && (a && c))
and_swap true b c = refl
and_swap false true c = refl
and_swap false false c = refl

pub both : (a b : Bool) → a ≡ true → b ≡ true → (a && b) ≡ true
both a b p q = λ i. p i && q i

pub first_of : (a b : Bool) → (a && b) ≡ true → a ≡ true
first_of true b h = refl
first_of false b h = h

pub second_of : (a b : Bool) → (a && b) ≡ true → b ≡ true
second_of true b h = h
second_of false b h = absurd (false≢true h)

module _ {X : Type 0} (p : X → Bool) where
  pub any-append : (xs ys : List X) → list_any p (xs ++ ys) ≡ (list_any p xs || list_any p ys)
  any-append [] ys = refl
  any-append (x ∷ xs) ys = ap (λ b. p x || b) (any-append xs ys) ∙ sym (or_assoc (p x) (list_any p xs) (list_any p ys))

  pub any-insert : (n : ℕ) (x : X) (xs : List X) → list_any p (take n xs ++ x ∷ drop n xs) ≡ (p x || list_any p xs)
  any-insert zero x [] = refl
  any-insert zero x (y ∷ ys) = refl
  any-insert (suc n) x [] = refl
  any-insert (suc n) x (y ∷ ys) = ap (λ b. p y || b) (any-insert n x ys) ∙ or_swap (p y) (p x) (list_any p ys)

  pub any-push : (xs : List X) (x : X) → list_any p (xs ++ x ∷ []) ≡ (list_any p xs || p x)
  any-push xs x = any-append xs (x ∷ []) ∙ ap (λ b. list_any p xs || b) (or-false (p x))

  any-filter-by : (q : X → Bool) (x : X) (xs : List X) (t : Bool) → list_any p (filter q xs) ≡ list_any (λ y. q y && p y) xs → list_any p (cond t (x ∷ filter q xs) (filter q xs)) ≡ ((t && p x) || list_any (λ y. q y && p y) xs)
  any-filter-by q x xs true h = ap (λ c. p x || c) h
  any-filter-by q x xs false h = h

  pub any-filter : (q : X → Bool) (xs : List X) → list_any p (filter q xs) ≡ list_any (λ x. q x && p x) xs
  any-filter q [] = refl
  any-filter q (x ∷ xs) = any-filter-by q x xs (q x) (any-filter q xs)

  pub any-at : (xs : List X) (i : ℕ) (d : X) → i < length xs → p (get_or xs i d) ≡ true → list_any p xs ≡ true
  any-at [] i d h e = absurd (omega arith)
  any-at (x ∷ xs) zero d h e = ap (λ b. b || list_any p xs) e
  any-at (x ∷ xs) (suc i) d h e = ap (λ b. p x || b) (any-at xs i d (omega arith) e) ∙ or-true (p x)

  -- an element that passes
  pub record Passes (xs : List X) : Type 0 where
    pub at : ℕ
    pub item : X
    pub within : at < length xs
    pub is : (d : X) → get_or xs at d ≡ item
    pub pass : p item ≡ true

  some-by : (x : X) (xs : List X) (t : Bool) → p x ≡ t → (list_any p xs ≡ true → Passes xs) → (t || list_any p xs) ≡ true → Passes (x ∷ xs)
  some-by x xs true e rest h = record { at = 0; item = x; within = omega arith; is = λ d. refl; pass = e }
  some-by x xs false e rest h = let r = rest h in record { at = suc (r.at); item = r.item; within = (let w : r.at < length xs = r.within in omega arith); is = r.is; pass = r.pass }

  pub some_of : (xs : List X) → list_any p xs ≡ true → Passes xs
  some_of [] h = absurd (false≢true h)
  some_of (x ∷ xs) h = some-by x xs (p x) refl (some_of xs) h

-- all alike, all is alike
pub any-same : {X : Type 0} (p q : X → Bool) → ((x : X) → p x ≡ q x) → (xs : List X) → list_any p xs ≡ list_any q xs
any-same p q h [] = refl
any-same p q h (x ∷ xs) = λ i. h x i || any-same p q h xs i

pub any-map : {X Y : Type 0} (p : Y → Bool) (f : X → Y) (xs : List X) → list_any p (map f xs) ≡ list_any (λ x. p (f x)) xs
any-map p f [] = refl
any-map p f (x ∷ xs) = ap (λ b. p (f x) || b) (any-map p f xs)

-- what some pass by the first test and none by the second, some pass by the first alone
any-but-by : (t u a b c : Bool) → (a ≡ true → b ≡ false → c ≡ true) → (t || a) ≡ true → (u || b) ≡ false → ((t && not u) || c) ≡ true
any-but-by t true a b c rest h none = absurd (false≢true (sym none))
any-but-by true false a b c rest h none = refl
any-but-by false false a b c rest h none = rest h none

pub any-but : {X : Type 0} (p q : X → Bool) (xs : List X) → list_any p xs ≡ true → list_any q xs ≡ false → list_any (λ x. p x && not (q x)) xs ≡ true
any-but p q [] h none = h
any-but p q (x ∷ xs) h none = any-but-by (p x) (q x) (list_any p xs) (list_any q xs) (list_any (λ y. p y && not (q y)) xs) (any-but p q xs) h none
