-- Laws of the sizes of aligned ranges: of two, one is inside the other or they share no step.
use Rattle.std.specs.Prelude.{◌≡◌, ℕ, ◌+◌, ◌*◌, ◌/◌, ◌%◌, ◌≤◌, ◌<◌, Bool, true, false, cond, ◌==◌, ◌&&◌, ◌||◌, nat_lt, nat_le, List, [], ◌∷◌, refl}
use Rattle.std.proofs.Common.{sym, ◌∙◌, ap, subst, arith, eqb-true, eq-eqb, ltb-true, ltb-false}
use Rattle.std.proofs.lemmas.Bool.{false≢true, le-leb, leb-true}
use Rattle.std.proofs.Math.Nat.{mod-one, mul-le-mul_left, mul_assoc}
use Rattle.std.specs.Cmp.{first_so, second_so}
use Rattle.std.specs.List.{list_any, list_all}
use Rattle.merge_ranges.specs.Cut.{sizes, is_size, first_fit, size_at}

-- what all of the list pass, one of them passes
passes-by : (p : ℕ → Bool) (n x : ℕ) (xs : List ℕ) (t : Bool) → (x == n) ≡ t → p x ≡ true → (list_any (λ s. s == n) xs ≡ true → p n ≡ true) → (t || list_any (λ s. s == n) xs) ≡ true → p n ≡ true
passes-by p n x xs true same here rest any = subst (λ m. p m ≡ true) (eqb-true x n same) here
passes-by p n x xs false same here rest any = rest any

passes : (p : ℕ → Bool) (n : ℕ) (xs : List ℕ) → list_all p xs ≡ true → list_any (λ s. s == n) xs ≡ true → p n ≡ true
passes p n [] all any = absurd (false≢true any)
passes p n (x ∷ xs) all any =
    passes-by p n x xs (x == n) refl (first_so (p x) (list_all p xs) all) (passes p n xs (second_so (p x) (list_all p xs) all)) any

size_passes : (p : ℕ → Bool) (n : ℕ) → list_all p sizes ≡ true → is_size n ≡ true → p n ≡ true
size_passes p n all is = passes p n sizes all is

pub size_above_zero : (n : ℕ) → is_size n ≡ true → 0 < n
size_above_zero n is = ltb-true 0 n (size_passes (λ s. nat_lt 0 s) n refl is)

pub size_within : (n : ℕ) → is_size n ≡ true → n < 65
size_within n is = ltb-true n 65 (size_passes (λ s. nat_lt s 65) n refl is)

-- c is t times some number
pub record IsMultiple (c t : ℕ) : Type 0 where
  pub times : ℕ
  pub is : c ≡ t * times

pub multiple_from : (c t : ℕ) → 0 < t → c % t ≡ 0 → IsMultiple c t
multiple_from c t positive rem = record { times = c / t; is = omega arith }

divides-by : (t s : ℕ) (b : Bool) → nat_lt s t ≡ b → t ≤ s → (b || (s % t == 0)) ≡ true → s % t ≡ 0
divides-by t s true below h either = absurd (let low : s < t = ltb-true s t below in omega arith)
divides-by t s false below h either = eqb-true (s % t) 0 either

-- the smaller of two sizes divides the larger
pub sizes_divide : (t s : ℕ) → is_size t ≡ true → is_size s ≡ true → t ≤ s → IsMultiple s t
sizes_divide t s is_t is_s h =
    let test = size_passes (λ x. list_all (λ y. nat_lt y x || (y % x == 0)) sizes) t refl is_t in
    let pair : (nat_lt s t || (s % t == 0)) ≡ true = size_passes (λ y. nat_lt y t || (y % t == 0)) s test is_s in
    multiple_from s t (size_above_zero t is_t) (divides-by t s (nat_lt s t) refl h pair)

times_apart : (t x y : ℕ) → t * x < t * y → x < y
times_apart t x y h = by (nat_lt x y) refl
  where
    by : (b : Bool) → nat_lt x y ≡ b → x < y
    by true e = ltb-true x y e
    by false e =
        let back : t * y ≤ t * x = mul-le-mul_left t (ltb-false x y e) in
        absurd (omega arith)

-- of two multiples of t, the larger is t more or further away
pub gap : (t c e : ℕ) → IsMultiple c t → IsMultiple e t → c < e → c + t ≤ e
gap t c e mc me h =
    let apart : mc.times < me.times = times_apart t mc.times me.times (subst (λ z. z < t * me.times) mc.is (subst (λ z. c < z) me.is h)) in
    let up : t * (mc.times + 1) ≤ t * me.times = mul-le-mul_left t (let le : mc.times + 1 ≤ me.times = omega arith in le) in
    omega (arith, mc.is, me.is, up)

pub multiple_chain : (c t s : ℕ) → IsMultiple c t → IsMultiple t s → IsMultiple c s
multiple_chain c t s mc mt = record { times = mt.times * mc.times; is = mc.is ∙ ap (λ z. z * mc.times) mt.is ∙ mul_assoc s mt.times mc.times }

pub multiple_more : (a s t : ℕ) → IsMultiple a t → IsMultiple s t → IsMultiple (a + s) t
multiple_more a s t ma ms = record {
  times = ma.times + ms.times;
  is = (let first : a ≡ t * ma.times = ma.is in let second : s ≡ t * ms.times = ms.is in omega arith);
}

-- ---- the largest size that fits

-- each is at least as large as all later ones
abbrev falls : List ℕ → Bool
falls [] = true
falls (s ∷ ss) = list_all (λ x. nat_lt x (s + 1)) ss && falls ss

fits_test : ℕ → ℕ → ℕ → Bool
fits_test a m s = (a % s == 0) && nat_le (a + s) m

largest-by : (a m t s : ℕ) (ss : List ℕ) (b u : Bool) → ((a % s == 0) && nat_le (a + s) m) ≡ b → (s == t) ≡ u → ((a % t == 0) && nat_le (a + t) m) ≡ true
    → list_all (λ x. nat_lt x (s + 1)) ss ≡ true → (list_any (λ x. x == t) ss ≡ true → t ≤ first_fit a m ss) → (u || list_any (λ x. x == t) ss) ≡ true → t ≤ cond b s (first_fit a m ss)
largest-by a m t s ss true true eb eu fits low rest any = let same : s ≡ t = eqb-true s t eu in omega arith
largest-by a m t s ss true false eb eu fits low rest any =
    let below : t < s + 1 = ltb-true t (s + 1) (passes (λ x. nat_lt x (s + 1)) t ss low any) in omega arith
largest-by a m t s ss false true eb eu fits low rest any =
    absurd (false≢true (sym eb ∙ ap (λ z. (a % z == 0) && nat_le (a + z) m) (eqb-true s t eu) ∙ fits))
largest-by a m t s ss false false eb eu fits low rest any = rest any

largest : (a m t : ℕ) (ss : List ℕ) → ((a % t == 0) && nat_le (a + t) m) ≡ true → falls ss ≡ true → list_any (λ x. x == t) ss ≡ true → t ≤ first_fit a m ss
largest a m t [] fits down any = absurd (false≢true any)
largest a m t (s ∷ ss) fits down any =
    let low = list_all (λ x. nat_lt x (s + 1)) ss in
    largest-by a m t s ss ((a % s == 0) && nat_le (a + s) m) (s == t) refl refl fits (first_so low (falls ss) down)
    (largest a m t ss fits (second_so low (falls ss) down)) any

pub size_at-largest : (a m t : ℕ) → is_size t ≡ true → a % t ≡ 0 → a + t ≤ m → t ≤ size_at a m
unfolding size_at
size_at-largest a m t is rem h =
    largest a m t sizes ((λ i. (eq-eqb (a % t) 0 rem i) && (le-leb (a + t) m h i))) refl is

-- what fits: a size that divides a, and the range ends within m
pub record FitsAt (a m s : ℕ) : Type 0 where
  pub is : is_size s ≡ true
  pub rem : a % s ≡ 0
  pub within : a + s ≤ m

fitting-by : (a m s : ℕ) (ss : List ℕ) (b : Bool) → ((a % s == 0) && nat_le (a + s) m) ≡ b → is_size s ≡ true → FitsAt a m (first_fit a m ss) → FitsAt a m (cond b s (first_fit a m ss))
fitting-by a m s ss true e is rest = record {
  is = is;
  rem = eqb-true (a % s) 0 (first_so (a % s == 0) (nat_le (a + s) m) e);
  within = leb-true (a + s) m (second_so (a % s == 0) (nat_le (a + s) m) e);
}
fitting-by a m s ss false e is rest = rest

fitting : (a m : ℕ) (ss : List ℕ) → a < m → list_all is_size ss ≡ true → FitsAt a m (first_fit a m ss)
fitting a m [] h all = record { is = refl; rem = mod-one a; within = omega arith }
fitting a m (s ∷ ss) h all =
    fitting-by a m s ss ((a % s == 0) && nat_le (a + s) m) refl (first_so (is_size s) (list_all is_size ss) all)
    (fitting a m ss h (second_so (is_size s) (list_all is_size ss) all))

pub size_at-fits : (a m : ℕ) → a < m → FitsAt a m (size_at a m)
unfolding size_at
size_at-fits a m h = fitting a m sizes h refl

same_start : (a c : ℕ) → a ≤ c → (a < c → ⊥) → c ≡ a
same_start a c low none = by (nat_lt a c) refl
  where
    by : (b : Bool) → nat_lt a c ≡ b → c ≡ a
    by true e = absurd (none (ltb-true a c e))
    by false e = let back : c ≤ a = ltb-false a c e in omega arith

module _ (a m c t : ℕ) (h : a < m) (is : is_size t ≡ true) (rem : c % t ≡ 0) (low : a ≤ c) (high : c < a + size_at a m) (within : c + t ≤ m) where
  at : FitsAt a m (size_at a m)
  at = size_at-fits a m h

  start : IsMultiple a (size_at a m)
  unfolding at
  start = multiple_from a (size_at a m) (size_above_zero (size_at a m) at.is) at.rem

  here : IsMultiple c t
  here = multiple_from c t (size_above_zero t is) rem

  -- the size at a divides a larger one, so only a range from a on could be larger, but the largest is there
  not_larger : size_at a m < t → ⊥
  unfolding at
  not_larger larger =
      let divides = sizes_divide (size_at a m) t at.is is (let le : size_at a m ≤ t = omega arith in le) in
      let same : c ≡ a = same_start a c low (λ above.
      let apart : a + size_at a m ≤ c = gap (size_at a m) a c start (multiple_chain c t (size_at a m) here divides) above in
      absurd (omega arith)) in
      let fits : t ≤ size_at a m = size_at-largest a m t is (subst (λ z. z % t ≡ 0) same rem) (subst (λ z. z + t ≤ m) same within) in
      absurd (omega arith)

  stays_within-by : (b : Bool) → nat_lt (size_at a m) t ≡ b → c + t ≤ a + size_at a m
  unfolding at
  stays_within-by true e = absurd (not_larger (ltb-true (size_at a m) t e))
  stays_within-by false e =
      let divides = sizes_divide t (size_at a m) is at.is (ltb-false (size_at a m) t e) in
      gap t c (a + size_at a m) here (multiple_more a (size_at a m) t (multiple_chain a (size_at a m) t start divides) divides) high

  -- an aligned range below m that begins in the largest range at a ends in it
  pub stays_within : c + t ≤ a + size_at a m
  stays_within = stays_within-by (nat_lt (size_at a m) t) refl
