-- Sums over a list that changes at one place, the records of one caller, beginnings of a list, and remainders.
use Rattle.std.proofs.Common.{◌≡◌, ◌≢◌, ◌⊎◌, ℕ, zero, suc, ◌+◌, ◌*◌, ◌/◌, ◌%◌, ◌<◌, ◌≤◌, List, [], ◌∷◌, ◌++◌, length, set, cond, ⊎_elim, inl, inr, eq-eqb, ne_eqb, refl, sym, ap, ◌∙◌, arith, leb, leb-true, leb-false, true, false, Bool, append_assoc, append-nil, length-append}
use Rattle.std.proofs.Math.Nat.{mod-add-div', add-mul-mod_self_right}
use mathlib.Core.Logic.{dite}
use native.Mathlib.Decide.{ℕ_discrete}
use mathlib.Core.Option.{some, some-injective, some-ne-none}
use mathlib.Core.List.{IsPrefix}
use lib.ListN.{get_elem?}
use Rattle.turn_cell.specs.Rule.{total, records_of, longer, shorter_of}

pub mod-next : (d m : ℕ) → (d % m + 1) % m ≡ (d + 1) % m
mod-next d m =
    let e : d % m + 1 + d / m * m ≡ d + 1 = let p = mod-add-div' d m in omega arith in
    sym (add-mul-mod_self_right (d % m + 1) (d / m) m) ∙ ap (λ (z : ℕ). z % m) e

module _ {A : Type 0} where
  pub same_at : (l : List A) (i : ℕ) (a b : A) → get_elem? l i ≡ some a → get_elem? l i ≡ some b → a ≡ b
  same_at l i a b p q = some-injective a b (sym p ∙ q)

  pub below_length : (l : List A) (i : ℕ) (a : A) → get_elem? l i ≡ some a → i < length l
  below_length [] i a e = absurd (some-ne-none a (sym e))
  below_length (x ∷ xs) zero a e = omega arith
  below_length (x ∷ xs) (suc i) a e = let h = below_length xs i a e in omega arith

  module _ (g : A → ℕ) where
    pub total-append : (l m : List A) → total g (l ++ m) ≡ total g l + total g m
    total-append [] m = omega arith
    total-append (x ∷ xs) m = omega (arith, total-append xs m)

    pub total-set : (l : List A) (j : ℕ) (v w : A) → get_elem? l j ≡ some v → total g (set l j w) + g v ≡ total g l + g w
    total-set [] j v w e = absurd (some-ne-none v (sym e))
    total-set (x ∷ xs) zero v w e = omega (arith, ap g (some-injective x v e))
    total-set (x ∷ xs) (suc j) v w e = omega (arith, total-set xs j v w e)

    pub terms_le : (l : List A) (j k : ℕ) (v u : A) → k ≢ j → get_elem? l j ≡ some v → get_elem? l k ≡ some u → g v + g u ≤ total g l
    terms_le [] j k v u n e d = absurd (some-ne-none v (sym e))
    terms_le (x ∷ xs) zero zero v u n e d = absurd (n refl)
    terms_le (x ∷ xs) zero (suc k) v u n e d = omega (arith, ap g (some-injective x v e), term_le xs k u d)
      where
        term_le : (l : List A) (j : ℕ) (v : A) → get_elem? l j ≡ some v → g v ≤ total g l
        term_le [] j v e = absurd (some-ne-none v (sym e))
        term_le (x ∷ xs) zero v e = omega (arith, ap g (some-injective x v e))
        term_le (x ∷ xs) (suc j) v e = omega (arith, term_le xs j v e)
    terms_le (x ∷ xs) (suc j) zero v u n e d = omega (arith, ap g (some-injective x u d), term_le xs j v e)
      where
        term_le : (l : List A) (j : ℕ) (v : A) → get_elem? l j ≡ some v → g v ≤ total g l
        term_le [] j v e = absurd (some-ne-none v (sym e))
        term_le (x ∷ xs) zero v e = omega (arith, ap g (some-injective x v e))
        term_le (x ∷ xs) (suc j) v e = omega (arith, term_le xs j v e)
    terms_le (x ∷ xs) (suc j) (suc k) v u n e d = omega (arith, terms_le xs j k v u (λ h. n (ap suc h)) e d)

    pub total_most : ((x : A) → g x ≤ 1) → (l : List A) → total g l ≤ length l
    total_most most [] = omega arith
    total_most most (x ∷ xs) = omega (arith, most x, total_most most xs)

module _ {R : Type 0} (caller : R → ℕ) where
  pub records_of-own : (n : ℕ) (r : R) (rs : List R) → caller r ≡ n → records_of caller n (r ∷ rs) ≡ r ∷ records_of caller n rs
  records_of-own n r rs e = ap (λ b. cond b (r ∷ records_of caller n rs) (records_of caller n rs)) (eq-eqb (caller r) n e)

  pub records_of-other : (n : ℕ) (r : R) (rs : List R) → caller r ≢ n → records_of caller n (r ∷ rs) ≡ records_of caller n rs
  records_of-other n r rs e = ap (λ b. cond b (r ∷ records_of caller n rs) (records_of caller n rs)) (ne_eqb (caller r) n e)

  pub records_of-own_end : (n : ℕ) (xs : List R) (r : R) → caller r ≡ n → records_of caller n (xs ++ r ∷ []) ≡ records_of caller n xs ++ r ∷ []
  records_of-own_end n [] r e = records_of-own n r [] e
  records_of-own_end n (x ∷ xs) r e = dite (ℕ_discrete (caller x) n)
      (λ h. records_of-own n x (xs ++ r ∷ []) h ∙ (ap (λ (z : List R). x ∷ z) (records_of-own_end n xs r e) ∙ ap (λ (z : List R). z ++ r ∷ []) (sym (records_of-own n x xs h))))
      (λ h. records_of-other n x (xs ++ r ∷ []) h ∙ (records_of-own_end n xs r e ∙ ap (λ (z : List R). z ++ r ∷ []) (sym (records_of-other n x xs h))))

  pub records_of-other_end : (n : ℕ) (xs : List R) (r : R) → caller r ≢ n → records_of caller n (xs ++ r ∷ []) ≡ records_of caller n xs
  records_of-other_end n [] r e = records_of-other n r [] e
  records_of-other_end n (x ∷ xs) r e = dite (ℕ_discrete (caller x) n)
      (λ h. records_of-own n x (xs ++ r ∷ []) h ∙ (ap (λ (z : List R). x ∷ z) (records_of-other_end n xs r e) ∙ sym (records_of-own n x xs h)))
      (λ h. records_of-other n x (xs ++ r ∷ []) h ∙ (records_of-other_end n xs r e ∙ sym (records_of-other n x xs h)))

  pub records_of-append : (n : ℕ) (xs ys : List R) → records_of caller n (xs ++ ys) ≡ records_of caller n xs ++ records_of caller n ys
  records_of-append n [] ys = refl
  records_of-append n (x ∷ xs) ys = dite (ℕ_discrete (caller x) n)
      (λ h. records_of-own n x (xs ++ ys) h ∙ (ap (λ (z : List R). x ∷ z) (records_of-append n xs ys) ∙ ap (λ (z : List R). z ++ records_of caller n ys) (sym (records_of-own n x xs h))))
      (λ h. records_of-other n x (xs ++ ys) h ∙ (records_of-append n xs ys ∙ ap (λ (z : List R). z ++ records_of caller n ys) (sym (records_of-other n x xs h))))

  pub records_of-nobody : (n : ℕ) (xs : List R) → ((k : ℕ) (r : R) → get_elem? xs k ≡ some r → caller r ≢ n) → records_of caller n xs ≡ []
  records_of-nobody n [] h = refl
  records_of-nobody n (x ∷ xs) h = records_of-other n x xs (h 0 x refl) ∙ records_of-nobody n xs (λ k r e. h (suc k) r e)

module _ {A : Type 0} where
  pub prefix_self : (xs : List A) → IsPrefix xs xs
  prefix_self xs = ([], append-nil xs)

  pub prefix_trans : (xs ys zs : List A) → IsPrefix xs ys → IsPrefix ys zs → IsPrefix xs zs
  prefix_trans xs ys zs p q = (p.0 ++ q.0, sym (append_assoc xs p.0 q.0) ∙ (ap (λ w. w ++ q.0) p.1 ∙ q.1))

  pub prefix_more : (xs ys zs : List A) → IsPrefix xs ys → IsPrefix xs (ys ++ zs)
  prefix_more xs ys zs p = prefix_trans xs ys (ys ++ zs) p (zs, refl)

  pub prefix_shorter : (xs ys zs : List A) → IsPrefix xs zs → IsPrefix ys zs → length xs ≤ length ys → IsPrefix xs ys
  prefix_shorter [] ys zs p q le = (ys, refl)
  prefix_shorter (x ∷ xs) [] zs p q le = absurd (omega arith)
  prefix_shorter (x ∷ xs) (y ∷ ys) [] p q le = absurd (cc (p.1))
  prefix_shorter (x ∷ xs) (y ∷ ys) (z ∷ zs) p q le =
      let heads : x ≡ y = cc (p.1, q.1) in
      let rest = prefix_shorter xs ys zs (p.0, cc (p.1)) (q.0, cc (q.1)) (omega arith) in
      (rest.0, cc (heads, rest.1))

  pub prefix_whole : (xs ys : List A) → IsPrefix xs ys → length ys ≤ length xs → xs ≡ ys
  prefix_whole [] [] p le = refl
  prefix_whole [] (y ∷ ys) p le = absurd (omega arith)
  prefix_whole (x ∷ xs) [] p le = absurd (cc (p.1))
  prefix_whole (x ∷ xs) (y ∷ ys) p le =
      let rest = prefix_whole xs ys (p.0, cc (p.1)) (omega arith) in cc (p.1, rest)

  pub prefix_length : (xs ys : List A) → IsPrefix xs ys → length xs ≤ length ys
  prefix_length xs ys p = omega (arith, sym (ap length p.1) ∙ length-append xs p.0)

  -- of two beginnings the longer
  either_way : (xs ys zs : List A) → IsPrefix xs zs → IsPrefix ys zs → (b : Bool) → IsPrefix (cond b ys xs) zs
  either_way xs ys zs p q true = q
  either_way xs ys zs p q false = p

  pub longer_prefix : (xs ys zs : List A) → IsPrefix xs zs → IsPrefix ys zs → IsPrefix (longer xs ys) zs
  longer_prefix xs ys zs p q = either_way xs ys zs p q (leb (length xs) (length ys))

  reaches : (xs ys : List A) (b : Bool) → leb (length xs) (length ys) ≡ b → (length xs ≤ length (cond b ys xs)) × (length ys ≤ length (cond b ys xs))
  reaches xs ys true e = let h = leb-true (length xs) (length ys) e in (h, omega arith)
  reaches xs ys false e = let h = leb-false (length xs) (length ys) e in (omega arith, omega arith)

  pub longer_reaches : (xs ys : List A) → (length xs ≤ length (longer xs ys)) × (length ys ≤ length (longer xs ys))
  longer_reaches xs ys = reaches xs ys (leb (length xs) (length ys)) refl

  pub at_end : (l : List A) (a b : A) (j : ℕ) → get_elem? (l ++ a ∷ []) j ≡ some b → (get_elem? l j ≡ some b) ⊎ ((j ≡ length l) × (a ≡ b))
  at_end [] a b zero e = inr (refl, some-injective a b e)
  at_end [] a b (suc j) e = absurd (some-ne-none b (sym e))
  at_end (x ∷ xs) a b zero e = inl e
  at_end (x ∷ xs) a b (suc j) e = ⊎_elim (λ h. inl h) (λ h. inr (ap suc h.0, h.1)) (at_end xs a b j e)

  meets : (xs ys zs : List A) → IsPrefix xs zs → IsPrefix ys zs → (b : Bool) → leb (length xs) (length ys) ≡ b → IsPrefix (cond b xs ys) (cond b ys xs)
  meets xs ys zs p q true e = prefix_shorter xs ys zs p q (leb-true (length xs) (length ys) e)
  meets xs ys zs p q false e = let h = leb-false (length xs) (length ys) e in prefix_shorter ys xs zs q p (omega arith)

  pub shorter_meets : (xs ys zs : List A) → IsPrefix xs zs → IsPrefix ys zs → IsPrefix (shorter_of xs ys) (longer xs ys)
  shorter_meets xs ys zs p q = meets xs ys zs p q (leb (length xs) (length ys)) refl

  parts : (xs ys : List A) (b : Bool) → IsPrefix (cond b xs ys) (cond b ys xs) → IsPrefix xs (cond b ys xs) × IsPrefix ys (cond b ys xs)
  parts xs ys true p = (p, prefix_self ys)
  parts xs ys false p = (prefix_self xs, p)

  pub both_begin : (xs ys : List A) → IsPrefix (shorter_of xs ys) (longer xs ys) → IsPrefix xs (longer xs ys) × IsPrefix ys (longer xs ys)
  both_begin xs ys p = parts xs ys (leb (length xs) (length ys)) p

module _ {R : Type 0} (caller : R → ℕ) where
  begins_records : (n : ℕ) (xs ys : List R) → IsPrefix xs ys → IsPrefix (records_of caller n xs) (records_of caller n ys)
  begins_records n xs ys p = (records_of caller n p.0, sym (records_of-append caller n xs p.0) ∙ ap (records_of caller n) p.1)

  -- who has no record in a history has none in its beginning
  pub records_none : (n : ℕ) (xs ys : List R) → IsPrefix xs ys → records_of caller n ys ≡ [] → records_of caller n xs ≡ []
  records_none n xs ys p empty =
      let size : length (records_of caller n ys) ≡ 0 = ap length empty in
      prefix_whole (records_of caller n xs) (records_of caller n ys) (begins_records n xs ys p) (omega arith) ∙ empty

  -- where a beginning has all records of one caller, so has each longer one
  pub records_between : (n : ℕ) (xs ys zs : List R) → IsPrefix xs ys → IsPrefix ys zs → records_of caller n xs ≡ records_of caller n zs → records_of caller n xs ≡ records_of caller n ys
  records_between n xs ys zs p q same =
      let low = prefix_length (records_of caller n xs) (records_of caller n ys) (begins_records n xs ys p) in
      let size : length (records_of caller n xs) ≡ length (records_of caller n zs) = ap length same in
      same ∙ sym (prefix_whole (records_of caller n ys) (records_of caller n zs) (begins_records n ys zs q) (omega arith))
