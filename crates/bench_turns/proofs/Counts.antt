-- A history whose records are all of known callers has as many records as these callers have together.
use Rattle.std.proofs.Common.{◌≡◌, ◌≢◌, ◌⊎◌, ℕ, zero, suc, ◌+◌, ◌*◌, ◌<◌, Bool, true, false, cond, eqb, List, [], ◌∷◌, ◌++◌, length, refl, sym, ap, ◌∙◌, subst, ⊎_elim, arith, eq-eqb, ne_eqb, length-append}
use mathlib.Core.Option.{some, some-injective, some-ne-none}
use lib.ListN.{get_elem?}
use Rattle.std.specs.Prelude.{All}
use Rattle.turn_cell.specs.declared.view.Ended.{Ended}
use Rattle.turn_cell.specs.declared.view.Knowledge.{Knowledge}
use Rattle.std.proofs.lemmas.List.Elements.{All-push}
use Rattle.turn_cell.specs.Rule.{total, records_of, HasEnded, after_join}
use Rattle.turn_cell.specs.Steps.{KnowsAll}

module _ {A : Type 0} where
  total-+ : (g h : A → ℕ) (l : List A) → total (λ x. g x + h x) l ≡ total g l + total h l
  total-+ g h [] = refl
  total-+ g h (x ∷ xs) = omega (arith, total-+ g h xs)

  total_none : (g : A → ℕ) (l : List A) → ((k : ℕ) (x : A) → get_elem? l k ≡ some x → g x ≡ 0) → total g l ≡ 0
  total_none g [] h = refl
  total_none g (x ∷ xs) h = omega (arith, h 0 x refl, total_none g xs (λ k y e. h (suc k) y e))

  -- one of them is 1, and the others are 0
  total_one : (g : A → ℕ) (l : List A) (k : ℕ) (x : A) → get_elem? l k ≡ some x → g x ≡ 1 → ((j : ℕ) (y : A) → get_elem? l j ≡ some y → j ≢ k → g y ≡ 0) → total g l ≡ 1
  total_one g [] k x e one h = absurd (some-ne-none x (sym e))
  total_one g (y ∷ ys) zero x e one h = omega (arith, ap g (some-injective y x e), total_none g ys (λ j z f. h (suc j) z f (λ u. absurd (omega arith))))
  total_one g (y ∷ ys) (suc k) x e one h = omega (arith, h 0 y refl (λ u. absurd (omega arith)), total_one g ys k x e one (λ j z f n. h (suc j) z f (λ u. n (omega arith))))

  total_same : (g : A → ℕ) (c : ℕ) (l : List A) → ((k : ℕ) (x : A) → get_elem? l k ≡ some x → g x ≡ c) → total g l ≡ length l * c
  total_same g c [] h = omega arith
  total_same g c (x ∷ xs) h = omega (arith, h 0 x refl, total_same g c xs (λ k y e. h (suc k) y e))

  all_at : (P : A → Type 0) (l : List A) → All P l → (k : ℕ) (x : A) → get_elem? l k ≡ some x → P x
  all_at P [] h k x e = absurd (some-ne-none x (sym e))
  all_at P (y ∷ ys) h zero x e = subst P (some-injective y x e) (h 0 y (omega arith))
  all_at P (y ∷ ys) h (suc k) x e = all_at P ys (λ j d lt. h (suc j) d (omega arith)) k x e

  total_equal : (g h : A → ℕ) (l : List A) → ((k : ℕ) (x : A) → get_elem? l k ≡ some x → g x ≡ h x) → total g l ≡ total h l
  total_equal g h [] e = refl
  total_equal g h (x ∷ xs) e = omega (arith, e 0 x refl, total_equal g h xs (λ k y f. e (suc k) y f))

-- 1 where the caller has this number
abbrev hit : ℕ → ℕ → ℕ
hit c n = cond (eqb c n) 1 0

hit_same : (c n : ℕ) → c ≡ n → hit c n ≡ 1
hit_same c n e = ap (λ b. cond b 1 0) (eq-eqb c n e)

hit_other : (c n : ℕ) → c ≢ n → hit c n ≡ 0
hit_other c n e = ap (λ b. cond b 1 0) (ne_eqb c n e)

module _ {R : Type 0} (caller : R → ℕ) where
  length_cases : (r : R) (rs : List R) (b : Bool) → length (cond b (r ∷ rs) rs) ≡ cond b 1 0 + length rs
  length_cases r rs true = omega arith
  length_cases r rs false = omega arith

  length-records_of : (n : ℕ) (r : R) (rs : List R) → length (records_of caller n (r ∷ rs)) ≡ hit (caller r) n + length (records_of caller n rs)
  length-records_of n r rs = length_cases r (records_of caller n rs) (eqb (caller r) n)

  module _ (ended : List (Ended R)) (above : (k : ℕ) (e : Ended R) → get_elem? ended k ≡ some e → 0 < e.number)
      (distinct : (j k : ℕ) (d e : Ended R) → get_elem? ended j ≡ some d → get_elem? ended k ≡ some e → d.number ≡ e.number → j ≡ k) where
    -- each record is counted once
    hits : (c : ℕ) → (c ≡ 0) ⊎ HasEnded ended c → hit c 0 + total (λ e. hit c e.number) ended ≡ 1
    hits c known = ⊎_elim
        (λ (zero_is : c ≡ 0). omega (arith, hit_same c 0 zero_is, total_none (λ e. hit c e.number) ended (λ k e at. hit_other c e.number (λ u. let a = above k e at in absurd (omega arith)))))
        (λ (h : HasEnded ended c). (let a = above h.0 h.1 h.2 in let is = h.3 in omega (
          arith,
          hit_other c 0 (λ u. absurd (omega arith)),
          total_one (λ e. hit c e.number) ended h.0 h.1 h.2 (hit_same c h.1.number (sym h.3)) (λ j d at n. hit_other c d.number (λ u. n (distinct j h.0 d h.1 at h.2 (sym u ∙ sym h.3)))),
        )))
        known

    counts : (log : List R) → ((k : ℕ) (r : R) → get_elem? log k ≡ some r → (caller r ≡ 0) ⊎ HasEnded ended (caller r))
        → length log ≡ length (records_of caller 0 log) + total (λ e. length (records_of caller e.number log)) ended
    counts [] h = omega (arith, total_none {A = Ended R} (λ e. 0) ended (λ k e at. refl))
    counts (r ∷ rs) h =
        let rest = counts rs (λ k x e. h (suc k) x e) in
        let once = hits (caller r) (h 0 r refl) in
        let own = length-records_of 0 r rs in
        let each = total_equal (λ e. length (records_of caller e.number (r ∷ rs))) (λ e. hit (caller r) e.number + length (records_of caller e.number rs)) ended (λ k e at. length-records_of e.number r rs) in
        let apart = total-+ (λ (e : Ended R). hit (caller r) e.number) (λ e. length (records_of caller e.number rs)) ended in
        omega arith

  -- where each pass that was joined took so many turns, and pass 0 none
  pub all_turns : {T : Type 0} (m : Knowledge R T) (count : ℕ) → KnowsAll caller m → m.number ≡ 0 → m.mine ≡ [] → All (λ e. length e.records ≡ count) m.ended
      → length m.seen ≡ length m.ended * count
  all_turns m count all zero_is none same =
      let whole = counts m.ended all.above all.distinct m.seen all.owned in
      let own : length (records_of caller 0 m.seen) ≡ 0 = ap length (sym (ap (λ (z : ℕ). records_of caller z m.seen) zero_is) ∙ (sym all.own ∙ none)) in
      let each = total_same (λ (e : Ended R). length (records_of caller e.number m.seen)) count m.ended (λ k e at. sym (ap length (all.listed k e at)) ∙ all_at (λ e. length e.records ≡ count) m.ended same k e at) in
      omega arith

-- one pass more was joined
pub one_joined : {R T : Type 0} (m o n : Knowledge R T) (count : ℕ) → n ≡ after_join m o → All (λ e. length e.records ≡ count) m.ended → length o.mine ≡ count
    → (length n.ended ≡ length m.ended + 1) × All (λ e. length e.records ≡ count) n.ended
one_joined {R} m o n count e all is =
    let last : Ended R = record { number = o.number; records = o.mine } in
    let ends : n.ended ≡ m.ended ++ last ∷ [] = ap (λ k. k.ended) e in
    (ap length ends ∙ length-append m.ended (last ∷ []), subst (All (λ (x : Ended R). length x.records ≡ count)) (sym ends) (All-push (λ (x : Ended R). length x.records ≡ count) m.ended last all is))
