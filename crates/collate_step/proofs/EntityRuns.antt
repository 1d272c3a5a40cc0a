-- The first changes of sorted ones, as far as they are of an entity, are all that are of it.
use Rattle.std.specs.Prelude.{◌≡◌, ℕ, zero, suc, ◌≤◌, ◌<◌, ◌==◌, nat_lt, Bool, true, false, cond, List, [], ◌∷◌, length, take, drop, All, slice_get, Some, refl}
use Rattle.std.proofs.Common.{inl, inr, get_or, sym, ◌∙◌, ap, arith, ltb-false, lt-ltb, le-ltb, eq-eqb}
use Rattle.std.specs.List.{filter}
use Rattle.std.specs.Ordering.{nat_cmp, ordering_then, is_lt}
use Rattle.std.specs.declared.cmp.Ordering.{Ordering}
use Rattle.std.specs.declared.cmp.Ordering.TheVariants.{Less, Equal, Greater}
use Rattle.std.proofs.lemmas.Bool.{ne_eqb}
use Rattle.std.proofs.Math.Nat.{eq-or-lt_of_le}
use Rattle.std.proofs.lemmas.List.Elements.{All-cons, All-head, All-tail}
use Rattle.agg_model.specs.declared.change.Change.{Change}
use Rattle.agg_model.specs.Entity.{entity_number}
use Rattle.agg_model.specs.Place.{place_of, place_cmp, is_before}
use Rattle.agg_model.proofs.ArrangedLaws.{IsInOrder}
use Rattle.agg_model.proofs.ContentsLaws.{filter-none}
use Rattle.collate_step.specs.Runs.{is_numbered, is_behind}

filter-all : (p : Change → Bool) (cs : List Change) → All (λ c. p c ≡ true) cs → filter p cs ≡ cs
filter-all p [] all = refl
filter-all p (c ∷ cs) all =
    λ i. cond (All-head (λ c. p c ≡ true) c cs all i) (c ∷ filter-all p cs (All-tail (λ c. p c ≡ true) c cs all) i) (filter-all p cs (All-tail (λ c. p c ≡ true) c cs all) i)

not_less-by : (n m : ℕ) (s : Ordering) (t : Bool) → nat_lt n m ≡ t → is_lt (ordering_then (cond t Less (cond (n == m) Equal Greater)) s) ≡ false → m ≤ n
not_less-by n m s true is h = cc
not_less-by n m s false is h = ltb-false n m is

not_less : (n m : ℕ) (s : Ordering) → is_lt (ordering_then (nat_cmp n m) s) ≡ false → m ≤ n
not_less n m s h = not_less-by n m s (nat_lt n m) refl h

number_rises : (c d : Change) → is_before (place_of d) (place_of c) ≡ false → entity_number c.entity ≤ entity_number d.entity
unfolding is_before place_of place_cmp
number_rises c d h = not_less (entity_number d.entity) (entity_number c.entity) _ h

else_by : {x y : ℕ} → x ≤ y → (y ≡ x → ⊥) → x < y
else_by h g = elim (eq-or-lt_of_le h) [ inl same ↦ absurd (g (sym same)) | inr less ↦ less ]

module _ (n : ℕ) where
  pub record IsSplit (m : ℕ) (cs : List Change) : Type 0 where
    pub run : take m cs ≡ filter (is_numbered n) cs
    pub rest : drop m cs ≡ filter (is_behind n) cs

  above : (c : Change) → n < entity_number c.entity → (is_numbered n c ≡ false) × (is_behind n c ≡ true)
  above c h = (ne_eqb (entity_number c.entity) n (λ same. omega (arith, same, h)), lt-ltb n (entity_number c.entity) h)

  here : (c : Change) → entity_number c.entity ≡ n → (is_numbered n c ≡ true) × (is_behind n c ≡ false)
  here c h = (eq-eqb (entity_number c.entity) n h, le-ltb n (entity_number c.entity) (omega (arith, h)))

  no_more : (c : Change) (cs : List Change) → IsInOrder (c ∷ cs) → n < entity_number c.entity → IsSplit 0 (c ∷ cs)
  no_more c cs order high =
      let all : All (λ d. n < entity_number d.entity) (c ∷ cs) =
      All-cons (λ d. n < entity_number d.entity) c cs high (λ i z below. chain high (number_rises c (get_or cs i z) (order.0 i z below))) in
      record {
        run = sym (filter-none (is_numbered n) (c ∷ cs) (λ i z below. (above (get_or (c ∷ cs) i z) (all i z below)).0));
        rest = sym (filter-all (is_behind n) (c ∷ cs) (λ i z below. (above (get_or (c ∷ cs) i z) (all i z below)).1));
      }
    where
      chain : {x y z : ℕ} → x < y → y ≤ z → x < z
      chain h g = omega arith

  one_more : (m : ℕ) (c : Change) (cs : List Change) → entity_number c.entity ≡ n → IsSplit m cs → IsSplit (suc m) (c ∷ cs)
  one_more m c cs is rest =
      let both = here c is in
      record {
        run = ap (λ l. c ∷ l) rest.run ∙ ap (λ t. cond t (c ∷ filter (is_numbered n) cs) (filter (is_numbered n) cs)) (sym both.0);
        rest = rest.rest ∙ ap (λ t. cond t (c ∷ filter (is_behind n) cs) (filter (is_behind n) cs)) (sym both.1);
      }

  pub split : (m : ℕ) (cs : List Change) → IsInOrder cs → All (λ c. n ≤ entity_number c.entity) cs → m ≤ length cs → ((i : ℕ) (c : Change) → i < m → slice_get cs i ≡ Some c → entity_number c.entity ≡ n)
      → ((c : Change) → slice_get cs m ≡ Some c → entity_number c.entity ≡ n → ⊥) → IsSplit m cs
  split zero [] order low within same ends = record { run = refl; rest = refl }
  split zero (c ∷ cs) order low within same ends =
      let from = All-head (λ c. n ≤ entity_number c.entity) c cs low in
      no_more c cs order (else_by from (ends c refl))
  split (suc m) [] order low within same ends = absurd (omega arith)
  split (suc m) (c ∷ cs) order low within same ends =
      one_more m c cs (same zero c (omega arith) refl)
      (split m cs order.1 (All-tail (λ c. n ≤ entity_number c.entity) c cs low) (omega arith) (λ i d below at. same (suc i) d (omega arith) at) ends)
