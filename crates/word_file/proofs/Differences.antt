-- The first difference of two texts.
use Rattle.std.proofs.Common.{◌≡◌, ℕ, zero, suc, ◌+◌, ◌<◌, min, true, eqb, List, [], ◌∷◌, ◌++◌, length, get_or, take, Option, Some, None, refl, sym, ap, subst, ◌∙◌, arith, inl, inr}
use Rattle.std.specs.Prelude.{IfSome, IsNone}
use Rattle.std.specs.Option.{option_map}
use Rattle.std.proofs.lemmas.Bool.{cases_lt, eqb-true, eqb-false, eq-eqb, ne_eqb, cases_Bool, cond_both}
use Rattle.std.proofs.lemmas.List.{take_all}
use Rattle.std.proofs.lemmas.Option.{get_or_from_slice_get, slice_get-get_or, slice_get_past}
use Rattle.word_file.specs.Difference.{first_difference, IsDifference}

-- what both begin with only moves the place
pub first_difference-append : (front xs ys : List ℕ) (i : ℕ) → first_difference xs ys ≡ Some i → first_difference (front ++ xs) (front ++ ys) ≡ Some (length front + i)
first_difference-append [] xs ys i e = e ∙ ap (λ (k : ℕ). Some k) (omega arith)
first_difference-append (x ∷ front) xs ys i e =
    let same : eqb x x ≡ true = eq-eqb x x refl in
    let more : suc (length front + i) ≡ suc (length front) + i = omega arith in
    rw (same, first_difference-append front xs ys i e) (ap (λ (k : ℕ). Some k) more)

pub first_difference-same : (xs : List ℕ) → first_difference xs xs ≡ None
first_difference-same [] = refl
first_difference-same (x ∷ xs) = rw (eq-eqb x x refl, first_difference-same xs) refl

map_none : (o : Option ℕ) → option_map suc o ≡ None → o ≡ None
map_none None e = refl
map_none (Some i) e = absurd cc

pub same_from_none : (xs ys : List ℕ) → first_difference xs ys ≡ None → xs ≡ ys
same_from_none [] [] e = refl
same_from_none [] (y ∷ ys) e = absurd cc
same_from_none (x ∷ xs) [] e = absurd cc
same_from_none (x ∷ xs) (y ∷ ys) e =
    elim (cases_Bool (eqb x y)) [
      | inl same ↦ let tail = same_from_none xs ys (map_none (first_difference xs ys) (rw same at e)) in let head = eqb-true x y same in cc
      | inr other ↦ let no : Some 0 ≡ None = rw other at e in absurd cc
    ]

difference_more : (x : ℕ) (xs ys : List ℕ) (i : ℕ) → IsDifference xs ys i → IsDifference (x ∷ xs) (x ∷ ys) (suc i)
difference_more x xs ys i d = record {
  alike = ap (λ (t : List ℕ). x ∷ t) d.alike;
  in_first = omega (arith, d.in_first);
  in_second = omega (arith, d.in_second);
  differs = d.differs;
}

pub place_of_difference : (xs ys : List ℕ) → IfSome (first_difference xs ys) (IsDifference xs ys)
place_of_difference [] [] = tt
place_of_difference [] (y ∷ ys) = record { alike = refl; in_first = omega arith; in_second = omega arith; differs = λ e. absurd cc }
place_of_difference (x ∷ xs) [] = record { alike = refl; in_first = omega arith; in_second = omega arith; differs = λ e. absurd cc }
place_of_difference (x ∷ xs) (y ∷ ys) =
    cond_both (eqb x y) (option_map suc (first_difference xs ys)) (Some 0) (λ (o : Option ℕ). IfSome o (IsDifference (x ∷ xs) (y ∷ ys)))
    (λ same. subst (λ (z : ℕ). IfSome (option_map suc (first_difference xs ys)) (IsDifference (x ∷ xs) (z ∷ ys))) (eqb-true x y same) (later x xs ys (first_difference xs ys) (place_of_difference xs ys)))
    (λ other. record { alike = refl; in_first = omega arith; in_second = omega arith; differs = λ e. eqb-false x y other cc })
  where
    later : (x : ℕ) (xs ys : List ℕ) (o : Option ℕ) → IfSome o (IsDifference xs ys) → IfSome (option_map suc o) (IsDifference (x ∷ xs) (x ∷ ys))
    later x xs ys None h = tt
    later x xs ys (Some i) h = difference_more x xs ys i h

-- there is only one
pub difference_is : (xs ys : List ℕ) (i : ℕ) → IsDifference xs ys i → first_difference xs ys ≡ Some i
difference_is [] [] i d = absurd (d.differs refl)
difference_is [] (y ∷ ys) i d = ap (λ (k : ℕ). Some k) (omega (arith, d.in_first))
difference_is (x ∷ xs) [] i d = ap (λ (k : ℕ). Some k) (omega (arith, d.in_second))
difference_is (x ∷ xs) (y ∷ ys) zero d = rw (ne_eqb x y (λ e. d.differs (ap (λ (k : ℕ). Some k) e))) refl
difference_is (x ∷ xs) (y ∷ ys) (suc i) d =
    let heads : x ≡ y = let e = d.alike in cc in
    let tails : take i xs ≡ take i ys = let e = d.alike in cc in
    let rest = difference_is xs ys i (record { alike = tails; in_first = omega (arith, d.in_first); in_second = omega (arith, d.in_second); differs = d.differs }) in
    rw (eq-eqb x y heads, rest) refl

-- two cells that differ after what is alike
pub cells_differ : (xs ys : List ℕ) (i : ℕ) → i < length xs → i < length ys → take i xs ≡ take i ys → (get_or xs i 0 ≡ get_or ys i 0 → ⊥) → first_difference xs ys ≡ Some i
cells_differ xs ys i in_first in_second alike ne =
    difference_is xs ys i
    record {
      alike = alike;
      in_first = omega arith;
      in_second = omega arith;
      differs = λ e. ne (get_or_from_slice_get xs i (get_or ys i 0) 0 (e ∙ slice_get-get_or ys i 0 in_second));
    }

-- one ends where they are still alike
pub one_ends : (xs ys : List ℕ) (i : ℕ) → i ≡ min (length xs) (length ys) → (length xs ≡ length ys → ⊥) → take i xs ≡ take i ys → first_difference xs ys ≡ Some i
one_ends xs ys i at ne alike =
    difference_is xs ys i
    record {
      alike = alike;
      in_first = omega arith;
      in_second = omega arith;
      differs = λ e.
          elim (cases_lt (length xs) (length ys)) [
            | inl lt ↦ let here = slice_get_past xs i (omega arith) in let there = slice_get-get_or ys i 0 (omega arith) in absurd cc
            | inr le ↦ let here = slice_get-get_or xs i 0 (omega arith) in let there = slice_get_past ys i (omega arith) in absurd cc
          ];
    }

-- alike to the end of both
pub both_end : (xs ys : List ℕ) (i : ℕ) → i ≡ min (length xs) (length ys) → length xs ≡ length ys → take i xs ≡ take i ys → first_difference xs ys ≡ None
both_end xs ys i at len alike =
    let same : xs ≡ ys = sym (take_all i xs (omega arith)) ∙ alike ∙ take_all i ys (omega arith) in
    ap (first_difference xs) (sym same) ∙ first_difference-same xs

pub none_is : (o : Option ℕ) → IsNone o → o ≡ None
none_is None h = refl
none_is (Some i) h = absurd cc

pub is_none_from : (o : Option ℕ) → o ≡ None → IsNone o
is_none_from o e = subst (λ (p : Option ℕ). IsNone p) (sym e) refl
