-- A list whose keys ascend is told by its look-ups.
use Rattle.std.specs.Prelude.{◌≡◌, Bool, true, false, cond, List, [], ◌∷◌, All, Option, Some, None, refl}
use Rattle.std.proofs.Common.{sym, ◌∙◌, ap, subst}
use Rattle.std.specs.Ordering.{is_eq, ordering_reverse}
use Rattle.std.specs.Cmp.{IsTotalOrder, tied_itself}
use Rattle.std.specs.declared.cmp.Ordering.{Ordering}
use Rattle.std.specs.declared.cmp.Ordering.TheVariants.{Less, Equal, Greater}
use Rattle.std.proofs.lemmas.List.Elements.{All-cons, All-head, All-tail}

-- what the first item with the key has
abbrev pub found : {A B K : Type 0} → (A → K) → (A → B) → (K → K → Ordering) → List A → K → Option B
found key value cmp [] k = None
found key value cmp (x ∷ xs) k = cond (is_eq (cmp (key x) k)) (Some (value x)) (found key value cmp xs k)

-- each key is before all later ones
abbrev pub Climb : {A K : Type 0} → (A → K) → (K → K → Ordering) → List A → Type 0
Climb key cmp [] = Unit {0}
Climb key cmp (x ∷ xs) = All (λ y. cmp (key x) (key y) ≡ Less) xs × Climb key cmp xs

module _ {A B K : Type 0} (key : A → K) (value : A → B) (cmp : K → K → Ordering) (total : IsTotalOrder cmp) (tied : (x y : K) → cmp x y ≡ Equal → x ≡ y)
    (same : (x y : A) → key x ≡ key y → value x ≡ value y → x ≡ y) where
  itself : (k : K) → is_eq (cmp k k) ≡ true
  itself k = ap is_eq (tied_itself total k)

  none : (k : K) (xs : List A) → All (λ x. is_eq (cmp (key x) k) ≡ false) xs → found key value cmp xs k ≡ None
  none k [] all = refl
  none k (x ∷ xs) all =
      (λ i. cond (All-head (λ x. is_eq (cmp (key x) k) ≡ false) x xs all i) (Some (value x)) (none k xs (All-tail (λ x. is_eq (cmp (key x) k) ≡ false) x xs all) i))

  greater : (k l : K) → cmp k l ≡ Less → is_eq (cmp l k) ≡ false
  greater k l less = ap is_eq (total.antisymm l k ∙ ap ordering_reverse less)

  -- a key before all of a list isn't found
  none-below : (k : K) (xs : List A) → All (λ x. cmp k (key x) ≡ Less) xs → found key value cmp xs k ≡ None
  none-below k xs all = none k xs (λ i z below. greater k _ (all i z below))

  first-found : (x : A) (xs : List A) → found key value cmp (x ∷ xs) (key x) ≡ Some (value x)
  first-found x xs = ap (λ t. cond t (Some (value x)) (found key value cmp xs (key x))) (itself (key x))

  absurd-found : (x : A) (xs ys : List A) → All (λ y. cmp (key x) (key y) ≡ Less) ys → ((k : K) → found key value cmp (x ∷ xs) k ≡ found key value cmp ys k) → ⊥
  absurd-found x xs ys all agree =
      let wrong : Some (value x) ≡ None = sym (first-found x xs) ∙ agree (key x) ∙ none-below (key x) ys all in
      cc

  eq_of : (r : Ordering) → is_eq r ≡ true → r ≡ Equal
  eq_of Less h = cc
  eq_of Equal h = refl
  eq_of Greater h = cc

  rest-agree-by : (x y : A) (xs ys : List A) (k : K) (t : Bool) → is_eq (cmp (key x) k) ≡ t → key x ≡ key y → All (λ z. cmp (key x) (key z) ≡ Less) xs → All (λ z. cmp (key y) (key z) ≡ Less) ys
      → found key value cmp (x ∷ xs) k ≡ found key value cmp (y ∷ ys) k → found key value cmp xs k ≡ found key value cmp ys k
  rest-agree-by x y xs ys k true is keys first second agree =
      let at = tied (key x) k (eq_of (cmp (key x) k) is) in
      none-below k xs (subst (λ k. All (λ z. cmp k (key z) ≡ Less) xs) at first)
      ∙ sym (none-below k ys (subst (λ k. All (λ z. cmp k (key z) ≡ Less) ys) (sym keys ∙ at) second))
  rest-agree-by x y xs ys k false is keys first second agree =
      sym (ap (λ t. cond t (Some (value x)) (found key value cmp xs k)) is)
      ∙ agree
      ∙ ap (λ l. cond (is_eq (cmp l k)) (Some (value y)) (found key value cmp ys k)) (sym keys)
      ∙ ap (λ t. cond t (Some (value y)) (found key value cmp ys k)) is

  one_list-by : (x y : A) (xs ys : List A) (r : Ordering) → cmp (key x) (key y) ≡ r → Climb key cmp (x ∷ xs) → Climb key cmp (y ∷ ys) → ((k : K) → found key value cmp (x ∷ xs) k ≡ found key value cmp (y ∷ ys) k)
      → (((k : K) → found key value cmp xs k ≡ found key value cmp ys k) → xs ≡ ys) → x ∷ xs ≡ y ∷ ys
  one_list-by x y xs ys Less is up to agree rest =
      absurd (absurd-found x xs (y ∷ ys) (All-cons (λ z. cmp (key x) (key z) ≡ Less) y ys is (λ i z below. total.trans (key x) (key y) _ is (to.0 i z below))) agree)
  one_list-by x y xs ys Equal is up to agree rest =
      let keys = tied (key x) (key y) is in
      let values : value x ≡ value y = some-value (sym (first-found x xs) ∙ agree (key x) ∙ ap (found key value cmp (y ∷ ys)) keys ∙ first-found y ys) in
      (λ i. same x y keys values i ∷ rest (λ k. rest-agree-by x y xs ys k (is_eq (cmp (key x) k)) refl keys up.0 to.0 (agree k)) i)
    where
      some-value : {b c : B} → Some b ≡ Some c → b ≡ c
      some-value h = cc
  one_list-by x y xs ys Greater is up to agree rest =
      let back = total.antisymm (key y) (key x) ∙ ap ordering_reverse is in
      absurd (absurd-found y ys (x ∷ xs) (All-cons (λ z. cmp (key y) (key z) ≡ Less) x xs back (λ i z below. total.trans (key y) (key x) _ back (up.0 i z below))) (λ k. sym (agree k)))

  -- two such lists in which each key is found key value cmp alike are one
  pub one_list : (xs ys : List A) → Climb key cmp xs → Climb key cmp ys → ((k : K) → found key value cmp xs k ≡ found key value cmp ys k) → xs ≡ ys
  one_list [] [] up to agree = refl
  one_list [] (y ∷ ys) up to agree =
      let wrong : None ≡ Some (value y) = agree (key y) ∙ first-found y ys in
      cc
  one_list (x ∷ xs) [] up to agree =
      let wrong : Some (value x) ≡ None = sym (first-found x xs) ∙ agree (key x) in
      cc
  one_list (x ∷ xs) (y ∷ ys) up to agree =
      one_list-by x y xs ys (cmp (key x) (key y)) refl up to agree (one_list xs ys up.1 to.1)
