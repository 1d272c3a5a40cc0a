-- Laws of names as sets.
use Rattle.std.proofs.Common.{◌≡◌, Bool, true, false, not, cond, ◌&&◌, ◌||◌, ℕ, List, [], ◌∷◌, refl, sym, ◌∙◌, ap, subst}
use Rattle.std.specs.List.{AllByRecursion}
use Rattle.std.specs.List.Sorted.{IsStrictlySortedBy}
use Rattle.std.specs.Ordering.{nat_cmp, match_ordering, is_eq, ordering_reverse}
use Rattle.std.specs.declared.cmp.Ordering.{Ordering}
use Rattle.std.specs.declared.cmp.Ordering.TheVariants.{Less, Equal, Greater}
use Rattle.std.specs.Cmp.Lexicographic.{slice_cmp, nat_list_cmp_total}
use Rattle.std.specs.Cmp.{Equal-is, tied_itself}
use Rattle.std.specs.BTreeMap.{is_at}
use Rattle.std.specs.BTreeSet.{insert_key, BTreeSet}
use Rattle.std.proofs.lemmas.Map.Lookups.{exact_bytes, btree_set_from_contains}
use Rattle.std.proofs.lemmas.List.Kept.{IsStrictlySortedBy-filter}
use Rattle.core_machine.specs.Texts.{has, SameNames, IsInForm, with_names, without_names}

abbrev R : List ℕ → List ℕ → Ordering
R = slice_cmp nat_cmp

pub same_text : (a b : List ℕ) → is_at (slice_cmp nat_cmp a) b ≡ true → a ≡ b
same_text a b e = exact_bytes a b ((Equal-is (R a b)).0 e)

pub itself : (a : List ℕ) → is_at (slice_cmp nat_cmp a) a ≡ true
itself a = ap is_eq (tied_itself nat_list_cmp_total a)

swapped : (a b c : Bool) → (a || (b || c)) ≡ (b || (a || c))
swapped true true c = refl
swapped true false c = refl
swapped false b c = refl

twice : (a c : Bool) → (a || c) ≡ (a || (a || c))
twice true c = refl
twice false c = refl

-- ---- one more name

has-insert-by : (x : List ℕ) (xs : List (List ℕ)) (k q : List ℕ) → has (insert_key R xs k) q ≡ (is_at (R q) k || has xs q) → (r : Ordering) → R k x ≡ r
    → has (match_ordering r (k ∷ x ∷ xs) (x ∷ xs) (x ∷ insert_key R xs k)) q ≡ (is_at (R q) k || (is_at (R q) x || has xs q))
has-insert-by x xs k q ih Less e = refl
has-insert-by x xs k q ih Equal e =
    subst (λ y. (is_at (R q) x || has xs q) ≡ (is_at (R q) y || (is_at (R q) x || has xs q))) (sym (exact_bytes k x e)) (twice (is_at (R q) x) (has xs q))
has-insert-by x xs k q ih Greater e = ap (λ b. is_at (R q) x || b) ih ∙ swapped (is_at (R q) x) (is_at (R q) k) (has xs q)

pub has-insert : (xs : List (List ℕ)) (k q : List ℕ) → has (insert_key (slice_cmp nat_cmp) xs k) q ≡ (is_at (slice_cmp nat_cmp q) k || has xs q)
has-insert [] k q = refl
has-insert (x ∷ xs) k q = has-insert-by x xs k q (has-insert xs k q) (R k x) refl

moved : (a b c : Bool) → (b || (a || c)) ≡ ((a || b) || c)
moved true true c = refl
moved true false c = refl
moved false b c = refl

pub has-with : (xs ns : List (List ℕ)) (q : List ℕ) → has (with_names xs ns) q ≡ (has ns q || has xs q)
has-with xs [] q = refl
has-with xs (n ∷ ns) q =
    has-with (insert_key R xs n) ns q ∙ ap (λ b. has ns q || b) (has-insert xs n q) ∙ moved (is_at (R q) n) (has ns q) (has xs q)

-- ---- fewer names

has-cond : (b : Bool) (xs ys : List (List ℕ)) (q : List ℕ) → has (cond b xs ys) q ≡ cond b (has xs q) (has ys q)
has-cond true xs ys q = refl
has-cond false xs ys q = refl

kept : (a h g b f : Bool) → f ≡ (h && not g) → (a ≡ true → g ≡ b) → cond (not b) (a || f) f ≡ ((a || h) && not g)
kept true h g true f is same = is ∙ ap (λ x. h && not x) (same refl) ∙ sym (and-false h) ∙ ap (λ x. not x) (sym (same refl))
  where
    and-false : (h : Bool) → false ≡ (h && false)
    and-false true = refl
    and-false false = refl
kept true h g false f is same = ap not (sym (same refl))
kept false h g true f is same = is
kept false h g false f is same = is

pub has-alike : (xs : List (List ℕ)) (a b : List ℕ) → is_at (slice_cmp nat_cmp a) b ≡ true → has xs a ≡ has xs b
has-alike xs a b e = ap (has xs) (same_text a b e)

pub has-without : (xs gone : List (List ℕ)) (q : List ℕ) → has (without_names xs gone) q ≡ (has xs q && not (has gone q))
has-without [] gone q = refl
has-without (x ∷ xs) gone q =
    has-cond (not (has gone x)) (x ∷ without_names xs gone) (without_names xs gone) q
    ∙ kept (is_at (R q) x) (has xs q) (has gone q) (has gone x) (has (without_names xs gone) q) (has-without xs gone q) (λ e. has-alike gone q x e)

-- ---- the form

rest-insert-by : (x k y : List ℕ) (ys : List (List ℕ)) → R x k ≡ Less → (R x y ≡ Less) → AllByRecursion (λ y. R x y ≡ Less) ys → AllByRecursion (λ y. R x y ≡ Less) (insert_key R ys k)
    → (r : Ordering) → AllByRecursion (λ y. R x y ≡ Less) (match_ordering r (k ∷ y ∷ ys) (y ∷ ys) (y ∷ insert_key R ys k))
rest-insert-by x k y ys less first all ih Less = (less, (first, all))
rest-insert-by x k y ys less first all ih Equal = (first, all)
rest-insert-by x k y ys less first all ih Greater = (first, ih)

rest-insert : (x k : List ℕ) (xs : List (List ℕ)) → R x k ≡ Less → AllByRecursion (λ y. R x y ≡ Less) xs → AllByRecursion (λ y. R x y ≡ Less) (insert_key R xs k)
rest-insert x k [] less all = (less, all)
rest-insert x k (y ∷ ys) less all = rest-insert-by x k y ys less all.0 all.1 (rest-insert x k ys less all.1) (R k y)

above : (k x : List ℕ) (xs : List (List ℕ)) → R k x ≡ Less → AllByRecursion (λ y. R x y ≡ Less) xs → AllByRecursion (λ y. R k y ≡ Less) xs
above k x [] less all = all
above k x (y ∷ ys) less all = (nat_list_cmp_total.trans k x y less all.0, above k x ys less all.1)

form-insert-by : (x k : List ℕ) (xs : List (List ℕ)) → AllByRecursion (λ y. R x y ≡ Less) xs → IsInForm xs → IsInForm (insert_key R xs k)
    → (r : Ordering) → R k x ≡ r → IsInForm (match_ordering r (k ∷ x ∷ xs) (x ∷ xs) (x ∷ insert_key R xs k))
unfolding IsStrictlySortedBy
form-insert-by x k xs all form ih Less e = ((e, above k x xs e all), (all, form))
form-insert-by x k xs all form ih Equal e = (all, form)
form-insert-by x k xs all form ih Greater e = (rest-insert x k xs (nat_list_cmp_total.antisymm x k ∙ ap ordering_reverse e) all, ih)

pub form-insert : (xs : List (List ℕ)) (k : List ℕ) → IsInForm xs → IsInForm (insert_key (slice_cmp nat_cmp) xs k)
unfolding IsStrictlySortedBy
form-insert [] k form = (tt, tt)
form-insert (x ∷ xs) k form = form-insert-by x k xs form.0 form.1 (form-insert xs k form.1) (R k x) refl

pub form-with : (xs ns : List (List ℕ)) → IsInForm xs → IsInForm (with_names xs ns)
form-with xs [] form = form
form-with xs (n ∷ ns) form = form-with (insert_key R xs n) ns (form-insert xs n form)

pub form-without : (xs gone : List (List ℕ)) → IsInForm xs → IsInForm (without_names xs gone)
form-without xs gone form = IsStrictlySortedBy-filter R (λ n. not (has gone n)) xs form

-- equal sets are equal lists
pub one-form : (xs ys : List (List ℕ)) → IsInForm xs → IsInForm ys → SameNames xs ys → xs ≡ ys
one-form xs ys f g same =
    let s : BTreeSet (List ℕ) = record { keys = xs } in
    let t : BTreeSet (List ℕ) = record { keys = ys } in
    btree_set_from_contains nat_list_cmp_total s t f g same exact_bytes
