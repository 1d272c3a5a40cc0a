-- What holds of each key of a list.
use Rattle.std.proofs.Common.{◌≡◌, ℕ, zero, suc, ◌+◌, ◌<◌, Bool, true, false, cond, List, [], ◌∷◌, ◌++◌, length, get_or, Option, Some, refl, sym, ap, ◌∙◌, arith}
use Rattle.std.specs.Prelude.{slice_get}
use Rattle.std.specs.List.{filter, flat_map, AllByRecursion}
use Rattle.std.specs.Option.{unwrap_or}

pub some_is : {A : Type 0} (a b : A) → Some a ≡ Some b → a ≡ b
some_is a b e = ap (λ o. unwrap_or o a) e

pub all_weaker : {X : Type 0} (P Q : X → Type 0) (xs : List X) → ((x : X) → P x → Q x) → AllByRecursion P xs → AllByRecursion Q xs
all_weaker P Q [] f all = tt
all_weaker P Q (x ∷ xs) f all = (f x all.0, all_weaker P Q xs f all.1)

pub all_at : {X : Type 0} (P : X → Type 0) (xs : List X) (i : ℕ) (d : X) → i < length xs → AllByRecursion P xs → P (get_or xs i d)
all_at P [] i d lt all = absurd (omega arith)
all_at P (x ∷ xs) zero d lt all = all.0
all_at P (x ∷ xs) (suc i) d lt all = all_at P xs i d (omega arith) all.1

pub all_both : {X : Type 0} (P : X → Type 0) (xs ys : List X) → AllByRecursion P xs → AllByRecursion P ys → AllByRecursion P (xs ++ ys)
all_both P [] ys one other = other
all_both P (x ∷ xs) ys one other = (one.0, all_both P xs ys one.1 other)

filter_by : {X : Type 0} (P : X → Type 0) (t : X → Bool) (x : X) (xs : List X) (b : Bool) → P x → AllByRecursion P (filter t xs) → AllByRecursion P (cond b (x ∷ filter t xs) (filter t xs))
filter_by P t x xs true p all = (p, all)
filter_by P t x xs false p all = all

pub all_filtered : {X : Type 0} (P : X → Type 0) (t : X → Bool) (xs : List X) → AllByRecursion P xs → AllByRecursion P (filter t xs)
all_filtered P t [] all = tt
all_filtered P t (x ∷ xs) all = filter_by P t x xs (t x) all.0 (all_filtered P t xs all.1)

pub all_flat : {X Y : Type 0} (P : X → Type 0) (f : Y → List X) (ys : List Y) → ((y : Y) → AllByRecursion P (f y)) → AllByRecursion P (flat_map f ys)
all_flat P f [] each = tt
all_flat P f (y ∷ ys) each = all_both P (f y) (flat_map f ys) (each y) (all_flat P f ys each)

pub differ : true ≡ false → ⊥
differ e = cc

unfiltered_by : {X : Type 0} (H P : X → Type 0) (t : X → Bool) (x : X) (xs : List X) (b : Bool) → t x ≡ b → (H x → t x ≡ true) → (AllByRecursion P (filter t xs) → AllByRecursion (λ y. H y → P y) xs) → AllByRecursion P (cond b (x ∷ filter t xs) (filter t xs))
    → AllByRecursion (λ y. H y → P y) (x ∷ xs)
unfiltered_by H P t x xs true is passes rest all = (λ h. all.0, rest all.1)
unfiltered_by H P t x xs false is passes rest all = (λ h. absurd (differ (sym (passes h) ∙ is)), rest all)

-- of those that pass for sure it holds wherever it holds of what passed
pub all_unfiltered : {X : Type 0} (H P : X → Type 0) (t : X → Bool) (xs : List X) → ((x : X) → H x → t x ≡ true) → AllByRecursion P (filter t xs) → AllByRecursion (λ x. H x → P x) xs
all_unfiltered H P t [] passes all = tt
all_unfiltered H P t (x ∷ xs) passes all = unfiltered_by H P t x xs (t x) refl (passes x) (all_unfiltered H P t xs passes) all

-- each stands among them
pub all_among : {X : Type 0} (xs : List X) → AllByRecursion (λ x. (i : ℕ) × (slice_get xs i ≡ Some x)) xs
all_among [] = tt
all_among (x ∷ xs) = ((0, refl), all_weaker _ _ xs (λ y p. (suc p.0, p.1)) (all_among xs))

-- the one behind a front
pub get_after : {X : Type 0} (xs : List X) (x : X) (rest : List X) (i : ℕ) → length xs ≡ i → slice_get (xs ++ x ∷ rest) i ≡ Some x
get_after [] x rest i is = ap (λ (n : ℕ). slice_get (x ∷ rest) n) (sym is)
get_after (y ∷ ys) x rest zero is = absurd (omega arith)
get_after (y ∷ ys) x rest (suc i) is = get_after ys x rest i (omega (arith, is))

pub get_front : {X : Type 0} (xs ys : List X) (i : ℕ) (x : X) → slice_get xs i ≡ Some x → slice_get (xs ++ ys) i ≡ Some x
get_front [] ys i x is = absurd cc
get_front (y ∷ xs) ys zero x is = is
get_front (y ∷ xs) ys (suc i) x is = get_front xs ys i x is

pub get_back : {X : Type 0} (xs ys : List X) (i j : ℕ) (o : Option X) → j ≡ length xs + i → slice_get ys i ≡ o → slice_get (xs ++ ys) j ≡ o
get_back [] ys i j o j-is is = ap (slice_get ys) (let e : j ≡ i = omega (arith, j-is) in e) ∙ is
get_back (x ∷ xs) ys i zero o j-is is = absurd (omega (arith, j-is))
get_back (x ∷ xs) ys i (suc j) o j-is is = get_back xs ys i j o (omega (arith, j-is)) is
