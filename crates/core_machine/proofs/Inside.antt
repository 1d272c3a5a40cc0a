-- What is inside of a list, and where it stands in lists that are joined, mapped and filtered.
use Rattle.std.proofs.Common.{◌≡◌, ◌⊎◌, inl, inr, Bool, true, false, cond, List, [], ◌∷◌, ◌++◌, map, filter, refl, sym, ap, subst}
use Rattle.std.proofs.lemmas.Bool.{false≢true}

abbrev pub In : {X : Type 0} → X → List X → Type 0
In x [] = ⊥
In x (y ∷ ys) = (x ≡ y) ⊎ In x ys

pub in-left : {X : Type 0} (x : X) (xs ys : List X) → In x xs → In x (xs ++ ys)
in-left x [] ys h = absurd h
in-left x (y ∷ xs) ys (inl e) = inl e
in-left x (y ∷ xs) ys (inr h) = inr (in-left x xs ys h)

pub in-right : {X : Type 0} (x : X) (xs ys : List X) → In x ys → In x (xs ++ ys)
in-right x [] ys h = h
in-right x (y ∷ xs) ys h = inr (in-right x xs ys h)

pub in-split : {X : Type 0} (x : X) (xs ys : List X) → In x (xs ++ ys) → In x xs ⊎ In x ys
in-split x [] ys h = inr h
in-split x (y ∷ xs) ys (inl e) = inl (inl e)
in-split x (y ∷ xs) ys (inr h) = first (in-split x xs ys h)
  where
    first : In x xs ⊎ In x ys → In x (y ∷ xs) ⊎ In x ys
    first (inl g) = inl (inr g)
    first (inr g) = inr g

pub in-map : {X Y : Type 0} (f : X → Y) (x : X) (xs : List X) → In x xs → In (f x) (map f xs)
in-map f x [] h = absurd h
in-map f x (y ∷ ys) (inl e) = inl (ap f e)
in-map f x (y ∷ ys) (inr h) = inr (in-map f x ys h)

pub record Mapped {X Y : Type 0} (f : X → Y) (y : Y) (xs : List X) : Type 0 where
  pub from : X
  pub inside : In from xs
  pub is : y ≡ f from

pub from-map : {X Y : Type 0} (f : X → Y) (y : Y) (xs : List X) → In y (map f xs) → Mapped f y xs
from-map f y [] h = absurd h
from-map f y (x ∷ xs) (inl e) = record { from = x; inside = inl refl; is = e }
from-map f y (x ∷ xs) (inr h) =
    let rest = from-map f y xs h in
    record { from = rest.from; inside = inr rest.inside; is = rest.is }

in-cond : {X : Type 0} (b : Bool) (x y : X) (ys : List X) → x ≡ y → b ≡ true → In x (cond b (y ∷ ys) ys)
in-cond true x y ys e h = inl e
in-cond false x y ys e h = absurd (false≢true h)

in-cond-rest : {X : Type 0} (b : Bool) (x y : X) (ys : List X) → In x ys → In x (cond b (y ∷ ys) ys)
in-cond-rest true x y ys h = inr h
in-cond-rest false x y ys h = h

pub in-filter : {X : Type 0} (p : X → Bool) (x : X) (xs : List X) → In x xs → p x ≡ true → In x (filter p xs)
in-filter p x [] h so = absurd h
in-filter p x (y ∷ ys) (inl e) so = in-cond (p y) x y (filter p ys) e (subst (λ z. p z ≡ true) e so)
in-filter p x (y ∷ ys) (inr h) so = in-cond-rest (p y) x y (filter p ys) (in-filter p x ys h so)

from-cond : {X : Type 0} (p : X → Bool) (b : Bool) (x y : X) (ys : List X) → p y ≡ b → (In x ys → p x ≡ true) → In x (cond b (y ∷ ys) ys) → p x ≡ true
from-cond p true x y ys is rest (inl e) = subst (λ z. p z ≡ true) (sym e) is
from-cond p true x y ys is rest (inr h) = rest h
from-cond p false x y ys is rest h = rest h

pub from-filter : {X : Type 0} (p : X → Bool) (x : X) (xs : List X) → In x (filter p xs) → p x ≡ true
from-filter p x [] h = absurd h
from-filter p x (y ∷ ys) h = from-cond p (p y) x y (filter p ys) refl (λ g. from-filter p x ys g) h
