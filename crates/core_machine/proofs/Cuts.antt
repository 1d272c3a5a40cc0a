-- Ranges that stand together: what begins behind a range of a cut, and where a chain of its ranges stands.
use Rattle.std.proofs.Common.{◌≡◌, ◌⊎◌, inl, inr, true, List, [], ◌∷◌, ◌++◌, ℕ, ◌≤◌, ◌<◌, refl, sym, ◌∙◌, ap, subst, arith}
use Rattle.agg_model.specs.declared.entity.Range.{Range}
use Rattle.merge_ranges.specs.Cut.{is_aligned, IsCutFrom, end_from}
use Rattle.merge_ranges.proofs.CutLaws.{aligned_from, end_from-above}
use Rattle.core_machine.proofs.Inside.{In}

pub aligned-in : (a : ℕ) (cut : List Range) (r : Range) → IsCutFrom a cut → In r cut → is_aligned r ≡ true
aligned-in a [] r is h = absurd h
aligned-in a (q ∷ cut) r is (inl e) = subst (λ x. is_aligned x ≡ true) (sym e) is.1
aligned-in a (q ∷ cut) r is (inr h) = aligned-in q.to cut r is.2 h

grows : (r : Range) → is_aligned r ≡ true → r.from < r.to
grows r h = (aligned_from r h).some

-- a range of a cut begins where the cut does or later, and ends where it does or earlier
pub from-in : (a : ℕ) (cut : List Range) (r : Range) → IsCutFrom a cut → In r cut → a ≤ r.from
from-in a [] r is h = absurd h
from-in a (q ∷ cut) r is (inl e) = same (ap (λ (x : Range). x.from) e) is.0
  where
    same : {x y : ℕ} → x ≡ y → y ≡ a → a ≤ x
    same p s = omega (arith, p, s)
from-in a (q ∷ cut) r is (inr h) = later is.0 (grows q is.1) (from-in q.to cut r is.2 h)
  where
    later : {x y z : ℕ} → x ≡ a → x < y → y ≤ z → a ≤ z
    later p s t = omega (arith, p, s, t)

pub to-in : (a : ℕ) (cut : List Range) (r : Range) → IsCutFrom a cut → In r cut → r.to ≤ end_from a cut
to-in a [] r is h = absurd h
to-in a (q ∷ cut) r is (inl e) = subst (λ (x : Range). x.to ≤ end_from q.to cut) (sym e) (end_from-above q.to cut is.2)
to-in a (q ∷ cut) r is (inr h) = to-in q.to cut r is.2 h

-- behind a range of a cut stands the next one, or it is the last
pub record Begins (cut : List Range) (step : ℕ) : Type 0 where
  pub range : Range
  pub inside : In range cut
  pub from : range.from ≡ step

head-begins : (a : ℕ) (cut : List Range) → IsCutFrom a cut → Begins cut a ⊎ (end_from a cut ≡ a)
head-begins a [] is = inr refl
head-begins a (q ∷ cut) is = inl (record { range = q; inside = inl refl; from = is.0 })

more : {cut : List Range} {step : ℕ} (q : Range) → Begins cut step → Begins (q ∷ cut) step
more q b = record { range = b.range; inside = inr b.inside; from = b.from }

pub next-or-end : (a : ℕ) (cut : List Range) (r : Range) → IsCutFrom a cut → In r cut → Begins cut r.to ⊎ (end_from a cut ≡ r.to)
next-or-end a [] r is h = absurd h
next-or-end a (q ∷ cut) r is (inl e) =
    subst (λ (x : Range). Begins (q ∷ cut) x.to ⊎ (end_from q.to cut ≡ x.to)) (sym e) (first (head-begins q.to cut is.2))
  where
    first : Begins cut q.to ⊎ (end_from q.to cut ≡ q.to) → Begins (q ∷ cut) q.to ⊎ (end_from q.to cut ≡ q.to)
    first (inl b) = inl (more q b)
    first (inr e) = inr e
next-or-end a (q ∷ cut) r is (inr h) = rest (next-or-end q.to cut r is.2 h)
  where
    rest : Begins cut r.to ⊎ (end_from q.to cut ≡ r.to) → Begins (q ∷ cut) r.to ⊎ (end_from q.to cut ≡ r.to)
    rest (inl b) = inl (more q b)
    rest (inr e) = inr e

pub start-or-end : (a : ℕ) (cut : List Range) → IsCutFrom a cut → Begins cut a ⊎ (end_from a cut ≡ a)
start-or-end = head-begins

pub end_from-append : (a : ℕ) (xs ys : List Range) → end_from a (xs ++ ys) ≡ end_from (end_from a xs) ys
end_from-append a [] ys = refl
end_from-append a (x ∷ xs) ys = end_from-append x.to xs ys

pub cut-append : (a : ℕ) (xs ys : List Range) → IsCutFrom a xs → IsCutFrom (end_from a xs) ys → IsCutFrom a (xs ++ ys)
cut-append a [] ys is then = then
cut-append a (x ∷ xs) ys is then = (is.0, is.1, cut-append x.to xs ys is.2 then)

pub cut-front : (a : ℕ) (xs ys : List Range) → IsCutFrom a (xs ++ ys) → IsCutFrom a xs
cut-front a [] ys is = tt
cut-front a (x ∷ xs) ys is = (is.0, is.1, cut-front x.to xs ys is.2)

pub cut-back : (a : ℕ) (xs ys : List Range) → IsCutFrom a (xs ++ ys) → IsCutFrom (end_from a xs) ys
cut-back a [] ys is = is
cut-back a (x ∷ xs) ys is = cut-back x.to xs ys is.2

-- ---- a chain of ranges of a cut

abbrev pub AllIn : List Range → List Range → Type 0
AllIn [] cut = Unit {0}
AllIn (r ∷ rs) cut = In r cut × AllIn rs cut

clash-behind : {x y z w : ℕ} → z < w → w ≤ y → x ≡ y → x ≡ z → ⊥
clash-behind h g k e = omega (arith, h, g, k, e)

higher : {x y z w : ℕ} → x ≤ y → z ≡ y → z < w → x ≤ w
higher h g k = omega (arith, h, g, k)

not-first : (a : ℕ) (q p : Range) (cut : List Range) (b : ℕ) → IsCutFrom a (q ∷ cut) → p.from ≡ b → q.to ≤ b → In p (q ∷ cut) → In p cut
not-first a q p cut b is at low (inl e) = absurd (clash-behind (grows q is.1) low at (ap (λ (x : Range). x.from) e))
not-first a q p cut b is at low (inr h) = h

-- those that begin behind the first one are in the rest
rest-in : (a : ℕ) (q : Range) (cut ps : List Range) (b : ℕ) → IsCutFrom a (q ∷ cut) → IsCutFrom b ps → q.to ≤ b → AllIn ps (q ∷ cut) → AllIn ps cut
rest-in a q cut [] b is chain low all = tt
rest-in a q cut (p ∷ ps) b is chain low all =
    (not-first a q p cut b is chain.0 low all.0, rest-in a q cut ps p.to is chain.2 (higher low chain.0 (grows p chain.1)) all.1)

abbrev pub IsFront : List Range → List Range → Type 0
IsFront cut ps = (back : List Range) × (cut ≡ ps ++ back)

le-self : (n : ℕ) → n ≤ n
le-self n = omega arith

clash-start : {a x y z : ℕ} → x ≡ a → y ≡ a → x < z → z ≤ y → ⊥
clash-start h g k l = omega (arith, h, g, k, l)

front-step : (a : ℕ) (q p : Range) (cut ps : List Range) → IsCutFrom a (q ∷ cut) → IsCutFrom a (p ∷ ps) → AllIn (p ∷ ps) (q ∷ cut) → (IsCutFrom q.to ps → AllIn ps cut → IsFront cut ps)
    → In p (q ∷ cut) → IsFront (q ∷ cut) (p ∷ ps)
front-step a q p cut ps is chain all rest (inl e) =
    let chain' : IsCutFrom q.to ps = subst (λ (x : Range). IsCutFrom x.to ps) e chain.2 in
    let r = rest chain' (rest-in a q cut ps q.to is chain' (le-self q.to) all.1) in
    (r.0, λ i. sym e i ∷ r.1 i)
front-step a q p cut ps is chain all rest (inr h) = absurd (clash-start is.0 chain.0 (grows q is.1) (from-in q.to cut p is.2 h))

-- a chain of ranges of a cut that begins where the cut does is its front
pub front-of : (a : ℕ) (cut ps : List Range) → IsCutFrom a cut → IsCutFrom a ps → AllIn ps cut → IsFront cut ps
front-of a cut [] is chain all = (cut, refl)
front-of a [] (p ∷ ps) is chain all = absurd all.0
front-of a (q ∷ cut) (p ∷ ps) is chain all = front-step a q p cut ps is chain all (λ c in-rest. front-of q.to cut ps is.2 c in-rest) all.0

-- the chain stands together in the cut
pub record StandsIn (cut ps : List Range) : Type 0 where
  pub front : List Range
  pub back : List Range
  pub parts : cut ≡ front ++ (ps ++ back)

stands-step : (a : ℕ) (q p : Range) (cut ps : List Range) → IsCutFrom a (q ∷ cut) → IsCutFrom p.from (p ∷ ps) → AllIn (p ∷ ps) (q ∷ cut) → (AllIn (p ∷ ps) cut → StandsIn cut (p ∷ ps))
    → In p (q ∷ cut) → StandsIn (q ∷ cut) (p ∷ ps)
stands-step a q p cut ps is chain all rest (inl e) =
    let start : p.from ≡ a = ap (λ (x : Range). x.from) e ∙ is.0 in
    let f = front-of a (q ∷ cut) (p ∷ ps) is (subst (λ n. IsCutFrom n (p ∷ ps)) start chain) all in
    record { front = []; back = f.0; parts = f.1 }
stands-step a q p cut ps is chain all rest (inr h) =
    let s = rest (rest-in a q cut (p ∷ ps) p.from is chain (from-in q.to cut p is.2 h) all) in
    record { front = q ∷ s.front; back = s.back; parts = ap (λ l. q ∷ l) s.parts }

pub stands-in : (a : ℕ) (cut : List Range) (p : Range) (ps : List Range) → IsCutFrom a cut → IsCutFrom p.from (p ∷ ps) → AllIn (p ∷ ps) cut → StandsIn cut (p ∷ ps)
stands-in a [] p ps is chain all = absurd all.0
stands-in a (q ∷ cut) p ps is chain all = stands-step a q p cut ps is chain all (λ there. stands-in q.to cut p ps is.2 chain there) all.0
