-- What the visible names tell of their end and their cuts, and which merges are possible.
use Rattle.std.proofs.Common.{◌≡◌, ◌⊎◌, inl, inr, Bool, true, false, cond, not, ◌&&◌, ◌||◌, ◌==◌, List, [], ◌∷◌, ◌++◌, ℕ, zero, suc, ◌+◌, ◌-◌, ◌≤◌, ◌<◌, length, refl, sym, ◌∙◌, ap, subst, arith, le-leb, lt-ltb, eq-eqb}
use Rattle.std.specs.Prelude.{Option, Some, None, is_some, nat_lt, nat_le, find}
use Rattle.std.specs.Cmp.{first_so, second_so}
use Rattle.agg_model.specs.declared.entity.Entity.{Entity}
use Rattle.agg_model.specs.declared.entity.Entity.TheVariants.{Accounts}
use Rattle.agg_model.specs.declared.entity.Range.{Range}
use Rattle.agg_model.specs.declared.entity.FileKind.TheVariants.{Ef}
use Rattle.merge_ranges.specs.declared.name.FileName.{FileName}
use Rattle.merge_ranges.specs.Name.{spelled}
use Rattle.merge_ranges.specs.Cut.{sizes, is_aligned, IsCutFrom, IsUnionIn, end_from}
use Rattle.merge_ranges.proofs.CutLaws.{aligned_from, end_from-above, end_of-within}
use Rattle.core_machine.specs.Texts.{has, SameNames, entity_texts}
use Rattle.core_machine.specs.Sound.{AreWholeGroups}
use Rattle.core_machine.specs.Publishing.{range_at, has_group, size_from, size_to, is_end, after_size, parts_from, parts_of, IsMerge}
use Rattle.core_machine.specs.Histories.{cut_of}
use Rattle.core_machine.proofs.Inside.{In, in-left, in-right}
use Rattle.core_machine.proofs.GroupTexts.{named}
use Rattle.core_machine.proofs.Cuts.{aligned-in, from-in, to-in, stands-in}
use Rattle.core_machine.proofs.Visible.{both, ef-fits, in-names, aligned-of, one-name, group-inside, inside-group, find-some, find-found, size-inside}
use Rattle.core_machine.proofs.KeptMerge.{find-is, IsChain, parts-chain, all-in, over-in, over-from}
use Rattle.core_machine.proofs.Kept.{group-among}

-- the range with which a cut ends
pub record Last (cut : List Range) (step : ℕ) : Type 0 where
  pub range : Range
  pub inside : In range cut
  pub to : range.to ≡ step

last-or-none : (a : ℕ) (cut : List Range) → IsCutFrom a cut → Last cut (end_from a cut) ⊎ (end_from a cut ≡ a)
last-or-none a [] is = inr refl
last-or-none a (q ∷ cut) is = inl (by (last-or-none q.to cut is.2))
  where
    by : Last cut (end_from q.to cut) ⊎ (end_from q.to cut ≡ q.to) → Last (q ∷ cut) (end_from q.to cut)
    by (inl l) = record { range = l.range; inside = inr l.inside; to = l.to }
    by (inr e) = record { range = q; inside = inl refl; to = sym e }

clash-start : {x y z w : ℕ} → x ≡ y → y < z → z ≤ w → w ≡ x → ⊥
clash-start h g k e = omega (arith, h, g, k, e)

-- one range of a cut begins at a step
one-begin : (a : ℕ) (cut : List Range) (r q : Range) → IsCutFrom a cut → In r cut → In q cut → r.from ≡ q.from → r ≡ q
one-begin a [] r q is h g same = absurd h
one-begin a (c ∷ cut) r q is (inl e) (inl f) same = e ∙ sym f
one-begin a (c ∷ cut) r q is (inl e) (inr g) same =
    absurd (clash-start (ap (λ (x : Range). x.from) e) (aligned_from c is.1).some (from-in c.to cut q is.2 g) (sym same))
one-begin a (c ∷ cut) r q is (inr h) (inl f) same =
    absurd (clash-start (ap (λ (x : Range). x.from) f) (aligned_from c is.1).some (from-in c.to cut r is.2 h) same)
one-begin a (c ∷ cut) r q is (inr h) (inr g) same = one-begin c.to cut r q is.2 h g same

none-of : (o : Option ℕ) → (is_some o ≡ true → ⊥) → o ≡ None
none-of None h = refl
none-of (Some x) h = absurd (h refl)

pub record Some-of (o : Option ℕ) : Type 0 where
  pub item : ℕ
  pub is : o ≡ Some item

some-of : (o : Option ℕ) → is_some o ≡ true → Some-of o
some-of None h = absurd (subst (λ b. cond b ⊥ ℕ) h 0)
some-of (Some x) h = record { item = x; is = refl }

cond-empty : (b : Bool) (ps : List Range) → ps ≡ [] → cond b ps [] ≡ []
cond-empty true ps e = e
cond-empty false ps e = refl

high : {x y z : ℕ} → x < y → y ≤ z → z ≤ x → ⊥
high h g k = omega (arith, h, g, k)

within-next : (a b c m : ℕ) → a < b → c ≤ a + suc m → c ≤ b + m
within-next a b c m h g = omega (arith, h, g)

no-room : {a b c : ℕ} → a < b → b ≤ c → c ≤ a + 0 → ⊥
no-room h g k = omega (arith, h, g, k)

lt-chain : {a b c d : ℕ} → a ≡ b → b < c → c ≤ d → a < d
lt-chain h g k = omega (arith, h, g, k)

le-chain : {a b c : ℕ} → a ≤ b → b ≤ c → a ≤ c
le-chain h g = omega (arith, h, g)

from-of : (f n t s : ℕ) → f + n ≡ t → t ≡ s → f ≡ s - n
from-of f n t s h g = omega (arith, h, g)

to-of : (f n t s : ℕ) → f + n ≡ t → t ≡ s → t ≡ (s - n) + n
to-of f n t s h g = omega (arith, h, g)

low-of : (f n t s : ℕ) → f + n ≡ t → t ≡ s → n ≤ s
low-of f n t s h g = omega (arith, h, g)

begin-of : (f n t s : ℕ) → f + n ≡ t → f ≡ s → t ≡ s + n
begin-of f n t s h g = omega (arith, h, g)

-- ---- names whose groups of an entity are exactly the ranges of a cut

module _ (names : List (List ℕ)) (e : Entity) (b : ℕ) (all : List Range) (whole : IsCutFrom b all)
    (there : (r : Range) → has_group names e r ≡ true → In r all) (here : (r : Range) → In r all → has_group names e r ≡ true) where
  -- no group begins at the end or above it
  none-begins : (step : ℕ) → end_from b all ≤ step → is_some (size_from names e step) ≡ true → ⊥
  unfolding size_from
  none-begins step at h =
      let p : ℕ → Bool = λ size. has_group names e (range_at step size) in
      let f = find-found p sizes h in
      let inside = there (range_at step f.item) f.is in
      high (aligned_from (range_at step f.item) (aligned-in b all (range_at step f.item) whole inside)).some (to-in b all (range_at step f.item) whole inside) at

  -- where a range begins, its group is found
  found : (q : Range) (step : ℕ) → In q all → q.from ≡ step → (s : Some-of (size_from names e step)) × (range_at step s.item ≡ q)
  unfolding size_from
  found q step inside at =
      let al = aligned_from q (aligned-in b all q whole inside) in
      let n = q.to - q.from in
      let p : ℕ → Bool = λ size. has_group names e (range_at step size) in
      let same : q ≡ range_at step n = λ i. record { from = at i; to = begin-of q.from n q.to step al.long at i } in
      let s = some-of (find p sizes) (find-some p sizes n (size-inside n al.is) (subst (λ (r : Range). has_group names e r ≡ true) same (here q inside))) in
      (s, one-begin b all (range_at step s.item) q whole (there (range_at step s.item) (find-is p sizes s.item s.is)) inside (sym at))

  pub parts-are : (most a to : ℕ) (cut : List Range) → IsCutFrom a cut → ((r : Range) → In r cut → In r all) → end_from a cut ≡ end_from b all → end_from b all ≤ a + most → end_from b all ≤ to
      → parts_from most names e a to ≡ cut
  parts-are zero a to [] is inside ends room far = refl
  parts-are zero a to (q ∷ cut) is inside ends room far =
      absurd (no-room (lt-chain (sym is.0) (aligned_from q is.1).some (end_from-above q.to cut is.2)) (subst (λ n. end_from q.to cut ≤ n) ends (le-self (end_from q.to cut))) room)
    where
      le-self : (n : ℕ) → n ≤ n
      le-self n = omega arith
  parts-are (suc most) a to [] is inside ends room far =
      cond-empty (nat_lt a to) (after_size (size_from names e a) a (λ next. parts_from most names e next to))
      (ap (λ o. after_size o a (λ next. parts_from most names e next to)) (none-of (size_from names e a) (none-begins a (subst (λ n. end_from b all ≤ n) (sym ends) (le-self (end_from b all))))))
    where
      le-self : (n : ℕ) → n ≤ n
      le-self n = omega arith
  parts-are (suc most) a to (q ∷ cut) is inside ends room far =
      let rest : ℕ → List Range = λ next. parts_from most names e next to in
      let f = found q a (inside q (inl refl)) is.0 in
      let grows = (aligned_from q is.1).some in
      let below : a < to = lt-chain (sym is.0) grows (le-chain (subst (λ n. q.to ≤ n) ends (end_from-above q.to cut is.2)) far) in
      ap (λ c. cond c (after_size (size_from names e a) a rest) []) (lt-ltb a to below)
      ∙ ap (λ o. after_size o a rest) f.0.is
      ∙ ap (λ (r : Range). r ∷ rest r.to) f.1
      ∙ ap (λ l. q ∷ l)
      (parts-are most q.to to cut is.2 (λ r h. inside r (inr h)) ends (within-next a q.to (end_from b all) most (subst (λ n. n < q.to) is.0 grows) room) far)

-- ---- the visible names

or-true : (a : Bool) → (a || true) ≡ true
or-true true = refl
or-true false = refl

not-of : (b : Bool) → (b ≡ true → ⊥) → not b ≡ true
not-of true h = absurd (h refl)
not-of false h = refl

module _ (names : List (List ℕ)) (g : AreWholeGroups names) where
  ends-found : (e : Entity) (step : ℕ) → Last (g.cuts e) step → is_some (size_to names e step) ≡ true
  unfolding size_to
  ends-found e step l =
      let al = aligned_from l.range (aligned-of names g e l.range l.inside) in
      let n = l.range.to - l.range.from in
      let p : ℕ → Bool = λ size. nat_le size step && has_group names e (range_at (step - size) size) in
      let same : l.range ≡ range_at (step - n) n = λ i. record { from = from-of l.range.from n l.range.to step al.long l.to i; to = to-of l.range.from n l.range.to step al.long l.to i } in
      find-some p sizes n (size-inside n al.is)
      (both (nat_le n step) (has_group names e (range_at (step - n) n)) (le-leb n step (low-of l.range.from n l.range.to step al.long l.to))
      (subst (λ (r : Range). has_group names e r ≡ true) same (inside-group names g e l.range l.inside)))

  -- the end of the groups is one
  pub end-at : is_end names g.end ≡ true
  end-at =
      both ((g.end == 0) || is_some (size_to names Accounts g.end)) (not (is_some (size_from names Accounts g.end)))
      (first (last-or-none 0 (g.cuts Accounts) (g.cut Accounts)))
      (not-of (is_some (size_from names Accounts g.end))
      (none-begins names Accounts 0 (g.cuts Accounts) (g.cut Accounts) (group-inside names g Accounts) (inside-group names g Accounts) g.end
      (subst (λ n. n ≤ g.end) (sym (g.ends Accounts)) (le-self g.end))))
    where
      le-self : (n : ℕ) → n ≤ n
      le-self n = omega arith

      first : Last (g.cuts Accounts) (end_from 0 (g.cuts Accounts)) ⊎ (end_from 0 (g.cuts Accounts) ≡ 0) → ((g.end == 0) || is_some (size_to names Accounts g.end)) ≡ true
      first (inl l) =
          ap (λ b. (g.end == 0) || b) (ends-found Accounts g.end (subst (Last (g.cuts Accounts)) (g.ends Accounts) l)) ∙ or-true (g.end == 0)
      first (inr z) = ap (λ b. b || is_some (size_to names Accounts g.end)) (eq-eqb g.end 0 (sym (g.ends Accounts) ∙ z))

  -- the cut of an entity can be read off the names
  pub cut-is : (e : Entity) → cut_of names e ≡ g.cuts e
  unfolding cut_of
  cut-is e =
      let within : end_from 0 (g.cuts e) ≤ 4096 = end_of-within (g.cuts e) (g.cut e) in
      parts-are names e 0 (g.cuts e) (g.cut e) (group-inside names g e) (inside-group names g e) 4096 0 4096 (g.cuts e) (g.cut e) (λ r h. h) refl within within

  -- ---- merges

  -- a range that is merged is the union of ranges that stand together in its entity's cut
  pub merge-union : (added gone : List (List ℕ)) (may : IsMerge names added gone) → IsUnionIn (cut_of names may.entity) may.range
  unfolding parts_of
  merge-union added gone may =
      let e = may.entity in
      let r = may.range in
      by e r (parts_of gone e r) (parts-chain gone e (r.to - r.from) r.from r.to) may.ends may.several (λ q h. group-inside names g e q (group-among gone names e q may.seen h))
    where
      by : (e : Entity) (r : Range) (ps : List Range) → IsChain gone e r.from ps → end_from r.from ps ≡ r.to → 2 ≤ length ps → ((q : Range) → has_group gone e q ≡ true → In q (g.cuts e)) → IsUnionIn (cut_of names e) r
      by e r [] chain ends several seen = absurd (few several)
        where
          few : 2 ≤ 0 → ⊥
          few h = omega (arith, h)
      by e r (p ∷ ps) chain ends several seen =
          let all = all-in (p ∷ ps) (g.cuts e) (λ q there. seen q (chain.groups q there)) in
          let s = stands-in 0 (g.cuts e) p ps (g.cut e) (subst (λ n. IsCutFrom n (p ∷ ps)) (sym chain.cut.0) chain.cut) all in
          record { front = s.front; mid = p ∷ ps; back = s.back; parts = cut-is e ∙ s.parts; chain = chain.cut; ends = ends; several = several }

  -- each such range may be merged
  pub union-merge : (e : Entity) (r : Range) (added gone : List (List ℕ)) (u : IsUnionIn (cut_of names e) r) → is_aligned r ≡ true → SameNames added (entity_texts e (r ∷ [])) → SameNames gone (entity_texts e u.mid)
      → IsMerge names added gone
  unfolding parts_of has_group
  union-merge e r added gone u al are out =
      let mid-in : (q : Range) → In q u.mid → In q (g.cuts e) =
      λ q h. subst (In q) (sym u.parts ∙ cut-is e) (in-right q u.front (u.mid ++ u.back) (in-left q u.mid u.back h)) in
      let there : (q : Range) → has_group gone e q ≡ true → In q u.mid = λ q h. from-gone q h in
      let here : (q : Range) → In q u.mid → has_group gone e q ≡ true =
      λ q h. both (is_aligned q) (has gone (spelled (named e q Ef))) (aligned-in r.from u.mid q u.chain h) (out (spelled (named e q Ef)) ∙ over-in e u.mid q Ef h (ef-fits e)) in
      let is : parts_of gone e r ≡ u.mid =
      parts-are gone e r.from u.mid u.chain there here (r.to - r.from) r.from r.to u.mid u.chain (λ q h. h) refl (subst (λ n. n ≤ r.from + (r.to - r.from)) (sym u.ends) (long r.from r.to)) (subst (λ n. n ≤ r.to) (sym u.ends) (le-self r.to)) in
      record {
        entity = e;
        range = r;
        aligned = al;
        ends = ap (end_from r.from) is ∙ u.ends;
        several = subst (λ (ps : List Range). 2 ≤ length ps) (sym is) u.several;
        seen = λ text h. let t = over-from e u.mid text (sym (out text) ∙ h) in ap (has names) t.is ∙ in-names names g e t.range t.kind (mid-in t.range t.inside) t.fits;
        are = are;
        gone = subst (λ (ps : List Range). SameNames gone (entity_texts e ps)) (sym is) out;
      }
    where
      le-self : (n : ℕ) → n ≤ n
      le-self n = omega arith

      long : (a b : ℕ) → b ≤ a + (b - a)
      long a b = omega arith

      from-gone : (q : Range) → has_group gone e q ≡ true → In q u.mid
      from-gone q h =
          let aligned = first_so (is_aligned q) (has gone (spelled (named e q Ef))) h in
          let t = over-from e u.mid (spelled (named e q Ef)) (sym (out (spelled (named e q Ef))) ∙ second_so (is_aligned q) (has gone (spelled (named e q Ef))) h) in
          let same = one-name e e q t.range Ef t.kind aligned (aligned-in r.from u.mid t.range u.chain t.inside) (ef-fits e) t.fits t.is in
          subst (λ x. In x u.mid) (sym (ap (λ (n : FileName). n.range) same)) t.inside
