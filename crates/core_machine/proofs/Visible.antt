-- What the visible names tell of the cuts whose groups they are.
use Rattle.std.proofs.Common.{◌≡◌, ◌⊎◌, inl, inr, Bool, true, false, cond, not, ◌&&◌, ◌||◌, ◌==◌, List, [], ◌∷◌, ℕ, ◌+◌, ◌-◌, ◌≤◌, refl, sym, ◌∙◌, subst, arith, eqb-true, leb-true}
use Rattle.std.proofs.lemmas.Bool.{false≢true}
use Rattle.std.specs.Prelude.{Option, Some, is_some, nat_le, find}
use Rattle.std.specs.List.{list_any}
use Rattle.std.specs.Cmp.{first_so, second_so}
use Rattle.agg_model.specs.declared.entity.Entity.{Entity}
use Rattle.agg_model.specs.declared.entity.Entity.TheVariants.{Accounts}
use Rattle.agg_model.specs.declared.entity.Range.{Range}
use Rattle.agg_model.specs.declared.entity.FileKind.{FileKind}
use Rattle.agg_model.specs.declared.entity.FileKind.TheVariants.{Ef}
use Rattle.agg_model.specs.Entity.{is_domain_entity}
use Rattle.merge_ranges.specs.declared.name.FileName.{FileName}
use Rattle.merge_ranges.specs.Kind.{is_index_kind}
use Rattle.merge_ranges.specs.Name.{has_kind, is_name, spelled}
use Rattle.merge_ranges.specs.Cut.{sizes, is_size, is_aligned, end_from}
use Rattle.merge_ranges.proofs.CutLaws.{aligned_from}
use Rattle.merge_ranges.proofs.Names.{spelled-injective}
use Rattle.core_machine.specs.Texts.{has}
use Rattle.core_machine.specs.Sound.{AreWholeGroups}
use Rattle.core_machine.specs.Publishing.{range_at, has_group, size_from, size_to, is_end}
use Rattle.core_machine.proofs.Inside.{In}
use Rattle.core_machine.proofs.GroupTexts.{named, IsGroupText, has-group, from-group}
use Rattle.core_machine.proofs.Cuts.{aligned-in, Begins, next-or-end, start-or-end}

or-true : (a : Bool) → (a || true) ≡ true
or-true true = refl
or-true false = refl

pub both : (a b : Bool) → a ≡ true → b ≡ true → (a && b) ≡ true
both a b h g = λ i. h i && g i

pub ef-fits : (e : Entity) → has_kind e Ef ≡ true
unfolding has_kind is_index_kind
ef-fits e = or-true (is_domain_entity e)

pub is_name-of : (e : Entity) (r : Range) (k : FileKind) → is_aligned r ≡ true → has_kind e k ≡ true → is_name (named e r k) ≡ true
unfolding is_name
is_name-of e r k al fits = both (is_aligned r) (has_kind e k) al fits

-- one text is the name of one file
pub one-name : (e f : Entity) (r q : Range) (k l : FileKind) → is_aligned r ≡ true → is_aligned q ≡ true → has_kind e k ≡ true → has_kind f l ≡ true
    → spelled (named e r k) ≡ spelled (named f q l) → named e r k ≡ named f q l
one-name e f r q k l ar aq fk fl same = spelled-injective (named e r k) (named f q l) (is_name-of e r k ar fk) (is_name-of f q l aq fl) same

module _ (names : List (List ℕ)) (g : AreWholeGroups names) where
  pub in-names : (e : Entity) (r : Range) (k : FileKind) → In r (g.cuts e) → has_kind e k ≡ true → has names (spelled (named e r k)) ≡ true
  in-names e r k h fits =
      g.are (spelled (named e r k))
      ∙ has-group g.cuts (spelled (named e r k)) (record { entity = e; range = r; kind = k; inside = h; fits = fits; is = refl })

  pub from-names : (text : List ℕ) → has names text ≡ true → IsGroupText g.cuts text
  from-names text h = from-group g.cuts text (sym (g.are text) ∙ h)

  pub aligned-of : (e : Entity) (r : Range) → In r (g.cuts e) → is_aligned r ≡ true
  aligned-of e r h = aligned-in 0 (g.cuts e) r (g.cut e) h

  -- a name is of a range of its entity's cut
  pub inside-of : (e : Entity) (r : Range) (k : FileKind) → is_aligned r ≡ true → has_kind e k ≡ true → has names (spelled (named e r k)) ≡ true → In r (g.cuts e)
  inside-of e r k al fits h =
      let t = from-names (spelled (named e r k)) h in
      let same = one-name e t.entity r t.range k t.kind al (aligned-of t.entity t.range t.inside) fits t.fits t.is in
      let there : In t.range (g.cuts e) = subst (λ (n : FileName). In t.range (g.cuts n.entity)) (sym same) t.inside in
      subst (λ (n : FileName). In n.range (g.cuts e)) (sym same) there

  pub group-inside : (e : Entity) (r : Range) → has_group names e r ≡ true → In r (g.cuts e)
  unfolding has_group
  group-inside e r h =
      inside-of e r Ef (first_so (is_aligned r) (has names (spelled (named e r Ef))) h) (ef-fits e) (second_so (is_aligned r) (has names (spelled (named e r Ef))) h)

  pub inside-group : (e : Entity) (r : Range) → In r (g.cuts e) → has_group names e r ≡ true
  unfolding has_group
  inside-group e r h = both (is_aligned r) (has names (spelled (named e r Ef))) (aligned-of e r h) (in-names e r Ef h (ef-fits e))

-- ---- looks through the sizes

no : false ≡ true → ⊥
no h = false≢true h

some-cond : (b : Bool) (x : ℕ) (o : Option ℕ) → b ≡ true → is_some (cond b (Some x) o) ≡ true
some-cond true x o h = refl
some-cond false x o h = absurd (no h)

some-rest : (b : Bool) (x : ℕ) (o : Option ℕ) → is_some o ≡ true → is_some (cond b (Some x) o) ≡ true
some-rest true x o h = refl
some-rest false x o h = h

pub find-some : (p : ℕ → Bool) (xs : List ℕ) (x : ℕ) → In x xs → p x ≡ true → is_some (find p xs) ≡ true
find-some p [] x h so = absurd h
find-some p (y ∷ ys) x (inl e) so = some-cond (p y) y (find p ys) (subst (λ z. p z ≡ true) e so)
find-some p (y ∷ ys) x (inr h) so = some-rest (p y) y (find p ys) (find-some p ys x h so)

pub record Found (p : ℕ → Bool) : Type 0 where
  pub item : ℕ
  pub is : p item ≡ true

found-cond : (p : ℕ → Bool) (b : Bool) (x : ℕ) (o : Option ℕ) → p x ≡ b → (is_some o ≡ true → Found p) → is_some (cond b (Some x) o) ≡ true → Found p
found-cond p true x o e rest h = record { item = x; is = e }
found-cond p false x o e rest h = rest h

pub find-found : (p : ℕ → Bool) (xs : List ℕ) → is_some (find p xs) ≡ true → Found p
find-found p [] h = absurd (no h)
find-found p (y ∷ ys) h = found-cond p (p y) y (find p ys) refl (λ g. find-found p ys g) h

in-any : (n : ℕ) (xs : List ℕ) → list_any (λ s. s == n) xs ≡ true → In n xs
in-any n [] h = absurd (no h)
in-any n (x ∷ xs) h = pick (x == n) refl h (λ g. in-any n xs g)
  where
    pick : (b : Bool) → (x == n) ≡ b → (b || list_any (λ s. s == n) xs) ≡ true → (list_any (λ s. s == n) xs ≡ true → In n xs) → In n (x ∷ xs)
    pick true e h rest = inl (sym (eqb-true x n e))
    pick false e h rest = inr (rest h)

pub size-inside : (n : ℕ) → is_size n ≡ true → In n sizes
size-inside n h = in-any n sizes h

module _ (names : List (List ℕ)) (g : AreWholeGroups names) (e : Entity) where
  -- where a group begins, a look finds one
  pub begins-found : (step : ℕ) → Begins (g.cuts e) step → is_some (size_from names e step) ≡ true
  unfolding size_from
  begins-found step b =
      let al = aligned_from b.range (aligned-of names g e b.range b.inside) in
      let n = b.range.to - b.range.from in
      let to : b.range.to ≡ step + n = omega (arith, al.long, b.from) in
      let same : b.range ≡ range_at step n = λ i. record { from = b.from i; to = to i } in
      find-some (λ size. has_group names e (range_at step size)) sizes n (size-inside n al.is)
      (subst (λ (r : Range). has_group names e r ≡ true) same (inside-group names g e b.range b.inside))

  pub record Ends (step : ℕ) : Type 0 where
    pub range : Range
    pub inside : In range (g.cuts e)
    pub to : range.to ≡ step

  pub ends-found : (step : ℕ) → is_some (size_to names e step) ≡ true → Ends step
  unfolding size_to
  ends-found step h =
      let p : ℕ → Bool = λ size. nat_le size step && has_group names e (range_at (step - size) size) in
      let f = find-found p sizes h in
      let low : f.item ≤ step = leb-true f.item step (first_so (nat_le f.item step) (has_group names e (range_at (step - f.item) f.item)) f.is) in
      record {
        range = range_at (step - f.item) f.item;
        inside = group-inside names g e (range_at (step - f.item) f.item) (second_so (nat_le f.item step) (has_group names e (range_at (step - f.item) f.item)) f.is);
        to = omega (arith, low);
      }

not-true : (b : Bool) → not b ≡ true → b ≡ true → ⊥
not-true true h g = no h
not-true false h g = no g

or-split : (a b : Bool) → (a || b) ≡ true → (a ≡ true) ⊎ (b ≡ true)
or-split true b h = inl refl
or-split false b h = inr h

-- the step at which the visible groups end is the end of each cut
pub end-is : (names : List (List ℕ)) (g : AreWholeGroups names) (step : ℕ) → is_end names step ≡ true → g.end ≡ step
end-is names g step h = by (or-split (step == 0) (is_some (size_to names Accounts step)) first)
  where
    first : ((step == 0) || is_some (size_to names Accounts step)) ≡ true
    first = first_so ((step == 0) || is_some (size_to names Accounts step)) (not (is_some (size_from names Accounts step))) h

    second : is_some (size_from names Accounts step) ≡ true → ⊥
    second = not-true (is_some (size_from names Accounts step)) (second_so ((step == 0) || is_some (size_to names Accounts step)) (not (is_some (size_from names Accounts step))) h)

    none : Begins (g.cuts Accounts) step → ⊥
    none b = second (begins-found names g Accounts step b)

    at-start : step ≡ 0 → Begins (g.cuts Accounts) 0 ⊎ (end_from 0 (g.cuts Accounts) ≡ 0) → g.end ≡ step
    at-start e (inl b) = absurd (none (subst (λ n. Begins (g.cuts Accounts) n) (sym e) b))
    at-start e (inr z) = sym (g.ends Accounts) ∙ z ∙ sym e

    at-range : (r : Range) → r.to ≡ step → Begins (g.cuts Accounts) r.to ⊎ (end_from 0 (g.cuts Accounts) ≡ r.to) → g.end ≡ step
    at-range r e (inl b) = absurd (none (subst (λ n. Begins (g.cuts Accounts) n) e b))
    at-range r e (inr z) = sym (g.ends Accounts) ∙ z ∙ e

    by : ((step == 0) ≡ true) ⊎ (is_some (size_to names Accounts step) ≡ true) → g.end ≡ step
    by (inl z) = at-start (eqb-true step 0 z) (start-or-end 0 (g.cuts Accounts) (g.cut Accounts))
    by (inr s) =
        let o = ends-found names g Accounts step s in
        at-range o.range o.to (next-or-end 0 (g.cuts Accounts) o.range (g.cut Accounts) o.inside)
