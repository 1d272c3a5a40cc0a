-- A merge keeps the visible names whole groups of one cut per entity.
use Rattle.std.proofs.Common.{◌≡◌, ◌⊎◌, inl, inr, Bool, true, false, cond, not, ◌&&◌, ◌||◌, ◌==◌, List, [], ◌∷◌, ◌++◌, ℕ, zero, suc, ◌+◌, ◌≤◌, ◌<◌, refl, sym, ◌∙◌, ap, subst, arith, eqb-true, eq-eqb}
use Rattle.std.proofs.lemmas.Bool.{true≢false}
use Rattle.std.specs.Prelude.{Option, Some, None, nat_lt, find}
use Rattle.std.specs.Cmp.{first_so, both_ways}
use Rattle.agg_model.specs.declared.entity.Entity.{Entity}
use Rattle.agg_model.specs.declared.entity.Range.{Range}
use Rattle.agg_model.specs.declared.entity.FileKind.{FileKind}
use Rattle.agg_model.specs.declared.entity.FileKind.TheVariants.{Ef}
use Rattle.agg_model.specs.Entity.{entity_number}
use Rattle.agg_model.proofs.EntityLaws.{entity_number-injective}
use Rattle.merge_ranges.specs.declared.name.FileName.{FileName}
use Rattle.merge_ranges.specs.Name.{has_kind, spelled}
use Rattle.merge_ranges.specs.Cut.{sizes, is_aligned, IsCutFrom, IsCut, end_from, end_of}
use Rattle.merge_ranges.specs.CanonicalNames.{entities, entity_names}
use Rattle.merge_ranges.proofs.CutLaws.{aligned_from}
use Rattle.core_machine.specs.Texts.{has, SameNames, with_names, without_names, texts_of, entity_texts}
use Rattle.core_machine.specs.Sound.{AreWholeGroups, names_by_cut}
use Rattle.core_machine.specs.Publishing.{range_at, has_group, size_from, after_size, parts_from}
use Rattle.core_machine.proofs.TextLaws.{has-with, has-without}
use Rattle.core_machine.proofs.Inside.{In, in-left, in-right, in-split}
use Rattle.core_machine.proofs.GroupTexts.{named, IsGroupText, in-entity_names, from-entity_names, has-in, from-has, has-group, from-group}
use Rattle.core_machine.proofs.Cuts.{AllIn, aligned-in, from-in, to-in, cut-append, cut-front, cut-back, end_from-append}
use Rattle.core_machine.proofs.Visible.{from-names, in-names, aligned-of, one-name}

-- ---- the parts are a chain of groups among the names

some-is : (n m : ℕ) → Some n ≡ Some m → n ≡ m
some-is n m e = ap (λ o. from o) e
  where
    from : Option ℕ → ℕ
    from None = n
    from (Some x) = x

none-some : (n : ℕ) → None ≡ Some n → ⊥
none-some n e = subst (λ o. is o) e tt
  where
    is : Option ℕ → Type 0
    is None = Unit {0}
    is (Some x) = ⊥

pub find-is : (p : ℕ → Bool) (xs : List ℕ) (n : ℕ) → find p xs ≡ Some n → p n ≡ true
find-is p [] n e = absurd (none-some n e)
find-is p (x ∷ xs) n e = pick (p x) refl e (λ g. find-is p xs n g)
  where
    pick : (b : Bool) → p x ≡ b → cond b (Some x) (find p xs) ≡ Some n → (find p xs ≡ Some n → p n ≡ true) → p n ≡ true
    pick true is e rest = subst (λ z. p z ≡ true) (some-is x n e) is
    pick false is e rest = rest e

module _ (names : List (List ℕ)) (e : Entity) where
  -- the parts from a step on, one after another
  pub record IsChain (from : ℕ) (ps : List Range) : Type 0 where
    pub cut : IsCutFrom from ps
    pub groups : (r : Range) → In r ps → has_group names e r ≡ true

  empty : (from : ℕ) → IsChain from []
  empty from = record { cut = tt; groups = λ r h. absurd h }

  has-aligned : (r : Range) → has_group names e r ≡ true → is_aligned r ≡ true
  unfolding has_group
  has-aligned r h = first_so (is_aligned r) (has names (spelled (named e r Ef))) h

  longer : (from size : ℕ) (ps : List Range) → has_group names e (range_at from size) ≡ true → IsChain (from + size) ps → IsChain from (range_at from size ∷ ps)
  longer from size ps h rest = record { cut = (refl, has-aligned (range_at from size) h, rest.cut); groups = all }
    where
      all : (r : Range) → In r (range_at from size ∷ ps) → has_group names e r ≡ true
      all r (inl same) = ap (has_group names e) same ∙ h
      all r (inr there) = rest.groups r there

  size-group : (from n : ℕ) → size_from names e from ≡ Some n → has_group names e (range_at from n) ≡ true
  unfolding size_from
  size-group from n is = find-is (λ size. has_group names e (range_at from size)) sizes n is

  next-chain : (from : ℕ) (o : Option ℕ) (rest : ℕ → List Range) → size_from names e from ≡ o → ((next : ℕ) → IsChain next (rest next)) → IsChain from (after_size o from rest)
  next-chain from None rest is chains = empty from
  next-chain from (Some size) rest is chains = longer from size (rest (from + size)) (size-group from size is) (chains (from + size))

  cond-chain : (from : ℕ) (b : Bool) (ps : List Range) → IsChain from ps → IsChain from (cond b ps [])
  cond-chain from true ps chain = chain
  cond-chain from false ps chain = empty from

  pub parts-chain : (most from to : ℕ) → IsChain from (parts_from most names e from to)
  parts-chain zero from to = empty from
  parts-chain (suc most) from to =
      cond-chain from (nat_lt from to) (after_size (size_from names e from) from (λ next. parts_from most names e next to))
      (next-chain from (size_from names e from) (λ next. parts_from most names e next to) refl (λ next. parts-chain most next to))

pub all-in : (ps cut : List Range) → ((r : Range) → In r ps → In r cut) → AllIn ps cut
all-in [] cut h = tt
all-in (p ∷ ps) cut h = (h p (inl refl), all-in ps cut (λ r there. h r (inr there)))

-- ---- names of one entity

pub over-in : (e : Entity) (rs : List Range) (r : Range) (k : FileKind) → In r rs → has_kind e k ≡ true → has (entity_texts e rs) (spelled (named e r k)) ≡ true
over-in e rs r k h fits = has-in (entity_names e rs) (named e r k) (in-entity_names e r k rs h fits)

pub record IsEntityText (e : Entity) (rs : List Range) (text : List ℕ) : Type 0 where
  pub range : Range
  pub kind : FileKind
  pub inside : In range rs
  pub fits : has_kind e kind ≡ true
  pub is : text ≡ spelled (named e range kind)

pub over-from : (e : Entity) (rs : List Range) (text : List ℕ) → has (entity_texts e rs) text ≡ true → IsEntityText e rs text
over-from e rs text h =
    let s = from-has (entity_names e rs) text h in
    let o = from-entity_names e s.name rs s.inside in
    record { range = o.range; kind = o.kind; inside = o.inside; fits = o.fits; is = s.is ∙ ap spelled o.is }

-- ---- the cuts with one range in place of those that stand together

true-false : (b : Bool) → b ≡ true → b ≡ false → ⊥
true-false b h g = true≢false (sym h ∙ g)

false-of : (b : Bool) → (b ≡ true → ⊥) → b ≡ false
false-of true h = absurd (h refl)
false-of false h = refl

or-true : (a : Bool) → (a || true) ≡ true
or-true true = refl
or-true false = refl

or-split : (a b : Bool) → (a || b) ≡ true → (a ≡ true) ⊎ (b ≡ true)
or-split true b h = inl refl
or-split false b h = inr h

module _ (names added gone : List (List ℕ)) (g : AreWholeGroups names) (e : Entity) (r : Range) (front parts back : List Range)
    (al : is_aligned r ≡ true) (cut-is : g.cuts e ≡ front ++ (parts ++ back)) (chain : IsCutFrom r.from parts) (ends-at : end_from r.from parts ≡ r.to)
    (start : end_from 0 front ≡ r.from) (are : SameNames added (entity_texts e (r ∷ []))) (out : SameNames gone (entity_texts e parts)) where
  abbrev merged : Entity → List Range
  merged f = cond (entity_number f == entity_number e) (front ++ r ∷ back) (g.cuts f)

  whole : IsCut (front ++ (parts ++ back))
  whole = subst IsCut cut-is (g.cut e)

  behind : IsCutFrom r.to back
  behind =
      subst (λ n. IsCutFrom n back) ends-at
      (cut-back r.from parts back (subst (λ n. IsCutFrom n (parts ++ back)) start (cut-back 0 front (parts ++ back) whole)))

  cut-here : IsCut (front ++ r ∷ back)
  cut-here = cut-append 0 front (r ∷ back) (cut-front 0 front (parts ++ back) whole) (sym start, al, behind)

  end-here : end_of (front ++ r ∷ back) ≡ g.end
  end-here =
      end_from-append 0 front (r ∷ back)
      ∙ ap (λ n. end_from n back) (sym ends-at)
      ∙ ap (λ n. end_from (end_from n parts) back) (sym start)
      ∙ sym (end_from-append (end_from 0 front) parts back)
      ∙ sym (end_from-append 0 front (parts ++ back))
      ∙ ap (end_from 0) (sym cut-is)
      ∙ g.ends e

  cut-by : (f : Entity) (b : Bool) → IsCut (cond b (front ++ r ∷ back) (g.cuts f))
  cut-by f true = cut-here
  cut-by f false = g.cut f

  end-by : (f : Entity) (b : Bool) → end_of (cond b (front ++ r ∷ back) (g.cuts f)) ≡ g.end
  end-by f true = end-here
  end-by f false = g.ends f

  same-entity : (f : Entity) → (entity_number f == entity_number e) ≡ true → f ≡ e
  same-entity f h = entity_number-injective f e (eqb-true (entity_number f) (entity_number e) h)

  -- a range of the entity's cut is before the parts, one of them, or behind them
  where-in : (q : Range) → In q (g.cuts e) → (In q front ⊎ In q back) ⊎ In q parts
  where-in q h = first (in-split q front (parts ++ back) (subst (In q) cut-is h))
    where
      second : In q parts ⊎ In q back → (In q front ⊎ In q back) ⊎ In q parts
      second (inl p) = inr p
      second (inr b) = inl (inr b)

      first : In q front ⊎ In q (parts ++ back) → (In q front ⊎ In q back) ⊎ In q parts
      first (inl f) = inl (inl f)
      first (inr rest) = second (in-split q parts back rest)

  pub kept-range : (q : Range) → In q front ⊎ In q back → In q (front ++ r ∷ back)
  kept-range q (inl h) = in-left q front (r ∷ back) h
  kept-range q (inr h) = in-right q front (r ∷ back) (inr h)

  merged-in : (f : Entity) (q : Range) (b : Bool) → (entity_number f == entity_number e) ≡ b → In q (g.cuts f) → (b ≡ true → In q parts → ⊥) → In q (cond b (front ++ r ∷ back) (g.cuts f))
  merged-in f q false is h apart = h
  merged-in f q true is h apart = by (where-in q (subst (λ x. In q (g.cuts x)) (same-entity f is) h))
    where
      by : (In q front ⊎ In q back) ⊎ In q parts → In q (front ++ r ∷ back)
      by (inl k) = kept-range q k
      by (inr p) = absurd (apart refl p)

  here-in : (f : Entity) → f ≡ e → (q : Range) → In q (front ++ r ∷ back) → In q (merged f)
  here-in f same q h =
      subst (λ b. In q (cond b (front ++ r ∷ back) (g.cuts f))) (sym (eq-eqb (entity_number f) (entity_number e) (ap entity_number same))) h

  -- a part is no range before or behind the parts
  apart : (q : Range) → In q front ⊎ In q back → In q parts → ⊥
  apart q (inl f) p = clash start (aligned-grows q p) (to-in 0 front q (cut-front 0 front (parts ++ back) whole) f) (from-in r.from parts q chain p)
    where
      aligned-grows : (q : Range) → In q parts → q.from < q.to
      aligned-grows q p = (aligned_from q (aligned-in r.from parts q chain p)).some

      clash : {a b c d : ℕ} → a ≡ b → c < d → d ≤ a → b ≤ c → ⊥
      clash h g k l = omega (arith, h, g, k, l)
  apart q (inr b) p = clash ends-at (aligned-grows q p) (to-in r.from parts q chain p) (from-in r.to back q behind b)
    where
      aligned-grows : (q : Range) → In q parts → q.from < q.to
      aligned-grows q p = (aligned_from q (aligned-in r.from parts q chain p)).some

      clash : {a b c d : ℕ} → a ≡ b → c < d → d ≤ a → b ≤ c → ⊥
      clash h g k l = omega (arith, h, g, k, l)

  to-merged : (text : List ℕ) → (has added text ≡ true) ⊎ ((has names text ≡ true) × (has gone text ≡ false)) → IsGroupText merged text
  to-merged text (inl h) =
      let t = over-from e (r ∷ []) text (sym (are text) ∙ h) in
      record { entity = e; range = t.range; kind = t.kind; inside = here-in e refl t.range (in-right t.range front (r ∷ back) (one t.inside)); fits = t.fits; is = t.is }
    where
      one : {q : Range} → In q (r ∷ []) → In q (r ∷ back)
      one (inl same) = inl same
      one (inr none) = absurd none
  to-merged text (inr h) =
      let t = from-names names g text h.0 in
      record {
        entity = t.entity;
        range = t.range;
        kind = t.kind;
        inside = merged-in t.entity t.range (entity_number t.entity == entity_number e) refl t.inside (λ is p. true-false (has gone text) (out text ∙ named-part t.entity t.range t.kind t.fits t.is (same-entity t.entity is) p) h.1);
        fits = t.fits;
        is = t.is;
      }
    where
      named-part : (f : Entity) (q : Range) (k : FileKind) → has_kind f k ≡ true → text ≡ spelled (named f q k) → f ≡ e → In q parts → has (entity_texts e parts) text ≡ true
      named-part f q k fits is same p =
          ap (has (entity_texts e parts)) is
          ∙ subst (λ x. has (entity_texts x parts) (spelled (named f q k)) ≡ true) same (over-in f parts q k p fits)

  -- a name of the merged cuts that isn't the new one's was there, and isn't gone
  stays : (f : Entity) (q : Range) (k : FileKind) (text : List ℕ) → In q (g.cuts f) → has_kind f k ≡ true → text ≡ spelled (named f q k) → (f ≡ e → In q parts → ⊥) → (has names text && not (has gone text)) ≡ true
  stays f q k text h fits is no-part =
      let there : has names text ≡ true = ap (has names) is ∙ in-names names g f q k h fits in
      let kept : has gone text ≡ false = false-of (has gone text) (λ lost. lost-part (over-from e parts text (sym (out text) ∙ lost))) in
      λ i. there i && not (kept i)
    where
      lost-part : IsEntityText e parts text → ⊥
      lost-part t =
          let same = one-name f e q t.range k t.kind (aligned-of names g f q h) (aligned-in r.from parts t.range chain t.inside) fits t.fits (sym is ∙ t.is) in
          no-part (ap (λ (n : FileName). n.entity) same) (subst (λ x. In x parts) (sym (ap (λ (n : FileName). n.range) same)) t.inside)

  back-in : (q : Range) → In q front ⊎ In q back → In q (g.cuts e)
  back-in q (inl h) = subst (In q) (sym cut-is) (in-left q front (parts ++ back) h)
  back-in q (inr h) = subst (In q) (sym cut-is) (in-right q front (parts ++ back) (in-right q parts back h))

  from-merged : (text : List ℕ) (f : Entity) (q : Range) (k : FileKind) (b : Bool) → (entity_number f == entity_number e) ≡ b → In q (cond b (front ++ r ∷ back) (g.cuts f)) → has_kind f k ≡ true → text ≡ spelled (named f q k)
      → (has added text || (has names text && not (has gone text))) ≡ true
  from-merged text f q k false is h fits same =
      ap (λ b. has added text || b) (stays f q k text h fits same (λ e-is p. true-false (entity_number f == entity_number e) (eq-eqb (entity_number f) (entity_number e) (ap entity_number e-is)) is))
      ∙ or-true (has added text)
  from-merged text f q k true is h fits same = by (in-split q front (r ∷ back) h)
    where
      f-is : f ≡ e
      f-is = same-entity f is

      old : In q front ⊎ In q back → (has added text || (has names text && not (has gone text))) ≡ true
      old there =
          ap (λ b. has added text || b) (stays f q k text (subst (λ x. In q (g.cuts x)) (sym f-is) (back-in q there)) fits same (λ e-is p. apart q there p))
          ∙ or-true (has added text)

      new : In q (r ∷ []) → (has added text || (has names text && not (has gone text))) ≡ true
      new there =
          ap (λ b. b || (has names text && not (has gone text)))
          (are text ∙ ap (has (entity_texts e (r ∷ []))) same ∙ subst (λ x. has (entity_texts x (r ∷ [])) (spelled (named f q k)) ≡ true) f-is (over-in f (r ∷ []) q k there fits))

      second : In q (r ∷ back) → (has added text || (has names text && not (has gone text))) ≡ true
      second (inl eq) = new (inl eq)
      second (inr b) = old (inr b)

      by : In q front ⊎ In q (r ∷ back) → (has added text || (has names text && not (has gone text))) ≡ true
      by (inl there) = old (inl there)
      by (inr there) = second there

  split : (text : List ℕ) → (has added text || (has names text && not (has gone text))) ≡ true → (has added text ≡ true) ⊎ ((has names text ≡ true) × (has gone text ≡ false))
  split text h = by (or-split (has added text) (has names text && not (has gone text)) h)
    where
      parts-of : (a b : Bool) → (a && not b) ≡ true → (a ≡ true) × (b ≡ false)
      parts-of true true h = absurd (true-false false h refl)
      parts-of true false h = (refl, refl)
      parts-of false b h = absurd (true-false false h refl)

      by : (has added text ≡ true) ⊎ ((has names text && not (has gone text)) ≡ true) → (has added text ≡ true) ⊎ ((has names text ≡ true) × (has gone text ≡ false))
      by (inl k) = inl k
      by (inr k) = inr (parts-of (has names text) (has gone text) k)

  same : SameNames (with_names (without_names names gone) added) (texts_of (names_by_cut entities merged))
  same text =
      has-with (without_names names gone) added text
      ∙ ap (λ b. has added text || b) (has-without names gone text)
      ∙ both_ways (has added text || (has names text && not (has gone text))) (has (texts_of (names_by_cut entities merged)) text)
      (λ h. has-group merged text (to-merged text (split text h)))
      (λ h. let t = from-group merged text h in from-merged text t.entity t.range t.kind (entity_number t.entity == entity_number e) refl t.inside t.fits t.is)

  pub whole-merged : (w : AreWholeGroups (with_names (without_names names gone) added)) × (w.end ≡ g.end)
  whole-merged = (
    record {
      cuts = merged;
      end = g.end;
      cut = λ f. cut-by f (entity_number f == entity_number e);
      ends = λ f. end-by f (entity_number f == entity_number e);
      are = same;
    },
    refl,
  )
