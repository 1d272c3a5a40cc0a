-- The first added name tells of which step, or of which entity and range, a publish may be.
use Rattle.std.proofs.Common.{◌≡◌, inl, inr, Bool, true, false, ◌&&◌, ℕ, ◌+◌, ◌-◌, ◌*◌, ◌/◌, ◌<◌, ◌≤◌, List, [], ◌∷◌, length, refl, sym, ◌∙◌, ap, subst, arith}
use Rattle.std.proofs.lemmas.Bool.{false≢true}
use Rattle.std.proofs.Math.Nat.{div-le_of_le-mul}
use Rattle.std.specs.Prelude.{Option, Some, None, IsTrue}
use Rattle.std.specs.Bool.{Decides}
use Rattle.std.specs.Cmp.{second_so}
use Rattle.agg_model.specs.declared.entity.Entity.{Entity}
use Rattle.agg_model.specs.declared.entity.Entity.TheVariants.{Accounts}
use Rattle.agg_model.specs.declared.entity.Range.{Range}
use Rattle.agg_model.specs.declared.entity.FileKind.{FileKind}
use Rattle.agg_model.specs.declared.entity.FileKind.TheVariants.{Ef}
use Rattle.merge_ranges.specs.declared.name.FileName.{FileName}
use Rattle.merge_ranges.specs.Cut.{is_aligned, end_from}
use Rattle.merge_ranges.specs.Name.{is_name, has_kind, spelled}
use Rattle.core_machine.specs.Texts.{SameNames, AreAmong, with_names, entity_texts, all_texts}
use Rattle.core_machine.specs.Publishing.{range_at, has_group, is_end, parts_of, IsCollation, IsMerge, IsPublish}
use Rattle.core_machine.proofs.Inside.{In}
use Rattle.core_machine.proofs.GroupTexts.{named, has-group, from-group}
use Rattle.core_machine.proofs.Visible.{ef-fits, is_name-of}
use Rattle.core_machine.proofs.KeptCollation.{aligned-step}
use Rattle.core_machine.proofs.KeptMerge.{IsChain, parts-chain, over-in, over-from}
use Rattle.core_run.specs.Publishes.{IsStep, IsUnionOf, IsMergeTo}
use Rattle.core_run.proofs.NameSets.{at-head, same-set}
use Rattle.core_run.proofs.Looks.{parts-same}
use Rattle.core_run.proofs.StepLaws.{decides-at}

-- what is read of the first name
abbrev pub ReadsFirst : List (List ℕ) → Option FileName → Type 0
ReadsFirst names o = (n : FileName) (first : List ℕ) (rest : List (List ℕ)) → names ≡ first ∷ rest → IsTrue (is_name n) → spelled n ≡ first → o ≡ Some n

pub record IsNamed (o : Option FileName) (r : Range) : Type 0 where
  pub entity : Entity
  pub kind : FileKind
  pub is : o ≡ Some (named entity r kind)

only-one : (r q : Range) → In r (q ∷ []) → r ≡ q
only-one r q (inl e) = e
only-one r q (inr h) = absurd h

clash : (b : Bool) → b ≡ false → b ≡ true → ⊥
clash b f t = false≢true (sym f ∙ t)

step-names : (added : List (List ℕ)) (o : Option FileName) (step : ℕ) → ReadsFirst added o → step + 1 ≤ 4096 → SameNames added (all_texts (range_at step 1 ∷ [])) → IsNamed o (range_at step 1)
step-names [] o step reads within are =
    let cuts : Entity → List Range = λ (e : Entity). range_at step 1 ∷ [] in
    let text = spelled (named Accounts (range_at step 1) Ef) in
    absurd (false≢true (are text ∙ has-group cuts text (record { entity = Accounts; range = range_at step 1; kind = Ef; inside = inl refl; fits = ef-fits Accounts; is = refl })))
step-names (first ∷ rest) o step reads within are =
    let t = from-group (λ (e : Entity). range_at step 1 ∷ []) first (sym (are first) ∙ at-head rest first) in
    let same = only-one t.range (range_at step 1) t.inside in
    let is : first ≡ spelled (named t.entity (range_at step 1) t.kind) = t.is ∙ ap (λ r. spelled (named t.entity r t.kind)) same in
    record {
      entity = t.entity;
      kind = t.kind;
      is = reads (named t.entity (range_at step 1) t.kind) first rest refl (is_name-of t.entity (range_at step 1) t.kind (aligned-step step within) t.fits) (sym is);
    }

pub record IsNamedOf (o : Option FileName) (e : Entity) (r : Range) : Type 0 where
  pub kind : FileKind
  pub is : o ≡ Some (named e r kind)

merge-names : (added : List (List ℕ)) (o : Option FileName) (e : Entity) (r : Range) → ReadsFirst added o → is_aligned r ≡ true → SameNames added (entity_texts e (r ∷ [])) → IsNamedOf o e r
merge-names [] o e r reads al are =
    absurd (false≢true (are (spelled (named e r Ef)) ∙ over-in e (r ∷ []) r Ef (inl refl) (ef-fits e)))
merge-names (first ∷ rest) o e r reads al are =
    let t = over-from e (r ∷ []) first (sym (are first) ∙ at-head rest first) in
    let same = only-one t.range r t.inside in
    let is : first ≡ spelled (named e r t.kind) = t.is ∙ ap (λ q. spelled (named e q t.kind)) same in
    record { kind = t.kind; is = reads (named e r t.kind) first rest refl (is_name-of e r t.kind al t.fits) (sym is) }

none-some : (n : FileName) → None ≡ Some n → ⊥
none-some n e = subst (λ o. is o) e tt
  where
    is : Option FileName → Type 0
    is None = Unit {0}
    is (Some x) = ⊥

some-is : (n m : FileName) → Some n ≡ Some m → n ≡ m
some-is n m e = ap (λ o. from o) e
  where
    from : Option FileName → FileName
    from None = n
    from (Some x) = x

steps-within : (next size : ℕ) → next ≤ 4096 * size → 1 ≤ size → next / size ≤ 4096
steps-within next size within some = div-le_of_le-mul size (omega (arith, within))

le-chain : {a b c : ℕ} → a ≤ b → b ≤ c → a ≤ c
le-chain h g = omega (arith, h, g)

module _ (next size : ℕ) (some : 1 ≤ size) (within : next ≤ 4096 * size) (visible added : List (List ℕ)) where
  pub complete-within : next / size ≤ 4096
  complete-within = steps-within next size within some

  -- nothing is named first
  pub no-collation : ReadsFirst added None → (replaced : List (List ℕ)) → IsCollation next size visible added replaced → ⊥
  no-collation reads replaced c =
      let n = step-names added None c.step reads (le-chain c.complete complete-within) c.are in
      none-some (named n.entity (range_at c.step 1) n.kind) n.is

  pub collation-decides : (b : Bool) (name : FileName) → ReadsFirst added (Some name) → Decides b (IsStep (next / size) visible added name.range.from)
      → Decides b (IsCollation next size visible added [])
  collation-decides b name reads d = (taken, only)
    where
      taken : b ≡ true → IsCollation next size visible added []
      taken e =
          let s = d.0 e in
          record { step = name.range.from; at_end = s.at_end; complete = s.complete_step; are = s.are; nothing = refl }

      only : IsCollation next size visible added [] → b ≡ true
      only c =
          let n = step-names added (Some name) c.step reads (le-chain c.complete complete-within) c.are in
          let same : c.step ≡ name.range.from = ap (λ (m : FileName). m.range.from) (sym (some-is name (named n.entity (range_at c.step 1) n.kind) n.is)) in
          let here : IsStep (next / size) visible added c.step = record { at_end = c.at_end; complete_step = c.complete; are = c.are } in
          d.1 (subst (λ step. IsStep (next / size) visible added step) same here)

module _ (visible added replaced : List (List ℕ)) where
  pub no-merge : ReadsFirst added None → IsMerge visible added replaced → ⊥
  no-merge reads may =
      let n = merge-names added None may.entity may.range reads may.aligned may.are in
      none-some (named may.entity may.range n.kind) n.is

  pub merge-decides : (b : Bool) (name : FileName) → ReadsFirst added (Some name) → is_aligned name.range ≡ true → Decides b (IsMergeTo visible added replaced name.entity name.range)
      → Decides b (IsMerge visible added replaced)
  merge-decides b name reads al d = (taken, only)
    where
      taken : b ≡ true → IsMerge visible added replaced
      taken e =
          let s = d.0 e in
          record {
            entity = name.entity;
            range = name.range;
            aligned = al;
            ends = s.union.ends;
            several = s.union.several;
            seen = s.union.seen;
            are = s.are;
            gone = s.union.gone;
          }

      only : IsMerge visible added replaced → b ≡ true
      only may =
          let n = merge-names added (Some name) may.entity may.range reads may.aligned may.are in
          let same : named may.entity may.range n.kind ≡ name = sym (some-is name (named may.entity may.range n.kind) n.is) in
          let here : IsMergeTo visible added replaced may.entity may.range =
          record { union = record { ends = may.ends; several = may.several; seen = may.seen; gone = may.gone }; are = may.are } in
          d.1 (subst (λ (m : FileName). IsMergeTo visible added replaced m.entity m.range) same here)

-- ---- what is replaced tells which of the two it may be

few : {n : ℕ} → 2 ≤ n → n ≡ 0 → ⊥
few h e = omega (arith, h, e)

no-parts : (e : Entity) (a : ℕ) (ps : List Range) → IsChain [] e a ps → length ps ≡ 0
unfolding has_group
no-parts e a [] chain = refl
no-parts e a (p ∷ ps) chain = absurd (false≢true (second_so (is_aligned p) false (chain.groups p (inl refl))))

pub nothing-merged : (visible added : List (List ℕ)) → IsMerge visible added [] → ⊥
unfolding parts_of
nothing-merged visible added may =
    let r = may.range in
    few may.several (no-parts may.entity r.from (parts_of [] may.entity r) (parts-chain [] may.entity (r.to - r.from) r.from r.to))

pub publish-nothing : (next size : ℕ) (visible added : List (List ℕ)) (b : Bool) → Decides b (IsCollation next size visible added []) → Decides b (IsPublish next size visible added [])
publish-nothing next size visible added b d = (λ e. inl (d.0 e), only)
  where
    only : IsPublish next size visible added [] → b ≡ true
    only (inl c) = d.1 c
    only (inr may) = absurd (nothing-merged visible added may)

pub publish-some : (next size : ℕ) (visible added replaced : List (List ℕ)) (b : Bool) → (replaced ≡ [] → ⊥) → Decides b (IsMerge visible added replaced) → Decides b (IsPublish next size visible added replaced)
publish-some next size visible added replaced b some d = (λ e. inr (d.0 e), only)
  where
    only : IsPublish next size visible added replaced → b ≡ true
    only (inl c) = absurd (some c.nothing)
    only (inr may) = d.1 may

pub name-aligned : (n : FileName) → is_name n ≡ true → is_aligned n.range ≡ true
unfolding is_name
name-aligned n h = first-of (is_aligned n.range) (has_kind n.entity n.kind) h
  where
    first-of : (a b : Bool) → (a && b) ≡ true → a ≡ true
    first-of true b h = refl
    first-of false b h = h

-- ---- what the looks decide

below-step : {a b : ℕ} → a < b → a + 1 ≤ b
below-step h = omega (arith, h)

pub step-decides : (complete step : ℕ) (visible added s w : List (List ℕ)) (cut : List Range) (b : Bool) → step < complete → is_end visible step ≡ true → cut ≡ range_at step 1 ∷ []
    → w ≡ with_names [] (all_texts cut) → s ≡ with_names [] added → Decides b (s ≡ w) → Decides b (IsStep complete visible added step)
step-decides complete step visible added s w cut b below at_end is so this d =
    let same : Decides b (SameNames added (all_texts (range_at step 1 ∷ []))) = decides-at added (all_texts (range_at step 1 ∷ [])) s w b this (so ∙ ap (λ l. with_names [] (all_texts l)) is) d in
    (λ e. record { at_end = at_end; complete_step = below-step below; are = same.0 e }, λ h. same.1 h.are)

pub merge-to-decides : (visible added replaced s w : List (List ℕ)) (e : Entity) (r : Range) (cut : List Range) (b : Bool) → IsUnionOf visible replaced e r → cut ≡ r ∷ []
    → w ≡ with_names [] (entity_texts e cut) → s ≡ with_names [] added → Decides b (s ≡ w) → Decides b (IsMergeTo visible added replaced e r)
merge-to-decides visible added replaced s w e r cut b union is so this d =
    let same : Decides b (SameNames added (entity_texts e (r ∷ []))) = decides-at added (entity_texts e (r ∷ [])) s w b this (so ∙ ap (λ l. with_names [] (entity_texts e l)) is) d in
    (λ h. record { union = union; are = same.0 h }, λ h. same.1 h.are)

too-short : {n : ℕ} → n < 2 → 2 ≤ n → ⊥
too-short h g = omega (arith, h, g)

module _ (visible replaced s : List (List ℕ)) (e : Entity) (r : Range) (parts : List Range) (end : ℕ) (is : s ≡ with_names [] replaced) (found : parts ≡ parts_of s e r)
    (reached : end ≡ end_from r.from parts) where
  parts-are : parts ≡ parts_of replaced e r
  parts-are = found ∙ ap (λ l. parts_of l e r) is ∙ parts-same (with_names [] replaced) replaced (same-set replaced) e r

  pub not-reached : (end ≡ r.to → ⊥) → IsUnionOf visible replaced e r → ⊥
  not-reached differ u = differ (reached ∙ ap (end_from r.from) parts-are ∙ u.ends)

  pub not-several : length parts < 2 → IsUnionOf visible replaced e r → ⊥
  not-several short u = too-short (subst (λ l. length l < 2) parts-are short) u.several

  pub union-decides : (w : List (List ℕ)) (b : Bool) → AreAmong replaced visible → end ≡ r.to → 2 ≤ length parts → w ≡ with_names [] (entity_texts e parts) → Decides b (s ≡ w)
      → Decides b (IsUnionOf visible replaced e r)
  union-decides w b among at several so d =
      let same : Decides b (SameNames replaced (entity_texts e parts)) = decides-at replaced (entity_texts e parts) s w b is so d in
      let F : List Range → Type 0 = λ l. Decides b (SameNames replaced (entity_texts e l)) in
      let those : Decides b (SameNames replaced (entity_texts e (parts_of replaced e r))) = subst F parts-are same in (
        λ h. record {
          ends = sym (ap (end_from r.from) parts-are) ∙ sym reached ∙ at;
          several = subst (λ (l : List Range). 2 ≤ length l) parts-are several;
          seen = among;
          gone = those.0 h;
        },
        λ u. those.1 u.gone,
      )
