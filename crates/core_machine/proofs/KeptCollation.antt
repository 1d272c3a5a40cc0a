-- A collation keeps the visible names whole groups of one cut per entity.
use Rattle.std.proofs.Common.{◌≡◌, ◌⊎◌, inl, inr, Bool, true, false, ◌&&◌, ◌||◌, ◌==◌, List, [], ◌∷◌, ◌++◌, ℕ, ◌+◌, ◌-◌, ◌%◌, ◌≤◌, refl, sym, ◌∙◌, ap, subst, arith, eq-eqb, le-leb}
use Rattle.std.specs.Prelude.{nat_le}
use Rattle.std.specs.Cmp.{both_ways}
use Rattle.std.proofs.lemmas.Nat.{mod_below}
use Rattle.agg_model.specs.declared.entity.Entity.{Entity}
use Rattle.merge_ranges.specs.Cut.{is_size, is_aligned, IsCut, end_of}
use Rattle.merge_ranges.specs.CanonicalNames.{entities}
use Rattle.core_machine.specs.Texts.{has, SameNames, with_names, without_names, texts_of, all_texts}
use Rattle.core_machine.specs.Sound.{AreWholeGroups, names_by_cut}
use Rattle.core_machine.specs.Publishing.{range_at}
use Rattle.core_machine.proofs.TextLaws.{has-with, has-without}
use Rattle.core_machine.proofs.Inside.{In, in-left, in-right, in-split}
use Rattle.core_machine.proofs.GroupTexts.{IsGroupText, has-group, from-group}
use Rattle.core_machine.proofs.Cuts.{end_from-append, cut-append}
use Rattle.core_machine.proofs.Visible.{from-names, in-names}

size-of : (step : ℕ) → (step + 1) - step ≡ 1
size-of step = omega arith

mod-one : (step : ℕ) → step % 1 ≡ 0
mod-one step = omega (arith, mod_below step 1 (omega arith))

pub aligned-step : (step : ℕ) → step + 1 ≤ 4096 → is_aligned (range_at step 1) ≡ true
unfolding is_aligned
aligned-step step within =
    subst (λ n. (is_size n && (step % n == 0) && nat_le (step + 1) 4096) ≡ true) (sym (size-of step))
    (λ i. (eq-eqb (step % 1) 0 (mod-one step) i) && (le-leb (step + 1) 4096 within i))

module _ (names added : List (List ℕ)) (g : AreWholeGroups names) (step : ℕ) (within : step + 1 ≤ 4096) (at : g.end ≡ step)
    (are : SameNames added (all_texts (range_at step 1 ∷ []))) where
  cut : (e : Entity) → IsCut (g.cuts e ++ range_at step 1 ∷ [])
  cut e = cut-append 0 (g.cuts e) (range_at step 1 ∷ []) (g.cut e) (sym (g.ends e ∙ at), aligned-step step within, tt)

  ends : (e : Entity) → end_of (g.cuts e ++ range_at step 1 ∷ []) ≡ step + 1
  ends e = end_from-append 0 (g.cuts e) (range_at step 1 ∷ [])

  to-cuts : (text : List ℕ) → (has added text ≡ true) ⊎ (has names text ≡ true) → IsGroupText (λ e. g.cuts e ++ range_at step 1 ∷ []) text
  to-cuts text (inl h) =
      let t = from-group (λ (e : Entity). range_at step 1 ∷ []) text (sym (are text) ∙ h) in
      record { entity = t.entity; range = t.range; kind = t.kind; inside = in-right t.range (g.cuts t.entity) (range_at step 1 ∷ []) t.inside; fits = t.fits; is = t.is }
  to-cuts text (inr h) =
      let t = from-names names g text h in
      record { entity = t.entity; range = t.range; kind = t.kind; inside = in-left t.range (g.cuts t.entity) (range_at step 1 ∷ []) t.inside; fits = t.fits; is = t.is }

  or-true : (a : Bool) → (a || true) ≡ true
  or-true true = refl
  or-true false = refl

  from-cuts : (text : List ℕ) → IsGroupText (λ e. g.cuts e ++ range_at step 1 ∷ []) text → (has added text || has names text) ≡ true
  from-cuts text t = by (in-split t.range (g.cuts t.entity) (range_at step 1 ∷ []) t.inside)
    where
      by : In t.range (g.cuts t.entity) ⊎ In t.range (range_at step 1 ∷ []) → (has added text || has names text) ≡ true
      by (inl h) = ap (λ b. has added text || b) (ap (has names) t.is ∙ in-names names g t.entity t.range t.kind h t.fits) ∙ or-true (has added text)
      by (inr h) =
          ap (λ b. b || has names text)
          (are text ∙ has-group (λ (e : Entity). range_at step 1 ∷ []) text (record { entity = t.entity; range = t.range; kind = t.kind; inside = h; fits = t.fits; is = t.is }))

  or-split : (a b : Bool) → (a || b) ≡ true → (a ≡ true) ⊎ (b ≡ true)
  or-split true b h = inl refl
  or-split false b h = inr h

  and-true : (a : Bool) → (a && true) ≡ a
  and-true true = refl
  and-true false = refl

  same : SameNames (with_names (without_names names []) added) (texts_of (names_by_cut entities (λ e. g.cuts e ++ range_at step 1 ∷ [])))
  same text =
      let now : has (with_names (without_names names []) added) text ≡ (has added text || has names text) =
      has-with (without_names names []) added text ∙ ap (λ b. has added text || b) (has-without names [] text ∙ and-true (has names text)) in
      now
      ∙ both_ways (has added text || has names text) (has (texts_of (names_by_cut entities (λ e. g.cuts e ++ range_at step 1 ∷ []))) text)
      (λ h. has-group (λ e. g.cuts e ++ range_at step 1 ∷ []) text (to-cuts text (or-split (has added text) (has names text) h)))
      (λ h. from-cuts text (from-group (λ e. g.cuts e ++ range_at step 1 ∷ []) text h))

  pub whole-collated : (w : AreWholeGroups (with_names (without_names names []) added)) × (w.end ≡ step + 1)
  whole-collated = (record { cuts = λ e. g.cuts e ++ range_at step 1 ∷ []; end = step + 1; cut = cut; ends = ends; are = same }, refl)
