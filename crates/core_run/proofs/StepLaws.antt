-- One entry: when it is possible, and what stands after it.
use Rattle.std.proofs.Common.{◌≡◌, Bool, true, false, ℕ, zero, suc, ◌+◌, ◌/◌, ◌<◌, List, [], ◌∷◌, ◌++◌, length, get_or, take, sym, ◌∙◌, ap, subst, arith, add-one}
use Rattle.std.proofs.lemmas.Bool.{false≢true}
use Rattle.std.specs.Prelude.{Option, Some, IfSome}
use Rattle.std.proofs.lemmas.Option.{slice_get-get_or}
use Rattle.std.specs.Bool.{Decides}
use Rattle.core_machine.specs.declared.entry.Entry.{Entry}
use Rattle.core_machine.specs.declared.machine.Machine.{Machine}
use Rattle.core_machine.specs.Texts.{SameNames, IsInForm, with_names, all_texts}
use Rattle.merge_ranges.specs.Cut.{canon}
use Rattle.merge_ranges.specs.CanonicalNames.{canonical_names}
use Rattle.agg_model.specs.declared.entity.Range.{Range}
use Rattle.core_machine.specs.Entries.{IsPossible, ArePossible, after, replay, IsFirstImpossible, IsSettled}
use Rattle.core_machine.proofs.Kept.{possible-append, replay-append}
use Rattle.core_run.specs.declared.running.Row.{Row}
use Rattle.core_run.specs.Running.{openings}
use Rattle.core_run.proofs.NameSets.{same-sets, sets-same, set-of-form}
use Rattle.core_run.proofs.RowPlaces.{openings-push}

pub clash : (b : Bool) → b ≡ false → b ≡ true → ⊥
clash b f t = false≢true (sym f ∙ t)

-- an answer says whether names are the same by saying whether their sets are
pub decides-same : (xs ys : List (List ℕ)) (b : Bool) → Decides b (with_names [] xs ≡ with_names [] ys) → Decides b (SameNames xs ys)
decides-same xs ys b d = (λ e. sets-same xs ys (d.0 e), λ s. d.1 (same-sets xs ys s))

-- at sets that are spelled out
pub decides-at : (xs ys s t : List (List ℕ)) (b : Bool) → s ≡ with_names [] xs → t ≡ with_names [] ys → Decides b (s ≡ t) → Decides b (SameNames xs ys)
decides-at xs ys s t b is so d = decides-same xs ys b (λ e. sym is ∙ d.0 e ∙ so, λ e. d.1 (is ∙ e ∙ sym so))

-- the names of a list in the one form are those of its set
pub decides-form : (xs ys s : List (List ℕ)) (b : Bool) → s ≡ with_names [] xs → IsInForm ys → Decides b (s ≡ ys) → Decides b (SameNames xs ys)
decides-form xs ys s b is form d = decides-at xs ys s ys b is (sym (set-of-form ys form)) d

-- ---- rows

pub opened : (m : Machine) (rows new : List Row) (r : Row) → m.opened ≡ openings rows → new ≡ rows ++ r ∷ [] → r.at ≡ m.next → r.names.keys ≡ m.visible
    → openings new ≡ m.opened ++ record { caller = r.caller; number = r.number; at = m.next; names = m.visible } ∷ []
opened m rows new r is pushed at names =
    ap openings pushed ∙ openings-push rows r ∙ (λ i. sym is i ++ record { caller = r.caller; number = r.number; at = at i; names = names i } ∷ [])

-- ---- lists of entries

take-more : (entries : List Entry) (i : ℕ) (entry : Entry) → i < length entries → entry ≡ get_or entries i entry → take (i + 1) entries ≡ take i entries ++ entry ∷ []
take-more entries i entry below is = rw add-one (by entries i below is)
  where
    none-below : {n : ℕ} → n < 0 → ⊥
    none-below h = omega (arith, h)

    lower : {k n : ℕ} → suc k < suc n → k < n
    lower h = omega (arith, h)

    by : (xs : List Entry) (i : ℕ) → i < length xs → entry ≡ get_or xs i entry → take (suc i) xs ≡ take i xs ++ entry ∷ []
    by [] i below is = absurd (none-below below)
    by (x ∷ xs) zero below is = ap (λ e. e ∷ []) (sym is)
    by (x ∷ xs) (suc i) below is = ap (λ l. x ∷ l) (by xs i (lower below) is)

module _ (start : Machine) (entries : List Entry) (i : ℕ) (entry : Entry) (below : i < length entries) (is : entry ≡ get_or entries i entry) (m : Machine)
    (now : m ≡ replay start (take i entries)) where
  pub may-next : ArePossible start (take i entries) → IsPossible m entry → ArePossible start (take (i + 1) entries)
  may-next before may =
      subst (ArePossible start) (sym (take-more entries i entry below is))
      (possible-append start (take i entries) (entry ∷ []) before (subst (λ n. IsPossible n entry) now may, tt))

  pub is-next : (n : Machine) → n ≡ after m entry → n ≡ replay start (take (i + 1) entries)
  is-next n e =
      e ∙ ap (λ x. after x entry) now ∙ sym (ap (replay start) (take-more entries i entry below is) ∙ replay-append start (take i entries) (entry ∷ []))

  -- the entry is the first that isn't possible
  pub first-refused : ArePossible start (take i entries) → (IsPossible m entry → ⊥) → IsFirstImpossible start entries i
  first-refused before cannot = record {
    within = below;
    before = before;
    not_there =
        let P : Option Entry → Type 0 = λ o. IfSome o (λ e. IsPossible (replay start (take i entries)) e → ⊥) in
        subst P (sym (slice_get-get_or entries i entry below ∙ ap Some (sym is))) (λ may. cannot (subst (λ n. IsPossible n entry) (sym now) may));
  }

-- ---- settled

pub settled-decides : (m : Machine) (names s w : List (List ℕ)) (cut : List Range) (b seen : Bool) → IsInForm m.visible → s ≡ with_names [] names → Decides seen (s ≡ m.visible) → seen ≡ true
    → cut ≡ canon (m.next / m.size) → w ≡ with_names [] (all_texts cut) → Decides b (s ≡ w) → Decides b (IsSettled m names)
unfolding canonical_names
settled-decides m names s w cut b seen form is sees on so this d =
    let rs = canon (m.next / m.size) in
    let same : Decides b (SameNames names (all_texts rs)) = decides-at names (all_texts rs) s w b is (this ∙ ap (λ l. with_names [] (all_texts l)) so) d in
    (λ h. record { visible = (decides-form names m.visible s seen is form sees).0 on; canonical = same.0 h }, λ h. same.1 h.canonical)
