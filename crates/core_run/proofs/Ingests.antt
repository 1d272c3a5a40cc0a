-- Which batches may come, and which have no repeats.
use Rattle.std.proofs.Common.{◌≡◌, ◌≢◌, ◌⊎◌, inl, inr, Bool, true, false, cond, not, ℕ, suc, ◌+◌, ◌-◌, ◌<◌, ◌≤◌, List, [], ◌∷◌, ◌++◌, length, All, refl, sym, ◌∙◌, ap, subst, arith, append_assoc, append-nil}
use Rattle.std.specs.Prelude.{Option, Some, None}
use Rattle.std.specs.Option.{option_or}
use Rattle.std.proofs.lemmas.List.Elements.{All-head, All-tail}
use Rattle.std.proofs.lemmas.Bool.Decides.{nat_tests}
use Rattle.agg_model.specs.declared.change.Act.{Act}
use Rattle.agg_model.specs.declared.change.Act.TheVariants.{Put, Del, Mark}
use Rattle.agg_model.specs.declared.change.Change.{Change}
use Rattle.agg_model.specs.declared.check.BatchError.{BatchError}
use Rattle.agg_model.specs.declared.check.BatchError.TheVariants.{WrongAct, KeyLength, ValueLength}
use Rattle.agg_model.specs.Batch.{AscendFrom, HasNoRepeats, IsBatch, IsChange, HasValue}
use Rattle.agg_model.specs.BatchRefusals.{is_outside, value_refusal, shape_refusal, number_refusal, refusal_from, first_refusal}
use Rattle.agg_model.specs.Merged.{put_over, merged_from, merged}
use Rattle.agg_model.specs.Place.{place_of, is_same_place}
use Rattle.agg_model.proofs.PlaceOrder.{is_same_place-true}
use Rattle.agg_model.proofs.MergedLaws.{merged-HasNoRepeats}

outside-none : (most n : ℕ) → 1 ≤ n → n ≤ most → is_outside most n ≡ false
outside-none most n low high = grind (arith, nat_tests)

value-none : (act : Act) → HasValue act → value_refusal act ≡ None
value-none (Put value) v = ap (λ b. cond b (Some (ValueLength (length value))) None) (outside-none 65535 (length value) v.not_empty v.within)
value-none Del v = refl
value-none Mark v = refl

shape-none : (c : Change) → IsChange c → shape_refusal c ≡ None
unfolding shape_refusal
shape-none c is =
    (λ i. cond (not (is.act_fits i)) (Some (WrongAct c.entity)) (cond (is_outside 64 (length c.key)) (Some (KeyLength (length c.key))) (value_refusal c.act)))
    ∙ ap (λ b. cond b (Some (KeyLength (length c.key))) (value_refusal c.act)) (outside-none 64 (length c.key) is.key.not_empty is.key.within)
    ∙ value-none c.act is.value

number-none : (least last far tx : ℕ) → least ≤ tx → tx < far → number_refusal least last far tx ≡ None
unfolding number_refusal
number-none least last far tx low high = grind (arith, nat_tests)

refusal-none : (least last far : ℕ) (cs : List Change) → AscendFrom least cs → All (λ c. c.tx < far) cs → All IsChange cs → refusal_from least last far cs ≡ None
refusal-none least last far [] ascend below fit = refl
refusal-none least last far (c ∷ cs) ascend below fit =
    let here = number-none least last far c.tx ascend.0 (All-head (λ (d : Change). d.tx < far) c cs below) in
    let shape = shape-none c (All-head IsChange c cs fit) in
    let rest = refusal-none c.tx c.tx far cs ascend.1 (All-tail (λ (d : Change). d.tx < far) c cs below) (All-tail IsChange c cs fit) in
    λ i. option_or (option_or (shape i) (here i)) (rest i)

some-none : (e : BatchError) → Some e ≡ None → ⊥
some-none e p = subst (λ o. is o) p tt
  where
    is : Option BatchError → Type 0
    is None = ⊥
    is (Some x) = Unit {0}

pub refused : (next far : ℕ) (batch : List Change) (e : BatchError) → Some e ≡ first_refusal next far batch → IsBatch next far batch → ⊥
unfolding first_refusal
refused next far batch e is b = some-none e (is ∙ refusal-none next (next - 1) far batch b.ascend b.below_far b.fit)

-- ---- repeats

later-one : (P : Change → Type 0) (c : Change) (acc cs : List Change) → All P (acc ++ c ∷ cs) → P c
later-one P c [] cs all = All-head P c cs all
later-one P c (d ∷ ds) cs all = later-one P c ds cs (All-tail P d (ds ++ c ∷ cs) all)

put-new : (c : Change) (acc cs : List Change) → HasNoRepeats (acc ++ c ∷ cs) → put_over c acc ≡ acc ++ c ∷ []
put-new c [] cs none = refl
put-new c (d ∷ ds) cs none = by (is_same_place (place_of c) (place_of d)) refl (put-new c ds cs none.1)
  where
    by : (b : Bool) → is_same_place (place_of c) (place_of d) ≡ b → put_over c ds ≡ ds ++ c ∷ [] → cond b (c ∷ ds) (d ∷ put_over c ds) ≡ d ∷ (ds ++ c ∷ [])
    by true e rest = absurd (later-one (λ (x : Change). place_of x ≢ place_of d) c ds cs none.0 (is_same_place-true (place_of c) (place_of d) e))
    by false e rest = ap (λ l. d ∷ l) rest

behind : (acc cs : List Change) (c : Change) → (acc ++ c ∷ []) ++ cs ≡ acc ++ c ∷ cs
behind acc cs c = append_assoc acc (c ∷ []) cs

merged-apart : (acc cs : List Change) → HasNoRepeats (acc ++ cs) → merged_from acc cs ≡ acc ++ cs
merged-apart acc [] none = sym (append-nil acc)
merged-apart acc (c ∷ cs) none =
    ap (λ l. merged_from l cs) (put-new c acc cs none)
    ∙ merged-apart (acc ++ c ∷ []) cs (subst HasNoRepeats (sym (behind acc cs c)) none)
    ∙ behind acc cs c

put-either : (c : Change) (ds : List Change) → (length (put_over c ds) ≡ length ds) ⊎ (put_over c ds ≡ ds ++ c ∷ [])
put-either c [] = inr refl
put-either c (d ∷ ds) = by (is_same_place (place_of c) (place_of d)) (put-either c ds)
  where
    by : (b : Bool) → (length (put_over c ds) ≡ length ds) ⊎ (put_over c ds ≡ ds ++ c ∷ []) → (length (cond b (c ∷ ds) (d ∷ put_over c ds)) ≡ suc (length ds)) ⊎ (cond b (c ∷ ds) (d ∷ put_over c ds) ≡ d ∷ (ds ++ c ∷ []))
    by true rest = inl refl
    by false (inl e) = inl (ap suc e)
    by false (inr e) = inr (ap (λ l. d ∷ l) e)

length-behind : (ds : List Change) (c : Change) → length (ds ++ c ∷ []) ≡ suc (length ds)
length-behind [] c = refl
length-behind (d ∷ ds) c = ap suc (length-behind ds c)

fewer : (a b n x : ℕ) → x ≡ a → n ≤ x + b → n ≤ a + suc b
fewer a b n x e h = omega (arith, e, h)

as-many : (a b n x : ℕ) → x ≡ suc a → n ≤ x + b → n ≤ a + suc b
as-many a b n x e h = omega (arith, e, h)

all-counted : (n : ℕ) → n ≤ n + 0
all-counted n = omega arith

merged-few : (acc cs : List Change) → length (merged_from acc cs) ≤ length acc + length cs
merged-few acc [] = all-counted (length acc)
merged-few acc (c ∷ cs) = by (put-either c acc) (merged-few (put_over c acc) cs)
  where
    by : (length (put_over c acc) ≡ length acc) ⊎ (put_over c acc ≡ acc ++ c ∷ []) → length (merged_from (put_over c acc) cs) ≤ length (put_over c acc) + length cs → length (merged_from (put_over c acc) cs) ≤ length acc + suc (length cs)
    by (inl e) h = fewer (length acc) (length cs) (length (merged_from (put_over c acc) cs)) (length (put_over c acc)) e h
    by (inr e) h = as-many (length acc) (length cs) (length (merged_from (put_over c acc) cs)) (length (put_over c acc)) (ap length e ∙ length-behind acc c) h

too-few : (a b n x : ℕ) → x ≡ a → n ≤ x + b → n ≡ a + suc b → ⊥
too-few a b n x e h is = omega (arith, e, h, is)

next-count : (a b n x : ℕ) → x ≡ suc a → n ≡ a + suc b → n ≡ x + b
next-count a b n x e is = omega (arith, e, is)

merged-long : (acc cs : List Change) → length (merged_from acc cs) ≡ length acc + length cs → merged_from acc cs ≡ acc ++ cs
merged-long acc [] is = sym (append-nil acc)
merged-long acc (c ∷ cs) is = by (put-either c acc) (λ e. merged-long (put_over c acc) cs e)
  where
    by : (length (put_over c acc) ≡ length acc) ⊎ (put_over c acc ≡ acc ++ c ∷ []) → (length (merged_from (put_over c acc) cs) ≡ length (put_over c acc) + length cs → merged_from (put_over c acc) cs ≡ put_over c acc ++ cs) → merged_from (put_over c acc) cs ≡ acc ++ c ∷ cs
    by (inl e) rest = absurd (too-few (length acc) (length cs) (length (merged_from (put_over c acc) cs)) (length (put_over c acc)) e (merged-few (put_over c acc) cs) is)
    by (inr e) rest = rest (next-count (length acc) (length cs) (length (merged_from (put_over c acc) cs)) (length (put_over c acc)) (ap length e ∙ length-behind acc c) is) ∙ ap (λ l. l ++ cs) e ∙ behind acc cs c

nothing-more : (n : ℕ) → n ≡ 0 + n
nothing-more n = omega arith

-- no change is a repeat where none went
pub all-kept : (cs : List Change) → length (merged cs) ≡ length cs → merged cs ≡ cs
unfolding merged
all-kept cs is = merged-long [] cs (is ∙ nothing-more (length cs))

pub none-repeats : (cs : List Change) → HasNoRepeats cs → merged cs ≡ cs
unfolding merged
none-repeats cs none = merged-apart [] cs none

module _ (batch copy kept : List Change) (is : copy ≡ batch) (so : kept ≡ merged copy) where
  pub kept-all : length kept ≡ length batch → HasNoRepeats batch × (kept ≡ batch)
  kept-all count =
      let e : kept ≡ merged batch = so ∙ ap merged is in
      let same = all-kept batch (sym (ap length e) ∙ count) in
      (subst HasNoRepeats same (merged-HasNoRepeats batch), e ∙ same)

  pub kept-fewer : (length kept ≡ length batch → ⊥) → HasNoRepeats batch → ⊥
  kept-fewer differ none = differ (ap length (so ∙ ap merged is ∙ none-repeats batch none))
