-- What is left of a check, and of a sum, after each change.
use Rattle.std.proofs.Common.{◌≡◌, ℕ, suc, ◌+◌, ◌<◌, ◌≤◌, List, [], ◌∷◌, Option, Some, None, length, get_or, drop, All, refl, sym, ◌∙◌, ap, arith, add-one, drop-cons, subst}
use Rattle.std.specs.Option.{option_or}
use Rattle.std.proofs.lemmas.List.Elements.{All-cons, All-nil}
use Rattle.std.proofs.lemmas.Bool.Decides.{nat_tests}
use Rattle.agg_model.specs.declared.change.Change.{Change}
use Rattle.agg_model.specs.declared.check.BatchError.{BatchError}
use Rattle.agg_model.specs.Batch.{AscendFrom, IsChange, content_of, value_length}
use Rattle.agg_model.specs.BatchRefusals.{refusal_from, shape_refusal, number_refusal}

pub drop_here : (items : List Change) (i : ℕ) (c : Change) → i < length items → c ≡ get_or items i c → drop i items ≡ c ∷ drop (i + 1) items
drop_here items i c h is = rw add-one (drop-cons items i c h ∙ ap (λ d. d ∷ drop (suc i) items) (sym is))

-- the content from a change on
pub content_of-drop : (items : List Change) (i : ℕ) (c : Change) → i < length items → c ≡ get_or items i c → content_of (drop i items) ≡ length c.key + value_length c.act + 64 + content_of (drop (i + 1) items)
content_of-drop items i c h is = ap content_of (drop_here items i c h is)

module _ (least last far : ℕ) (items : List Change) (i : ℕ) (c : Change) (h : i < length items) (is : c ≡ get_or items i c) where
  pub refusal-next : shape_refusal c ≡ None → number_refusal least last far c.tx ≡ None → refusal_from least last far (drop i items) ≡ refusal_from c.tx c.tx far (drop (i + 1) items)
  refusal-next shape number =
      ap (refusal_from least last far) (drop_here items i c h is)
      ∙ (λ j. option_or (option_or (shape j) (number j)) (refusal_from c.tx c.tx far (drop (i + 1) items)))

  pub refusal-shape : (e : BatchError) → shape_refusal c ≡ Some e → refusal_from least last far (drop i items) ≡ Some e
  refusal-shape e shape =
      ap (refusal_from least last far) (drop_here items i c h is)
      ∙ (λ j. option_or (option_or (shape j) (number_refusal least last far c.tx)) (refusal_from c.tx c.tx far (drop (i + 1) items)))

  pub refusal-number : (e : BatchError) → shape_refusal c ≡ None → number_refusal least last far c.tx ≡ Some e → refusal_from least last far (drop i items) ≡ Some e
  refusal-number e shape number =
      ap (refusal_from least last far) (drop_here items i c h is)
      ∙ (λ j. option_or (option_or (shape j) (number j)) (refusal_from c.tx c.tx far (drop (i + 1) items)))

option_or-first : (x y : Option BatchError) → option_or x y ≡ None → x ≡ None
option_or-first None y e = refl
option_or-first (Some b) y e = cc

option_or-second : (x y : Option BatchError) → option_or x y ≡ None → y ≡ None
option_or-second None y e = e
option_or-second (Some b) y e = cc

number_refusal-None : (least last far tx : ℕ) → number_refusal least last far tx ≡ None → (least ≤ tx) × (tx < far)
unfolding number_refusal
number_refusal-None least last far tx e = grind (arith, nat_tests)

-- what no refusal says of the numbers
pub refusal_from-None : (least last far : ℕ) (cs : List Change) → refusal_from least last far cs ≡ None → AscendFrom least cs × All (λ c. c.tx < far) cs
refusal_from-None least last far [] e = (tt, All-nil (λ (c : Change). c.tx < far))
refusal_from-None least last far (c ∷ cs) e =
    let here = option_or (shape_refusal c) (number_refusal least last far c.tx) in
    let number : number_refusal least last far c.tx ≡ None =
    option_or-second (shape_refusal c) _ (option_or-first here (refusal_from c.tx c.tx far cs) e) in
    let fits = number_refusal-None least last far c.tx number in
    let rest = refusal_from-None c.tx c.tx far cs (option_or-second here _ e) in
    ((fits.0, rest.0), All-cons (λ d. d.tx < far) c cs fits.1 rest.1)

-- what was seen of each change, all changes have
pub all_fit : (items batch : List Change) (i : ℕ) → items ≡ batch → length items ≤ i → ((k : ℕ) (d : Change) → k < i → IsChange (get_or items k d)) → All IsChange batch
all_fit items batch i same over fit =
    subst (All IsChange) same (λ k d below. fit k d (omega arith))
