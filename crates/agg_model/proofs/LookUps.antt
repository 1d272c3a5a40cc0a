-- What a walk over the changes still has to find.
use Rattle.std.proofs.Common.{◌≡◌, ℕ, ◌+◌, ◌<◌, Bool, true, false, cond, List, Option, Some, None, length, get_or, drop, refl, ◌∙◌, ap}
use Rattle.std.specs.Option.{option_or, option_and_then}
use Rattle.agg_model.specs.declared.change.Change.{Change}
use Rattle.agg_model.specs.ChangeList.{last_where, value_of}
use Rattle.agg_model.proofs.Checks.{drop_here}

-- the value that the last change left, or else the one found before
abbrev pub value_after : Option (List ℕ) → Option Change → Option (List ℕ)
value_after found None = found
value_after found (Some c) = value_of c

value_after-none : (o : Option Change) → value_after None o ≡ option_and_then value_of o
value_after-none None = refl
value_after-none (Some c) = refl

value_after-here : (found : Option (List ℕ)) (c : Change) (o : Option Change) (t : Bool) → t ≡ true → value_after found (option_or o (cond t (Some c) None)) ≡ value_after (value_of c) o
value_after-here found c None t e = ap (λ t. value_after found (cond t (Some c) None)) e
value_after-here found c (Some d) t e = refl

value_after-past : (found : Option (List ℕ)) (c : Change) (o : Option Change) (t : Bool) → t ≡ false → value_after found (option_or o (cond t (Some c) None)) ≡ value_after found o
value_after-past found c None t e = ap (λ t. value_after found (cond t (Some c) None)) e
value_after-past found c (Some d) t e = refl

module _ (p : Change → Bool) (found : Option (List ℕ)) (items : List Change) (i : ℕ) (c : Change) (h : i < length items) (is : c ≡ get_or items i c) where
  pub walk-here : p c ≡ true → value_after found (last_where p (drop i items)) ≡ value_after (value_of c) (last_where p (drop (i + 1) items))
  walk-here e =
      ap (λ cs. value_after found (last_where p cs)) (drop_here items i c h is)
      ∙ value_after-here found c (last_where p (drop (i + 1) items)) (p c) e

  pub walk-past : p c ≡ false → value_after found (last_where p (drop i items)) ≡ value_after found (last_where p (drop (i + 1) items))
  walk-past e =
      ap (λ cs. value_after found (last_where p cs)) (drop_here items i c h is)
      ∙ value_after-past found c (last_where p (drop (i + 1) items)) (p c) e

pub value_after-start : (p : Change → Bool) (cs : List Change) → value_after None (last_where p cs) ≡ option_and_then value_of (last_where p cs)
value_after-start p cs = value_after-none (last_where p cs)
