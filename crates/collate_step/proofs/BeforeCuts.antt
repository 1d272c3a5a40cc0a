-- The values before changes, cut in two.
use Rattle.std.specs.Prelude.{◌≡◌, ℕ, List, [], ◌∷◌, ◌++◌, length, slice_get, Option, None, Some, refl}
use Rattle.std.proofs.Common.{ap, sym, ◌∙◌, ◌-◌, ◌<◌, arith}
use Rattle.agg_model.specs.declared.change.Change.{Change}
use Rattle.content_laws.specs.Steps.{befores_behind}

-- the last of changes, and where there is none what stands before them
abbrev last_after : Option Change → List Change → Option Change
last_after last [] = last
last_after last (c ∷ cs) = last_after (Some c) cs

-- the last change is the one at the end
last-end : (c : Change) (cs : List Change) → last_after (Some c) cs ≡ slice_get (c ∷ cs) (length cs)
last-end c [] = refl
last-end c (d ∷ ds) = last-end d ds

-- each part behind what stands before it
cut-behind : (found : List ℕ → Option (List ℕ)) (last : Option Change) (xs ys : List Change)
    → befores_behind found last xs ++ befores_behind found (last_after last xs) ys ≡ befores_behind found last (xs ++ ys)
cut-behind found last [] ys = refl
cut-behind found last (c ∷ cs) ys = λ i. befores_behind found last (c ∷ []) ++ cut-behind found (Some c) cs ys i

-- both halves, the first of which isn't empty
pub cut-end : (found : List ℕ → Option (List ℕ)) (last : Option Change) (xs ys : List Change) → 0 < length xs
    → befores_behind found last xs ++ befores_behind found (slice_get xs (length xs - 1)) ys ≡ befores_behind found last (xs ++ ys)
cut-end found last [] ys some = absurd (omega (arith, some))
cut-end found last (c ∷ cs) ys some =
    let e : length cs ≡ length (c ∷ cs) - 1 = omega arith in
    ap (λ (o : Option Change). befores_behind found last (c ∷ cs) ++ befores_behind found o ys) (sym (last-end c cs ∙ ap (slice_get (c ∷ cs)) e)) ∙ cut-behind found last (c ∷ cs) ys
