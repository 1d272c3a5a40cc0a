use Rattle.std.proofs.Common.{◌≡◌, ◌≤◌, ◌<◌, ℕ, List, length, get_or, set, sym, ◌∙◌, ap, subst, arith, [], ◌∷◌}
use Rattle.std.specs.List.{remove}
use Rattle.visible_files.specs.declared.held.HeldGroup.{HeldGroup}
use Rattle.visible_files.specs.Held.{free_place, rest_of, without_first}
use Rattle.visible_files.proofs.Drops.{none-left, set-first, remove-first}
use Rattle.visible_files.proofs.held.drop_first.Goals as goal

none-at : (held : List HeldGroup) (at : ℕ) → at ≡ free_place held → length held ≤ at → held ≡ without_first held
none-at held at e le = none-left held (subst (λ (m : ℕ). length held ≤ m) e le)

set-at : (held : List HeldGroup) (at : ℕ) (g d : HeldGroup) → at ≡ free_place held → at < length held → rest_of (get_or held at d) ≡ g ∷ [] → set held at g ≡ without_first held
set-at held at g d e lt is =
    ap (λ m. set held m g) e ∙ set-first held g d (subst (λ (m : ℕ). m < length held) e lt) (subst (λ (m : ℕ). rest_of (get_or held m d) ≡ g ∷ []) e is)

remove-at : (held : List HeldGroup) (at : ℕ) (d : HeldGroup) → at ≡ free_place held → at < length held → rest_of (get_or held at d) ≡ [] → remove held at ≡ without_first held
remove-at held at d e lt is =
    ap (λ m. remove held m) e ∙ remove-first held d (subst (λ (m : ℕ). m < length held) e lt) (subst (λ (m : ℕ). rest_of (get_or held m d) ≡ []) e is)

pub returns-then-at-len-clause-items : goal.returns-then-at-len-clause-items
returns-then-at-len-clause-items c =
    none-at c.args.held.now.items c.place_of_free-at.result (c.place_of_free-at.ensures ∙ ap free_place c.as_slice.ensures.value) (omega (arith, c.len.ensures, c.args.held.now.ok.0, c.if-at-len.true))

pub returns-in-Some-clause-items : goal.returns-in-Some-clause-items
returns-in-Some-clause-items c =
    set-at c.args.held.now.items c.place_of_free-at.result c.in-Some.group c.index.result.now (c.place_of_free-at.ensures ∙ ap free_place c.as_slice.ensures.value) (omega (arith, c.len.ensures, c.args.held.now.ok.0, c.if-at-len.false))
    (ap rest_of (sym c.index.ensures) ∙ sym c.in-Some.ensures)

pub returns-in-None-clause-items : goal.returns-in-None-clause-items
returns-in-None-clause-items c =
    c.remove-group.ensures.items ∙
    remove-at c.args.held.now.items c.place_of_free-at.result c.index.result.now (c.place_of_free-at.ensures ∙ ap free_place c.as_slice.ensures.value) (omega (arith, c.len.ensures, c.args.held.now.ok.0, c.if-at-len.false))
    (ap rest_of (sym c.index.ensures) ∙ sym c.in-None.ensures)
