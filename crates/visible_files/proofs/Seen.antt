-- Whether a name is visible or pinned, by the group at its place.
use Rattle.std.proofs.Common.{◌≡◌, ℕ, ◌≤◌, ◌<◌, Bool, true, false, cond, ◌&&◌, ◌||◌, nat_lt, List, [], ◌∷◌, length, get_or, is_none, refl, sym, ◌∙◌, ap, arith}
use Rattle.std.proofs.lemmas.Bool.{false≢true, ltb-true}
use Rattle.merge_ranges.specs.Name.{has_kind}
use Rattle.merge_ranges.specs.declared.name.FileName.{FileName}
use Rattle.visible_files.specs.declared.held.HeldGroup.{HeldGroup}
use Rattle.visible_files.specs.Ids.{same_id, place, Ascends, IsLowerBound}
use Rattle.visible_files.specs.Held.{id_of_name, is_name_of, held_places, pins_at, count_of, is_shown, is_shown_name}
use Rattle.visible_files.proofs.Equalities.{second_of, both}
use Rattle.visible_files.proofs.Keyed.{test-at, test-past}
use Rattle.visible_files.proofs.Lookups.{is_name_of-id, count_of-at, there}
use Rattle.visible_files.proofs.Pins.{is_shown_name-kind}

and-false : (b : Bool) → (b && false) ≡ false
and-false true = refl
and-false false = refl

and-true : (b : Bool) → (b && true) ≡ b
and-true true = refl
and-true false = refl

count-no_kind : (held : List HeldGroup) (n : FileName) → has_kind n.entity n.kind ≡ false → count_of held n ≡ 0
count-no_kind [] n h = refl
count-no_kind (x ∷ xs) n h =
    let e : pins_at n x ≡ 0 = ap (λ t. cond t x.pins 0) (ap (λ b. same_id x.id (id_of_name n) && b) h ∙ and-false (same_id x.id (id_of_name n))) in
    let r = count-no_kind xs n h in
    omega (arith, e, r)

pub seen-no_kind : (held : List HeldGroup) (n : FileName) → has_kind n.entity n.kind ≡ false → false ≡ (is_shown_name held n || nat_lt 0 (count_of held n))
seen-no_kind held n h =
    sym ((λ i. (is_shown_name-kind held n ∙ ap (λ b. is_shown held (id_of_name n) && b) h ∙ and-false (is_shown held (id_of_name n))) i || nat_lt 0 (count-no_kind held n h i)))

key : HeldGroup → ℕ
key h = place h.id

only : (n : FileName) (h : HeldGroup) → (is_none h.retired && is_name_of n h.id) ≡ true → place h.id ≡ place (id_of_name n)
only n h is = ap place (is_name_of-id n h.id (second_of (is_none h.retired) (is_name_of n h.id) is))

uncounted : (held : List HeldGroup) (n : FileName) (t : Bool) → nat_lt 0 (count_of held n) ≡ t → (1 ≤ count_of held n → ⊥) → t ≡ false
uncounted held n true e none = absurd (none (let h : 0 < count_of held n = ltb-true 0 (count_of held n) e in omega arith))
uncounted held n false e none = refl

module _ (held : List HeldGroup) (n : FileName) (at : ℕ) (up : Ascends 0 (held_places held)) (b : IsLowerBound (λ (h : HeldGroup). place h.id) held (place (id_of_name n)) at) where
  pub seen-past : length held ≤ at → false ≡ (is_shown_name held n || nat_lt 0 (count_of held n))
  seen-past le =
      sym (λ i. test-past (λ (h : HeldGroup). place h.id) (place (id_of_name n)) (λ (h : HeldGroup). is_none h.retired && is_name_of n h.id) (only n) held at b le i
      || uncounted held n (nat_lt 0 (count_of held n)) refl (λ some. let r = there 0 held n at up b some in let w : at < length held = r.within in absurd (omega arith)) i)

  shown-at : (d : HeldGroup) → at < length held → is_shown_name held n ≡ (is_none (get_or held at d).retired && is_name_of n (get_or held at d).id)
  shown-at d lt = test-at (λ (h : HeldGroup). place h.id) (place (id_of_name n)) (λ (h : HeldGroup). is_none h.retired && is_name_of n h.id) (only n) 0 held at d up b lt

  pub seen-other : (d : HeldGroup) → at < length held → same_id (get_or held at d).id (id_of_name n) ≡ false → false ≡ (is_shown_name held n || nat_lt 0 (count_of held n))
  seen-other d lt other =
      let none : is_name_of n (get_or held at d).id ≡ false = ap (λ t. t && has_kind n.entity n.kind) other in
      sym (λ i. (shown-at d lt ∙ ap (λ t. is_none (get_or held at d).retired && t) none ∙ and-false (is_none (get_or held at d).retired)) i
      || uncounted held n (nat_lt 0 (count_of held n)) refl (λ some. let r = there 0 held n at up b some in false≢true (sym none ∙ r.is d)) i)

  pub seen-here : (d : HeldGroup) → at < length held → same_id (get_or held at d).id (id_of_name n) ≡ true → has_kind n.entity n.kind ≡ true
      → (is_none (get_or held at d).retired || nat_lt 0 (get_or held at d).pins) ≡ (is_shown_name held n || nat_lt 0 (count_of held n))
  seen-here d lt same kind =
      let is : is_name_of n (get_or held at d).id ≡ true = both (same_id (get_or held at d).id (id_of_name n)) (has_kind n.entity n.kind) same kind in
      sym (λ i. (shown-at d lt ∙ ap (λ t. is_none (get_or held at d).retired && t) is ∙ and-true (is_none (get_or held at d).retired)) i
      || nat_lt 0 (count_of-at 0 held n at d up lt is i))
