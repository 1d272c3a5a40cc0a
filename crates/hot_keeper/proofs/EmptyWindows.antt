-- Laws of windows without numbers.
use Rattle.std.proofs.Common.{◌≡◌, ℕ, zero, suc, ◌<◌, ◌≤◌, Bool, true, false, not, cond, ◌&&◌, List, [], ◌∷◌, take, Option, Some, None, IfSome, refl, sym, ap, ◌∙◌, arith, ltb-true, leb-true}
use Rattle.std.specs.Prelude.{◌==◌, nat_le, nat_lt}
use Rattle.std.specs.List.{filter}
use Rattle.std.specs.Ordering.{nat_cmp, is_lt}
use Rattle.std.specs.Cmp.Lexicographic.{slice_cmp}
use Rattle.agg_outside.specs.Rows.{Held}
use Rattle.agg_model.specs.declared.entity.Entity.{Entity}
use Rattle.agg_model.specs.declared.change.Change.{Change}
use Rattle.agg_model.specs.Entity.{entity_number}
use Rattle.agg_model.specs.Contents.{is_within, keys_of}
use Rattle.row_epochs.specs.Changes.{changes_seen}
use Rattle.hot_keeper.specs.Windows.{is_in_window, window_keys}

never_by : (from to n : ℕ) (a b : Bool) → to ≤ from → nat_le from n ≡ a → nat_lt n to ≡ b → (a && b) ≡ false
never_by from to n true true empty e f = let low : from ≤ n = leb-true _ _ e in let high : n < to = ltb-true _ _ f in absurd (omega (arith, low, high, empty))
never_by from to n true false empty e f = refl
never_by from to n false b empty e f = refl

never_within : (from to n : ℕ) → to ≤ from → (nat_le from n && nat_lt n to) ≡ false
never_within from to n empty = never_by from to n (nat_le from n) (nat_lt n to) empty refl refl

out_by : (a b c : Bool) → b ≡ false → ((a && b) && c) ≡ false
out_by true true c e = cc e
out_by true false c e = refl
out_by false b c e = refl

window_parts : (e : Entity) (first : List ℕ) (from to : ℕ) (c : Change) → is_in_window e first from to c ≡ (((entity_number c.entity == entity_number e) && (nat_le from c.tx && nat_lt c.tx to)) && not (is_lt (slice_cmp nat_cmp c.key first)))
unfolding is_in_window is_within
window_parts e first from to c = refl

never_in : (e : Entity) (first : List ℕ) (from to : ℕ) (c : Change) → to ≤ from → is_in_window e first from to c ≡ false
never_in e first from to c empty =
    window_parts e first from to c
    ∙ out_by (entity_number c.entity == entity_number e) (nat_le from c.tx && nat_lt c.tx to) (not (is_lt (slice_cmp nat_cmp c.key first))) (never_within from to c.tx empty)

no_window : (e : Entity) (first : List ℕ) (from to : ℕ) (cs : List Change) → to ≤ from → filter (is_in_window e first from to) cs ≡ []
no_window e first from to [] empty = refl
no_window e first from to (c ∷ cs) empty =
    ap (λ (t : Bool). cond t (c ∷ filter (is_in_window e first from to) cs) (filter (is_in_window e first from to) cs)) (never_in e first from to c empty)
    ∙ no_window e first from to cs empty

take_none : {A : Type 0} (limit : ℕ) (xs : List A) → xs ≡ [] → take limit xs ≡ []
take_none zero [] e = refl
take_none (suc n) [] e = refl
take_none limit (x ∷ xs) e = cc e

-- no key changed in a window without numbers
pub no_keys : (e : Entity) (first : List ℕ) (from to limit : ℕ) (cs : List Change) → to ≤ from → take limit (window_keys cs e first from to) ≡ []
no_keys e first from to limit cs empty = take_none limit (window_keys cs e first from to) (ap keys_of (no_window e first from to cs empty))

-- whatever is told
pub no_keys_told : (told : Option Held) (epoch : ℕ) (e : Entity) (first : List ℕ) (from to limit : ℕ) (found : List (List ℕ)) → found ≡ [] → to ≤ from → IfSome told (λ h. found ≡ take limit (window_keys (changes_seen epoch h.rows) e first from to))
no_keys_told None epoch e first from to limit found is empty = tt
no_keys_told (Some h) epoch e first from to limit found is empty = is ∙ sym (no_keys e first from to limit (changes_seen epoch h.rows) empty)
