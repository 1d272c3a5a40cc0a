-- Keys that ascend one by one ascend, and differ.
use Rattle.std.proofs.Common.{◌≡◌, ℕ, zero, suc, ◌+◌, ◌-◌, ◌*◌, ◌<◌, ◌≤◌, List, [], length, get_or, Option, Some, None, refl, sym, ap, subst, ◌∙◌, arith, inl, inr, ltb}
use Rattle.std.specs.Prelude.{IfSome, IfNone, IsTrue, ◌↔◌, Bool, true, false}
use Rattle.std.specs.Ordering.{nat_cmp, ordering_reverse}
use Rattle.std.specs.declared.cmp.Ordering.{Ordering}
use Rattle.std.specs.declared.cmp.Ordering.TheVariants.{Less, Greater}
use Rattle.std.specs.Cmp.Lexicographic.{slice_cmp, nat_list_cmp_total}
use Rattle.std.proofs.lemmas.Bool.{cases_lt, cases_order, ltb-false, lt-ltb, le-ltb}
use Rattle.word_file.specs.Spelling.{offset_at, offset_of, IsPlace}
use Rattle.word_file.proofs.Places.{placed}
use Rattle.word_file.specs.Paired.{IsPaired, key_count, key_at, IsBelow, KeysAscend, KeysDiffer}
use Rattle.word_file.proofs.Gathers.{none_past}

-- the keys up to this place ascend one by one
pub record IsAscending (words : List (List ℕ)) (last : Option ℕ) (place : ℕ) : Type 0 where
  pub at_is : last ≡ offset_of words (2 * place)
  pub up : (p : ℕ) → p < place → p + 1 < key_count words → IsBelow (key_at words p) (key_at words (p + 1))

pub begins : (words : List (List ℕ)) (last : Option ℕ) → last ≡ offset_of words 0 → IsAscending words last 0
begins words last is = record { at_is = is; up = λ p lt. absurd (omega arith) }

pub here : (words : List (List ℕ)) (last : Option ℕ) (key place : ℕ) → IsAscending words last place → last ≡ Some key → IsPlace words key (2 * place)
here words last key place a e = placed (Some key) words (2 * place) (sym e ∙ a.at_is)

pub goes_on : (words : List (List ℕ)) (last : Option ℕ) (key place : ℕ) (next : Option ℕ) → IsAscending words last place → last ≡ Some key → ((i : ℕ) → IsPlace words key i → next ≡ offset_of words (i + 2))
    → IfSome next (λ after. (i j : ℕ) → IsPlace words key i → IsPlace words after j → IsBelow (get_or words i []) (get_or words j [])) → IsAscending words next (place + 1)
goes_on words last key place next a e after below =
    let at = here words last key place a e in
    let twice : 2 * place + 2 ≡ 2 * (place + 1) = omega arith in
    let next-is = after (2 * place) at ∙ ap (offset_of words) twice in
    record {
      at_is = next-is;
      up = λ p lt more.
          elim (cases_lt p place) [
            | inl before ↦ a.up p before more
            | inr ge ↦
                let same : place ≡ p = omega arith in
                let inside : 2 * (place + 1) < length words = omega arith in
                let there : next ≡ Some (offset_at words (2 * (place + 1))) = next-is ∙ rw (lt-ltb (2 * (place + 1)) (length words) inside) refl in
                let known = subst (λ (o : Option ℕ). IfSome o (λ after. (i j : ℕ) → IsPlace words key i → IsPlace words after j → IsBelow (get_or words i []) (get_or words j []))) there below in
                subst (λ (r : ℕ). IsBelow (key_at words r) (key_at words (r + 1))) same (known (2 * place) (2 * (place + 1)) at (record { within = inside; offset = refl }))
          ];
    }

chained : (words : List (List ℕ)) → ((p : ℕ) → p + 1 < key_count words → IsBelow (key_at words p) (key_at words (p + 1))) → (p d : ℕ) → p + suc d < key_count words → IsBelow (key_at words p) (key_at words (p + suc d))
chained words up p zero lt = let one : p + 1 ≡ p + suc zero = omega arith in subst (λ (q : ℕ). IsBelow (key_at words p) (key_at words q)) one (up p (omega arith))
chained words up p (suc d) lt =
    let next : p + suc d + 1 ≡ p + suc (suc d) = omega arith in
    let far = chained words up p d (omega arith) in
    let last = subst (λ (q : ℕ). IsBelow (key_at words (p + suc d)) (key_at words q)) next (up (p + suc d) (omega arith)) in
    nat_list_cmp_total.trans (key_at words p) (key_at words (p + suc d)) (key_at words (p + suc (suc d))) far last

pub all_ascend : (words : List (List ℕ)) (last : Option ℕ) (place : ℕ) → IsPaired words → IsAscending words last place → last ≡ None → KeysAscend words
all_ascend words last place paired a e p q lt within =
    let ended = none_past (ltb (2 * place) (length words)) (offset_at words (2 * place)) (sym e ∙ a.at_is) in
    let all : key_count words ≤ place = omega (arith, ltb-false _ _ ended, paired) in
    let d = q - p - 1 in
    let q-is : p + suc d ≡ q = omega arith in
    subst (λ (r : ℕ). IsBelow (key_at words p) (key_at words r)) q-is (chained words (λ r more. a.up r (omega arith) more) p d (omega arith))

-- ---- a key that isn't below the next

-- how a key compares with the next, where there is one
abbrev pub IsSaid : List (List ℕ) → ℕ → Option ℕ → Bool → Type 0
IsSaid words key next less =
    IfSome next (λ after. (i j : ℕ) → IsPlace words key i → IsPlace words after j → IsTrue less ↔ IsBelow (get_or words i []) (get_or words j []))

pub said_below : (words : List (List ℕ)) (key : ℕ) (next : Option ℕ) (less : Bool) → IsTrue less → IsSaid words key next less
    → IfSome next (λ after. (i j : ℕ) → IsPlace words key i → IsPlace words after j → IsBelow (get_or words i []) (get_or words j []))
said_below words key None less t said = tt
said_below words key (Some after) less t said = λ i j p q. (said i j p q).0 t

pub untrue : false ≡ true → ⊥
untrue e = cc

-- the last key has no next, and is never said not to be below it
pub not_below : (words : List (List ℕ)) (last : Option ℕ) (key place : ℕ) (next : Option ℕ) (less : Bool) → IsPaired words → IsAscending words last place → last ≡ Some key
    → ((i : ℕ) → IsPlace words key i → next ≡ offset_of words (i + 2)) → IsSaid words key next less → IfNone next (IsTrue less) → less ≡ false → KeysAscend words → ⊥
not_below words last key place next less paired a e after said none is up =
    let not : IsTrue less → ⊥ = λ t. untrue (sym is ∙ t) in
    let at = here words last key place a e in
    let twice : 2 * place + 2 ≡ 2 * (place + 1) = omega arith in
    let next-is : next ≡ offset_of words (2 * (place + 1)) = after (2 * place) at ∙ ap (offset_of words) twice in
    elim (cases_lt (2 * (place + 1)) (length words)) [
      | inl inside ↦
          let there : next ≡ Some (offset_at words (2 * (place + 1))) = next-is ∙ rw (lt-ltb (2 * (place + 1)) (length words) inside) refl in
          let known = subst (λ (o : Option ℕ). IsSaid words key o less) there said in
          let below = up place (place + 1) (omega arith) (omega (arith, paired)) in
          not ((known (2 * place) (2 * (place + 1)) at (record { within = inside; offset = refl })).1 below)
      | inr past ↦
          let nothing : next ≡ None = next-is ∙ rw (le-ltb (2 * (place + 1)) (length words) past) refl in
          not (subst (λ (o : Option ℕ). IfNone o (IsTrue less)) nothing none)
    ]

-- ---- keys that ascend differ

flipped : (a b : List ℕ) (r : Ordering) → slice_cmp nat_cmp a b ≡ r → slice_cmp nat_cmp b a ≡ ordering_reverse r
flipped a b r is = nat_list_cmp_total.antisymm b a ∙ ap ordering_reverse is

pub not_equal : (k q : List ℕ) (r : Ordering) → slice_cmp nat_cmp k q ≡ r → k ≡ q → slice_cmp nat_cmp q q ≡ r
not_equal k q r is same = ap (λ (x : List ℕ). slice_cmp nat_cmp x q) (sym same) ∙ is

apart : Less ≡ Greater → ⊥
apart e = cc

pub self_less : (q : List ℕ) → slice_cmp nat_cmp q q ≡ Less → ⊥
self_less q is = let other : slice_cmp nat_cmp q q ≡ Greater = flipped q q Less is in apart (sym is ∙ other)

pub self_greater : (q : List ℕ) → slice_cmp nat_cmp q q ≡ Greater → ⊥
self_greater q is = let other : slice_cmp nat_cmp q q ≡ Less = flipped q q Greater is in apart (sym other ∙ is)

pub ascending_differ : (words : List (List ℕ)) → KeysAscend words → KeysDiffer words
ascending_differ words up p q lt less same =
    elim (cases_order p q) [
      | inl equal ↦ equal
      | inr (inl below) ↦ absurd (self_less (key_at words q) (not_equal (key_at words p) (key_at words q) Less (up p q below less) same))
      | inr (inr above) ↦ absurd (self_less (key_at words p) (not_equal (key_at words q) (key_at words p) Less (up q p above lt) (sym same)))
    ]
