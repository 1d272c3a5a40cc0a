-- The order of befores: by key, and then by number.
use Rattle.std.proofs.Common.{◌≡◌, ℕ, ◌<◌, List, [], length, get_or, sym, ◌∙◌, inl, inr}
use Rattle.std.specs.Prelude.{AllPairs}
use Rattle.std.specs.Cmp.{IsTotalOrder, then_total, on_total, nat_cmp_total, tied_itself}
use Rattle.std.specs.Cmp.Lexicographic.{slice_cmp, nat_list_cmp_total}
use Rattle.std.specs.Ordering.{nat_cmp, ordering_then}
use Rattle.std.specs.declared.cmp.Ordering.{Ordering}
use Rattle.std.specs.declared.cmp.Ordering.TheVariants.{Less, Equal}
use Rattle.std.proofs.lemmas.Bool.{cases_order}
use Rattle.agg_model.specs.declared.contents.Before.{Before}
use Rattle.history_core.specs.Befores.{IsEarlier}

-- two keys at numbers
abbrev stand : List ℕ → ℕ → List ℕ → ℕ → Ordering
stand key tx other number = ordering_then (slice_cmp nat_cmp key other) (nat_cmp tx number)

before_order : IsTotalOrder (λ (b c : Before). stand b.key b.tx c.key c.tx)
before_order =
    then_total (on_total (λ (b : Before). b.key) nat_list_cmp_total) (on_total (λ (b : Before). b.tx) nat_cmp_total)

pub earlier_chain : (b c d : Before) → IsEarlier b c → IsEarlier c d → IsEarlier b d
earlier_chain b c d first second = before_order.trans b c d first second

no_less : {r : Ordering} → r ≡ Equal → r ≡ Less → ⊥
no_less e f = cc

-- no key at a number is before itself
pub not_itself : (key other : List ℕ) (tx number : ℕ) → key ≡ other → tx ≡ number → stand key tx other number ≡ Less → ⊥
not_itself key other tx number keys numbers less =
    let b : Before = record { key = key; tx = tx; value = [] } in
    let same : stand key tx key tx ≡ stand key tx other number = λ i. stand key tx (keys i) (numbers i) in
    no_less (tied_itself before_order b) (same ∙ less)

-- those at two places are different
pub one_place : (bs : List Before) (d : Before) → AllPairs IsEarlier bs → (p q : ℕ) → p < length bs → q < length bs
    → (get_or bs p d).key ≡ (get_or bs q d).key → (get_or bs p d).tx ≡ (get_or bs q d).tx → p ≡ q
one_place bs d up p q below within keys numbers =
    elim (cases_order p q) [
      | inl same ↦ same
      | inr apart ↦
          elim apart [
            | inl first ↦ absurd (not_itself _ _ _ _ keys numbers (up p q d first within))
            | inr second ↦ absurd (not_itself _ _ _ _ (sym keys) (sym numbers) (up q p d second below))
          ]
    ]
