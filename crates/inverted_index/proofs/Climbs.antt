-- Numbers that climb, as the test says it and as std's words do.
use Rattle.std.proofs.Common.{◌≡◌, ℕ, zero, suc, ◌+◌, ◌<◌, ◌≤◌, Bool, true, false, nat_le, nat_lt, List, [], ◌∷◌, length, get_or, refl, sym, ap, ◌∙◌, arith, subst, ltb-true, lt-ltb, leb-true, inl, inr}
use Rattle.std.specs.Prelude.{◌&&◌, All}
use Rattle.std.specs.Cmp.{first_so, second_so}
use Rattle.std.specs.List.Sorted.{IsStrictlyIncreasing, IsNonDecreasing}
use Rattle.std.proofs.lemmas.Bool.{and_from, le-leb, cases_lt}
use Rattle.std.proofs.lemmas.List.Elements.{All-nil, All-cons, All-head, All-tail}
use Rattle.std.proofs.lemmas.List.Kept.{AllPairs-from_increasing}
use Rattle.inverted_index.specs.Climbing.{climbs}

abbrev pub IsBetween : ℕ → ℕ → ℕ → Type 0
IsBetween from end n = (from ≤ n) × (n < end)

pub climbs-between : (from end : ℕ) (ns : List ℕ) → climbs from end ns ≡ true → All (IsBetween from end) ns
climbs-between from end [] e = All-nil (IsBetween from end)
climbs-between from end (n ∷ ns) e =
    let here = first_so (nat_le from n && nat_lt n end) (climbs (n + 1) end ns) e in
    let low : from ≤ n = leb-true from n (first_so (nat_le from n) (nat_lt n end) here) in
    let high : n < end = ltb-true n end (second_so (nat_le from n) (nat_lt n end) here) in
    let rest = climbs-between (n + 1) end ns (second_so (nat_le from n && nat_lt n end) (climbs (n + 1) end ns) e) in
    All-cons (IsBetween from end) n ns (low, high) (λ i z below. let at = rest i z below in (omega (arith, at.0, low), at.1))

pub increasing-cons : (n : ℕ) (ns : List ℕ) → (0 < length ns → n < get_or ns 0 0) → IsStrictlyIncreasing ns → IsStrictlyIncreasing (n ∷ ns)
increasing-cons n ns first up zero within = first (omega arith)
increasing-cons n ns first up (suc k) within =
    let more : suc (k + 1) ≡ suc k + 1 = omega arith in
    subst (λ j. get_or ns k 0 < get_or (n ∷ ns) j 0) more (up k (omega arith))

increasing-tail : (n : ℕ) (ns : List ℕ) → IsStrictlyIncreasing (n ∷ ns) → IsStrictlyIncreasing ns
increasing-tail n ns up k within =
    let more : suc k + 1 ≡ suc (k + 1) = omega arith in
    subst (λ j. get_or ns k 0 < get_or (n ∷ ns) j 0) more (up (suc k) (omega arith))

pub climbs-increasing : (from end : ℕ) (ns : List ℕ) → climbs from end ns ≡ true → IsStrictlyIncreasing ns
climbs-increasing from end [] e = λ k within. absurd (omega arith)
climbs-increasing from end (n ∷ ns) e =
    let more = second_so (nat_le from n && nat_lt n end) (climbs (n + 1) end ns) e in
    increasing-cons n ns (λ some. let at = climbs-between (n + 1) end ns more 0 0 some in omega (arith, at.0)) (climbs-increasing (n + 1) end ns more)

pub climbs-from : (from end : ℕ) (ns : List ℕ) → All (IsBetween from end) ns → IsStrictlyIncreasing ns → climbs from end ns ≡ true
climbs-from from end [] all up = refl
climbs-from from end (n ∷ ns) all up =
    let here = All-head (IsBetween from end) n ns all in
    let tail = All-tail (IsBetween from end) n ns all in
    let pairs = AllPairs-from_increasing (n ∷ ns) up in
    and_from (nat_le from n && nat_lt n end) (climbs (n + 1) end ns) (and_from (nat_le from n) (nat_lt n end) (le-leb from n here.0) (lt-ltb n end here.1))
    (climbs-from (n + 1) end ns (λ i z below. let above : n < get_or ns i z = pairs 0 (suc i) z (omega arith) (omega arith) in (omega (arith, above), (tail i z below).1)) (increasing-tail n ns up))

-- what ascends strictly doesn't descend
pub nondecreasing : (ns : List ℕ) → IsStrictlyIncreasing ns → IsNonDecreasing ns
nondecreasing ns up i j d le within =
    elim (cases_lt i j) [
      | inl lt ↦ let below : get_or ns i d < get_or ns j d = AllPairs-from_increasing ns up i j d lt within in omega (arith, below)
      | inr ge ↦ let same : i ≡ j = omega arith in omega (arith, ap (λ (k : ℕ). get_or ns k d) same)
    ]
