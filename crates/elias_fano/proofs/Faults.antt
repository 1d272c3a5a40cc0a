-- What is wrong first.
use Rattle.std.proofs.Common.{◌≡◌, ℕ, zero, suc, ◌+◌, ◌-◌, ◌<◌, ◌≤◌, Bool, true, false, List, [], ◌∷◌, ◌++◌, length, take, drop, get_or, replicate, Option, Some, None, cond, nat_lt, if◌then◌else◌, refl, sym, ap, ◌∙◌, arith, inl, inr}
use Rattle.std.specs.Option.{option_or}
use Rattle.std.specs.List.{position_from}
use Rattle.std.specs.List.Sorted.{IsNonDecreasing}
use Rattle.std.proofs.lemmas.Bool.{cases_lt, le-ltb, lt-ltb}
use Rattle.std.proofs.lemmas.List.{drop-take, drop_more, drop_all, take_more, get_or_push, length_push}
use Rattle.bit_store.specs.Bits.{ones_of, IsOneAt}
use Rattle.bit_store.proofs.Numbers.{ones_of-split}
use Rattle.bit_store.proofs.Codes.{run, all_zeros}
use Rattle.elias_fano.specs.Spelling.{last_of}
use Rattle.elias_fano.specs.Reading.{first_one, first_descent}

abbrev set_bit : Bool → Bool
set_bit bit = bit

position-run : (i z : ℕ) (rest : List Bool) → position_from set_bit i (replicate z false ++ true ∷ rest) ≡ Some (i + z)
position-run i zero rest = ap (λ n. Some n) (omega arith)
position-run i (suc z) rest = position-run (i + 1) z rest ∙ ap (λ n. Some n) (omega arith)

pub position-none : (i z : ℕ) → position_from set_bit i (replicate z false) ≡ None
position-none i zero = refl
position-none i (suc z) = position-none (i + 1) z

part : (bits : List Bool) (from to : ℕ) → from ≤ to → drop from (take to bits) ≡ take (to - from) (drop from bits)
part bits from to le =
    let e : to ≡ from + (to - from) = omega arith in
    ap (λ n. drop from (take n bits)) e ∙ drop-take from (to - from) bits

pub first-some : (bits : List Bool) (from to p : ℕ) → from ≤ to → from ≤ p → IsOneAt (take to bits) p → ones_of (take p (take to bits)) ≡ ones_of (take from (take to bits)) → first_one bits from to ≡ Some p
first-some bits from to p le far is none =
    let whole : from + (p - from) ≡ p = omega arith in
    ap (position_from set_bit from) (sym (part bits from to le) ∙ run (take to bits) from p far is none) ∙ position-run from (p - from) (drop (p + 1) (take to bits)) ∙ ap (λ n. Some n) whole

pub first-none : (bits : List Bool) (from to : ℕ) → from ≤ to → ones_of (take to bits) ≡ ones_of (take from (take to bits)) → first_one bits from to ≡ None
first-none bits from to le none =
    let rest = drop from (take to bits) in
    let zeros : rest ≡ replicate (length rest) false = all_zeros rest (omega (arith, ones_of-split from (take to bits))) in
    ap (position_from set_bit from) (sym (part bits from to le) ∙ zeros) ∙ position-none from (length rest)

-- ---- items that do not descend

pub Ascends : ℕ → List ℕ → Type 0
Ascends before [] = Unit {0}
Ascends before (v ∷ items) = (before ≤ v) × Ascends v items

pub ascends-none : (before i : ℕ) (items : List ℕ) → first_descent before i items ≡ None → Ascends before items
unfolding Ascends first_descent
ascends-none before i [] e = tt
ascends-none before i (v ∷ items) e =
    elim (cases_lt v before) [
      | inl lt ↦ let bad : Some i ≡ None = rw (lt-ltb v before lt) at e in absurd cc
      | inr le ↦ (le, ascends-none v (i + 1) items (rw (le-ltb v before le) at e))
    ]

pub none-ascends : (before i : ℕ) (items : List ℕ) → Ascends before items → first_descent before i items ≡ None
unfolding Ascends first_descent
none-ascends before i [] up = refl
none-ascends before i (v ∷ items) up = rw (le-ltb v before up.0) (none-ascends v (i + 1) items up.1)

above_first : (before : ℕ) (items : List ℕ) (j d : ℕ) → Ascends before items → j < length items → before ≤ get_or items j d
unfolding Ascends
above_first before [] j d up lt = absurd (omega arith)
above_first before (v ∷ items) zero d up lt = up.0
above_first before (v ∷ items) (suc j) d up lt = omega (arith, up.0, above_first v items j d up.1 (omega arith))

pub ascending : (before : ℕ) (items : List ℕ) → Ascends before items → IsNonDecreasing items
unfolding Ascends
ascending before [] up i j d le lt = absurd (omega arith)
ascending before (v ∷ items) up zero zero d le lt = omega arith
ascending before (v ∷ items) up zero (suc j) d le lt = above_first v items j d up.1 (omega arith)
ascending before (v ∷ items) up (suc i) zero d le lt = absurd (omega arith)
ascending before (v ∷ items) up (suc i) (suc j) d le lt = ascending v items up.1 i j d (omega arith) (omega arith)

pub ascends-from : (before : ℕ) (items : List ℕ) → IsNonDecreasing items → ((i : ℕ) → i < length items → before ≤ get_or items i 0) → Ascends before items
unfolding Ascends
ascends-from before [] up low = tt
ascends-from before (v ∷ items) up low =
    (low 0 (omega arith), ascends-from v items (λ i j d le lt. up (suc i) (suc j) d (omega arith) (omega arith)) (λ i lt. up 0 (suc i) 0 (omega arith) (omega arith)))

-- one item on
pub descent-more : (items : List ℕ) (before item i : ℕ) (all : Option ℕ) → i < length items → item ≡ get_or items i 0 → before ≤ item → first_descent before i (drop i items) ≡ all → first_descent item (i + 1) (drop (i + 1) items) ≡ all
unfolding first_descent
descent-more items before item i all lt is le so_far =
    let e : drop i items ≡ item ∷ drop (i + 1) items = drop_more items i 0 lt ∙ ap (λ x. x ∷ drop (i + 1) items) (sym is) in
    let same : first_descent before i (drop i items) ≡ first_descent item (i + 1) (drop (i + 1) items) = rw (e, le-ltb item before le) refl in
    sym same ∙ so_far

pub last-more : (items : List ℕ) (i : ℕ) → i < length items → last_of (take (i + 1) items) ≡ get_or items i 0
last-more items i lt =
    let front = take i items in
    let v : ℕ = get_or items i 0 in
    let more : take (i + 1) items ≡ front ++ v ∷ [] = take_more items i 0 lt in
    let at : length front ≡ length (front ++ v ∷ []) - 1 = omega (arith, length_push front v) in
    ap last_of more ∙ get_or_push front v 0 (length (front ++ v ∷ []) - 1) at

-- nothing is left
pub ended : (items : List ℕ) (before i : ℕ) → length items ≤ i → first_descent before i (drop i items) ≡ first_descent 0 0 items → first_descent 0 0 items ≡ None
unfolding first_descent
ended items before i le so_far =
    let none : first_descent before i (drop i items) ≡ None = ap (first_descent before i) (drop_all i items le) in
    sym so_far ∙ none

-- one item on, with the first fall that is known so far
pub fall-more : (items : List ℕ) (before item i : ℕ) (known all : Option ℕ) → i < length items → item ≡ get_or items i 0 → option_or known (first_descent before i (drop i items)) ≡ all
    → option_or (option_or known (if nat_lt item before then Some i else None)) (first_descent item (i + 1) (drop (i + 1) items)) ≡ all
unfolding first_descent
fall-more items before item i (Some x) all lt is so_far = so_far
fall-more items before item i None all lt is so_far =
    let e : drop i items ≡ item ∷ drop (i + 1) items = drop_more items i 0 lt ∙ ap (λ x. x ∷ drop (i + 1) items) (sym is) in
    let step : first_descent before i (drop i items) ≡ option_or (if nat_lt item before then Some i else None) (first_descent item (i + 1) (drop (i + 1) items)) = ap (first_descent before i) e ∙ by_test (nat_lt item before) i (first_descent item (i + 1) (drop (i + 1) items)) in
    sym step ∙ so_far
  where
    by_test : (t : Bool) (i : ℕ) (rest : Option ℕ) → cond t (Some i) rest ≡ option_or (cond t (Some i) None) rest
    by_test true i rest = refl
    by_test false i rest = refl

-- nothing is left, and the fall that is known is the first
pub fall-ended : (items : List ℕ) (before i : ℕ) (known all : Option ℕ) → length items ≤ i → option_or known (first_descent before i (drop i items)) ≡ all → known ≡ all
unfolding first_descent
fall-ended items before i (Some x) all le so_far = so_far
fall-ended items before i None all le so_far =
    let none : first_descent before i (drop i items) ≡ None = ap (first_descent before i) (drop_all i items le) in
    sym none ∙ so_far
