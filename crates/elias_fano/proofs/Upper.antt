-- The upper part of a text.
use Rattle.std.proofs.Common.{◌≡◌, ℕ, zero, suc, ◌+◌, ◌-◌, ◌/◌, ◌^◌, ◌<◌, ◌≤◌, Bool, true, false, eqb, List, [], ◌∷◌, ◌++◌, length, get_or, replicate, refl, sym, ap, ◌∙◌, arith, inl, inr}
use Rattle.std.specs.List.{list_any, enumerate_from}
use Rattle.std.specs.List.Sorted.{IsNonDecreasing}
use Rattle.std.proofs.lemmas.Nat.{le-div, pow_pos, shr_split}
use Rattle.std.proofs.lemmas.Bool.{cases_order, ne_eqb}
use Rattle.std.proofs.Common.{eq-eqb}
use Rattle.std.proofs.lemmas.List.{length-append, length-replicate, get_or-replicate, get_or_append_left, get_or-append_right, append_assoc}
use Rattle.std.proofs.lemmas.List.FromFn.{fill_by_all}
use Rattle.bit_store.specs.Bits.{ones_of, low_bits}
use Rattle.bit_store.proofs.Numbers.{ones_of-append, ones_of-replicate}
use Rattle.elias_fano.specs.Spelling.{upper_bit, upper_bits, upper_len, last_of}
use Rattle.elias_fano.specs.Reading.{place_of_one}

-- the upper part, by the steps from one item to the next
pub walk : ℕ → ℕ → List ℕ → List Bool
walk l high [] = []
walk l high (v ∷ items) = replicate (v / 2 ^ l - high) false ++ true ∷ walk l (v / 2 ^ l) items

-- the upper parts of the items do not fall
pub HighsFrom : ℕ → ℕ → List ℕ → Type 0
HighsFrom l high [] = Unit {0}
HighsFrom l high (v ∷ items) = (high ≤ v / 2 ^ l) × HighsFrom l (v / 2 ^ l) items

-- the upper part of the last item
pub top : ℕ → ℕ → List ℕ → ℕ
top l high [] = high
top l high (v ∷ items) = top l (v / 2 ^ l) items

pub top-last : (l high v : ℕ) (items : List ℕ) → top l high (v ∷ items) ≡ get_or (v ∷ items) (length items) 0 / 2 ^ l
unfolding top
top-last l high v [] = refl
top-last l high v (w ∷ items) = top-last l (v / 2 ^ l) w items

pub length-walk : (l high : ℕ) (items : List ℕ) → HighsFrom l high items → length (walk l high items) + high ≡ top l high items + length items
unfolding walk HighsFrom top
length-walk l high [] up = omega arith
length-walk l high (v ∷ items) up =
    let g : ℕ = v / 2 ^ l - high in
    omega (arith, length-append (replicate g false) (true ∷ walk l (v / 2 ^ l) items), length-replicate {A = Bool} g false, length-walk l (v / 2 ^ l) items up.1, up.0)

-- whether an item's 1 stands at a place
abbrev one_at : ℕ → ℕ → ℕ → List ℕ → Bool
one_at l j i items = list_any (λ item. eqb (item.1 / 2 ^ l + item.0) j) (enumerate_from i items)

none_below : (l high i j : ℕ) (items : List ℕ) → HighsFrom l high items → j < high + i → one_at l j i items ≡ false
unfolding HighsFrom
none_below l high i j [] up lt = refl
none_below l high i j (v ∷ items) up lt =
    rw (ne_eqb (v / 2 ^ l + i) j (λ e. omega (arith, up.0)), none_below l (v / 2 ^ l) (i + 1) j items up.1 (omega (arith, up.0))) refl

get_or-walk : (l high i k : ℕ) (items : List ℕ) → HighsFrom l high items → get_or (walk l high items) k false ≡ one_at l (high + i + k) i items
unfolding walk HighsFrom
get_or-walk l high i k [] up = refl
get_or-walk l high i k (v ∷ items) up =
    let h : ℕ = v / 2 ^ l in
    let g : ℕ = h - high in
    let zeros = replicate g false in
    let rest = walk l h items in
    let j : ℕ = high + i + k in
    let size : length zeros ≡ g = length-replicate {A = Bool} g false in
    elim (cases_order k g) [
      | inl e ↦
          let none_left : k - g ≡ 0 = omega arith in
          let left : get_or (zeros ++ true ∷ rest) k false ≡ true = get_or-append_right zeros (true ∷ rest) g k false size (omega arith) ∙ ap (λ n. get_or (true ∷ rest) n false) none_left in
          left ∙ sym (rw (eq-eqb (h + i) j (omega (arith, up.0))) refl)
      | inr other ↦ elim other [
        | inl lt ↦
            let left : get_or (zeros ++ true ∷ rest) k false ≡ false = get_or_append_left zeros (true ∷ rest) false k (omega (arith, size)) ∙ get_or-replicate g k false false lt in
            left ∙ sym (rw (ne_eqb (h + i) j (λ e. omega (arith, up.0)), none_below l h (i + 1) j items up.1 (omega (arith, up.0))) refl)
        | inr gt ↦
            let m : ℕ = k - g - 1 in
            let next : k - g ≡ suc m = omega arith in
            let same : j ≡ h + (i + 1) + m = omega (arith, up.0) in
            let left : get_or (zeros ++ true ∷ rest) k false ≡ get_or rest m false = get_or-append_right zeros (true ∷ rest) g k false size (omega arith) ∙ ap (λ n. get_or (true ∷ rest) n false) next in
            left ∙ get_or-walk l h (i + 1) m items up.1 ∙ ap (λ n. one_at l n (i + 1) items) (sym same) ∙ sym (rw (ne_eqb (h + i) j (λ e. omega (arith, up.0))) refl)
      ]
    ]

-- the steps are the upper part
pub walk-upper : (l v : ℕ) (items : List ℕ) → HighsFrom l 0 (v ∷ items) → walk l 0 (v ∷ items) ≡ upper_bits l (v ∷ items)
unfolding upper_bits
walk-upper l v items up =
    let size = upper_len l (length (v ∷ items)) (last_of (v ∷ items)) in
    let at_end : length (v ∷ items) - 1 ≡ length items = omega arith in
    let ends : last_of (v ∷ items) ≡ get_or (v ∷ items) (length items) 0 = ap (λ n. get_or (v ∷ items) n 0) at_end in
    let len : length (walk l 0 (v ∷ items)) ≡ size = omega (arith, length-walk l 0 (v ∷ items) up, top-last l 0 v items, ap (λ x. x / 2 ^ l) ends) in
    fill_by_all (upper_bit l (v ∷ items)) (walk l 0 (v ∷ items)) size false len (λ k lt. let same : 0 + 0 + k ≡ k = omega arith in get_or-walk l 0 0 k (v ∷ items) up ∙ ap (λ n. one_at l n 0 (v ∷ items)) same)

-- ---- the ones

pub ones_of-walk : (l high : ℕ) (items : List ℕ) → ones_of (walk l high items) ≡ length items
unfolding walk ones_of
ones_of-walk l high [] = refl
ones_of-walk l high (v ∷ items) =
    let g : ℕ = v / 2 ^ l - high in
    ones_of-append (replicate g false) (true ∷ walk l (v / 2 ^ l) items) ∙ omega (arith, ones_of-replicate g, ones_of-walk l (v / 2 ^ l) items)

place-run : (g : ℕ) (bits : List Bool) (k : ℕ) → place_of_one (replicate g false ++ bits) k ≡ g + place_of_one bits k
unfolding place_of_one
place-run zero bits k = omega arith
place-run (suc g) bits k = omega (arith, place-run g bits k)

-- an item's upper part is not below that of the first
later_high : (l high : ℕ) (items : List ℕ) (i : ℕ) → HighsFrom l high items → i < length items → high ≤ get_or items i 0 / 2 ^ l
unfolding HighsFrom
later_high l high [] i up lt = absurd (omega arith)
later_high l high (v ∷ items) zero up lt = up.0
later_high l high (v ∷ items) (suc i) up lt = omega (arith, up.0, later_high l (v / 2 ^ l) items i up.1 (omega arith))

-- the place of an item's 1
pub place-walk : (l high : ℕ) (items : List ℕ) (i : ℕ) → HighsFrom l high items → i < length items → place_of_one (walk l high items) i + high ≡ get_or items i 0 / 2 ^ l + i
unfolding walk HighsFrom place_of_one
place-walk l high [] i up lt = absurd (omega arith)
place-walk l high (v ∷ items) zero up lt = omega (arith, place-run (v / 2 ^ l - high) (true ∷ walk l (v / 2 ^ l) items) 0, up.0)
place-walk l high (v ∷ items) (suc i) up lt =
    let rest = walk l (v / 2 ^ l) items in
    omega (arith, place-run (v / 2 ^ l - high) (true ∷ rest) (suc i), up.0, place-walk l (v / 2 ^ l) items i up.1 (omega arith))

-- bits whose ones stand at the upper parts of the items are the steps from one to the next, and zeros
pub walk-from : (l high : ℕ) (bits : List Bool) (items : List ℕ) → length items ≡ ones_of bits
    → ((i : ℕ) → i < length items → get_or items i 0 / 2 ^ l ≡ high + place_of_one bits i - i) → HighsFrom l high items × ((z : ℕ) × (bits ≡ walk l high items ++ replicate z false))
unfolding walk HighsFrom place_of_one ones_of
walk-from l high [] [] len each = (tt, (0, refl))
walk-from l high [] (v ∷ items) len each = absurd (omega arith)
walk-from l high (false ∷ bits) [] len each =
    let ih = walk-from l (high + 1) bits [] (omega arith) (λ i lt. absurd (omega arith)) in
    (tt, (suc ih.1.0, ap (λ bs. false ∷ bs) ih.1.1))
walk-from l high (false ∷ bits) (v ∷ items) len each =
    let ih = walk-from l (high + 1) bits (v ∷ items) (omega arith) (λ i lt. omega (arith, each i lt)) in
    let g : v / 2 ^ l - high ≡ suc (v / 2 ^ l - (high + 1)) = omega (arith, ih.0.0) in
    ((omega (arith, ih.0.0), ih.0.1), (ih.1.0, rw g (ap (λ bs. false ∷ bs) ih.1.1)))
walk-from l high (true ∷ bits) [] len each = absurd (omega arith)
walk-from l high (true ∷ bits) (v ∷ items) len each =
    let first : v / 2 ^ l ≡ high = omega (arith, each 0 (omega arith)) in
    let ih = walk-from l (v / 2 ^ l) bits items (omega arith) (λ i lt. omega (arith, each (suc i) (omega arith), first)) in
    let none : v / 2 ^ l - high ≡ 0 = omega arith in
    ((omega arith, ih.0), (ih.1.0, rw none (ap (λ bs. true ∷ bs) ih.1.1)))

-- ---- from the order of the items

pub high_le : (l a b : ℕ) → a ≤ b → a / 2 ^ l ≤ b / 2 ^ l
high_le l a b le = le-div (a / 2 ^ l) b (2 ^ l) (pow_pos l) (omega (arith, shr_split a l))

pub highs-from : (l high : ℕ) (items : List ℕ) → IsNonDecreasing items → ((i : ℕ) → i < length items → high ≤ get_or items i 0 / 2 ^ l) → HighsFrom l high items
unfolding HighsFrom
highs-from l high [] up low = tt
highs-from l high (v ∷ items) up low =
    (low 0 (omega arith), highs-from l (v / 2 ^ l) items (λ i j d le lt. up (suc i) (suc j) d (omega arith) (omega arith)) (λ i lt. high_le l v (get_or items i 0) (up 0 (suc i) 0 (omega arith) (omega arith))))

pub highs : (l : ℕ) (items : List ℕ) → IsNonDecreasing items → HighsFrom l 0 items
highs l items up = highs-from l 0 items up (λ i lt. omega arith)

pub walk-all : (l : ℕ) (items : List ℕ) → 0 < length items → IsNonDecreasing items → walk l 0 items ≡ upper_bits l items
walk-all l [] pos up = absurd (omega arith)
walk-all l (v ∷ items) pos up = walk-upper l v items (highs l (v ∷ items) up)

-- ---- one more item

pub top-push : (l high : ℕ) (items : List ℕ) (v : ℕ) → top l high (items ++ v ∷ []) ≡ v / 2 ^ l
unfolding top
top-push l high [] v = refl
top-push l high (w ∷ items) v = top-push l (w / 2 ^ l) items v

pub walk-push : (l high : ℕ) (items : List ℕ) (v : ℕ) → walk l high (items ++ v ∷ []) ≡ walk l high items ++ (replicate (v / 2 ^ l - top l high items) false ++ true ∷ [])
unfolding walk top
walk-push l high [] v = refl
walk-push l high (w ∷ items) v =
    let zeros = replicate (w / 2 ^ l - high) false in
    let ones = replicate (v / 2 ^ l - top l (w / 2 ^ l) items) false ++ true ∷ [] in
    ap (λ bits. zeros ++ true ∷ bits) (walk-push l (w / 2 ^ l) items v) ∙ sym (append_assoc zeros (true ∷ walk l (w / 2 ^ l) items) ones)

pub low-one : low_bits 1 1 ≡ true ∷ []
unfolding low_bits
low-one = refl

pub walk-nil : (l high : ℕ) → walk l high [] ≡ []
unfolding walk
walk-nil l high = refl

pub top-nil : (l high : ℕ) → top l high [] ≡ high
unfolding top
top-nil l high = refl
