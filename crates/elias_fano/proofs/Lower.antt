-- The lower part of a text.
use Rattle.std.proofs.Common.{◌≡◌, ℕ, zero, suc, ◌+◌, ◌-◌, ◌*◌, ◌/◌, ◌%◌, ◌^◌, ◌<◌, Bool, false, eqb, List, [], ◌∷◌, length, take, drop, get_or, refl, sym, ap, ◌∙◌, arith, inl, inr}
use Rattle.std.specs.List.{flat_map}
use Rattle.std.proofs.Math.Nat.{div-div-eq-div-mul, pow-succ', div-one, div-eq_of_lt, mod-eq_of_lt, suc-mul, add-div_left, add-mod_left}
use Rattle.std.proofs.lemmas.Bool.{cases_lt}
use Rattle.std.proofs.lemmas.List.{length-append, length-take, length-drop, take-append-drop, take_at, drop_at, drop-drop, get_or_append_left, get_or-append_right, nil_from_length}
use Rattle.std.proofs.lemmas.List.FromFn.{fill_by_all}
use Rattle.bit_store.specs.Bits.{number_of, low_bits}
use Rattle.bit_store.proofs.Numbers.{number_of-low_bits, length-low_bits, same_bits}
use Rattle.elias_fano.specs.Spelling.{lower_bit, lower_bits}

get_or-low_bits : (w n k : ℕ) → k < w → get_or (low_bits w n) k false ≡ eqb (n / 2 ^ k % 2) 1
unfolding low_bits
get_or-low_bits zero n k lt = absurd (omega arith)
get_or-low_bits (suc w) n zero lt = ap (λ x. eqb (x % 2) 1) (sym (div-one n))
get_or-low_bits (suc w) n (suc k) lt =
    let e : n / 2 / 2 ^ k ≡ n / 2 ^ suc k = div-div-eq-div-mul n 2 (2 ^ k) ∙ ap (λ x. n / x) (sym (pow-succ' 2 k)) in
    get_or-low_bits w (n / 2) k (omega arith) ∙ ap (λ x. eqb (x % 2) 1) e

-- the fields one after the other
abbrev pub fields : ℕ → List ℕ → List Bool
fields l items = flat_map (low_bits l) items

pub length-fields : (l : ℕ) (items : List ℕ) → length (fields l items) ≡ length items * l
length-fields l [] = omega arith
length-fields l (v ∷ items) = omega (arith, length-append (low_bits l v) (fields l items), length-low_bits l v, length-fields l items, suc-mul (length items) l)

place_past : (l k : ℕ) → 0 < l → ((l + k) / l ≡ suc (k / l)) × ((l + k) % l ≡ k % l)
place_past l k pos = (add-div_left k {k = l} pos ∙ omega arith, add-mod_left l k)

bit_past : (l v : ℕ) (items : List ℕ) (j k : ℕ) → 0 < l → j ≡ l + k → lower_bit l items k ≡ lower_bit l (v ∷ items) j
bit_past l v items j k pos is = let past = place_past l k pos in rw (is, past.0, past.1) refl

some_width : (n l j : ℕ) → j < n * l → 0 < l
some_width n l j lt =
    elim (cases_lt 0 l) [
      | inl pos ↦ pos
      | inr le ↦ let none : l ≡ 0 = omega arith in absurd (omega (arith, ap (λ x. n * x) none))
    ]

get_or-fields : (l : ℕ) (items : List ℕ) (j : ℕ) → j < length items * l → get_or (fields l items) j false ≡ lower_bit l items j
get_or-fields l [] j lt = absurd (omega arith)
get_or-fields l (v ∷ items) j lt =
    elim (cases_lt j l) [
      | inl small ↦
          get_or_append_left (low_bits l v) (fields l items) false j (omega (arith, length-low_bits l v)) ∙ get_or-low_bits l v j small
          ∙ (rw (div-eq_of_lt small, mod-eq_of_lt small) refl)
      | inr big ↦
          let k : ℕ = j - l in
          let is : j ≡ l + k = omega arith in
          let wide : suc (length items) * l ≡ length items * l + l = suc-mul (length items) l in
          get_or-append_right (low_bits l v) (fields l items) l j false (length-low_bits l v) big ∙ get_or-fields l items k (omega (arith, wide)) ∙ bit_past l v items j k (some_width (suc (length items)) l j lt) is
    ]

-- the fields are the lower part
pub fields-lower : (l : ℕ) (items : List ℕ) → fields l items ≡ lower_bits l items
unfolding lower_bits
fields-lower l items = fill_by_all (lower_bit l items) (fields l items) (length items * l) false (length-fields l items) (λ k lt. get_or-fields l items k lt)

-- field i of the fields
pub field-fields : (l : ℕ) (items : List ℕ) (i : ℕ) → i < length items → take l (drop (i * l) (fields l items)) ≡ low_bits l (get_or items i 0)
field-fields l [] i lt = absurd (omega arith)
field-fields l (v ∷ items) zero lt =
    let start : 0 * l ≡ 0 = omega arith in
    ap (λ n. take l (drop n (fields l (v ∷ items)))) start ∙ take_at (low_bits l v) (fields l items) l (length-low_bits l v)
field-fields l (v ∷ items) (suc i) lt =
    let far : suc i * l ≡ l + i * l = omega (arith, suc-mul i l) in
    let skip : drop l (fields l (v ∷ items)) ≡ fields l items = drop_at (low_bits l v) (fields l items) l (length-low_bits l v) in
    ap (λ n. take l (drop n (fields l (v ∷ items)))) far ∙ ap (take l) (sym (drop-drop (i * l) l (fields l (v ∷ items))) ∙ ap (drop (i * l)) skip) ∙ field-fields l items i (omega arith)

-- bits whose fields are the low parts of the items are their fields
pub fields-from : (l : ℕ) (items : List ℕ) (lower : List Bool) → length lower ≡ length items * l
    → ((i : ℕ) → i < length items → get_or items i 0 % 2 ^ l ≡ number_of (take l (drop (i * l) lower))) → fields l items ≡ lower
fields-from l [] lower len each = sym (nil_from_length lower (len ∙ omega arith))
fields-from l (v ∷ items) lower len each =
    let wide : suc (length items) * l ≡ length items * l + l = suc-mul (length items) l in
    let front : length (take l lower) ≡ l = omega (arith, length-take l lower, wide, len) in
    let start : 0 * l ≡ 0 = omega arith in
    let first : low_bits l v ≡ take l lower = same_bits (low_bits l v) (take l lower) (length-low_bits l v ∙ sym front) (number_of-low_bits l v ∙ each 0 (omega arith) ∙ ap (λ n. number_of (take l (drop n lower))) start) in
    let others : fields l items ≡ drop l lower =
    fields-from l items (drop l lower) (omega (arith, length-drop l lower, wide, len)) (λ i lt.
    let far : l + i * l ≡ suc i * l = omega (arith, suc-mul i l) in
    each (suc i) (omega arith) ∙ ap (λ bits. number_of (take l bits)) (ap (λ n. drop n lower) (sym far) ∙ sym (drop-drop (i * l) l lower))) in
    rw (first, others) (take-append-drop l lower)
