-- The marks of an upper part.
use Rattle.std.proofs.Common.{◌≡◌, ℕ, zero, suc, ◌+◌, ◌-◌, ◌*◌, ◌<◌, ◌≤◌, Bool, List, length, take, Option, Some, None, sym, ap, ◌∙◌, arith, inl, inr}
use Rattle.std.specs.Prelude.{slice_index, slice_set, IfSome}
use Rattle.std.proofs.Math.Nat.{suc-mul, mul-le-mul_right}
use Rattle.std.proofs.lemmas.Bool.{cases_lt}
use Rattle.std.proofs.lemmas.List.{get_or-set_same, get_or-set_other, length-take}
use Rattle.bit_store.specs.Bits.{ones_of, IsZeroAt}
use Rattle.bit_store.proofs.Numbers.{ones_of-le}
use Rattle.bit_store.proofs.Views.{ones_of-nil}

pub none_first : (block : ℕ) (bits : List Bool) → ones_of (take (0 * block) bits) ≡ 0
none_first block bits = let e : 0 * block ≡ 0 = omega arith in ap (λ n. ones_of (take n bits)) e ∙ ones_of-nil

pub first_mark : (marks : List ℕ) (block : ℕ) (bits : List Bool) → slice_index marks 0 ≡ 0 → (j : ℕ) → j < 1 → slice_index marks j ≡ ones_of (take (j * block) bits)
first_mark marks block bits e zero lt = e ∙ sym (none_first block bits)
first_mark marks block bits e (suc j) lt = absurd (omega arith)

pub more_marks : (marks : List ℕ) (used block value : ℕ) (bits : List Bool) → used < length marks → value ≡ ones_of (take (used * block) bits) → ((j : ℕ) → j < used → slice_index marks j ≡ ones_of (take (j * block) bits))
    → (j : ℕ) → j < used + 1 → slice_index (slice_set marks used value) j ≡ ones_of (take (j * block) bits)
more_marks marks used block value bits room is old j lt =
    elim (cases_lt j used) [
      | inl less ↦ get_or-set_other marks used j value 0 (λ e. omega arith) ∙ old j less
      | inr le ↦
          let e : used ≡ j = omega arith in
          ap (λ i. slice_index (slice_set marks used value) i) (sym e) ∙ get_or-set_same marks used value 0 room ∙ is ∙ ap (λ i. ones_of (take (i * block) bits)) e
    ]

pub mark_below : (bits : List Bool) (at value : ℕ) → value ≡ ones_of (take at bits) → value ≤ at
mark_below bits at value e = omega (arith, e, ones_of-le (take at bits), length-take at bits)

-- a 0 found from a mark on
pub zero_found : (bits : List Bool) (from value k : ℕ) (r : Option ℕ) → value ≡ ones_of (take from bits) → from - value ≤ k → IfSome r (λ p. (from ≤ p) × IsZeroAt bits p × (p + ones_of (take from bits) ≡ from + ones_of (take p bits) + (k - (from - value))))
    → IfSome r (λ p. IsZeroAt bits p × (p ≡ ones_of (take p bits) + k))
zero_found bits from value k (Some p) e le f = (f.1, omega (arith, f.2, e, le, mark_below bits from value e))
zero_found bits from value k None e le f = tt

-- the places of the marks
pub place_on : (used block at : ℕ) → 0 < used → at ≡ (used - 1) * block → at + block ≡ used * block
place_on zero block at some e = absurd (omega arith)
place_on (suc n) block at some e =
    let n_is : suc n - 1 ≡ n = omega arith in
    omega (arith, e, ap (λ k. k * block) n_is, suc-mul n block)

pub places_inside : (used block at len : ℕ) → at ≡ (used - 1) * block → at ≤ len → (j : ℕ) → j < used → j * block ≤ len
places_inside used block at len e le j lt =
    let most : j ≤ used - 1 = omega arith in
    omega (arith, e, mul-le-mul_right block most)

-- the same with no mark
pub zero_from_start : (bits : List Bool) (k : ℕ) (r : Option ℕ) → IfSome r (λ p. (0 ≤ p) × IsZeroAt bits p × (p + ones_of (take 0 bits) ≡ 0 + ones_of (take p bits) + k)) → IfSome r (λ p. IsZeroAt bits p × (p ≡ ones_of (take p bits) + k))
zero_from_start bits k (Some p) f = (f.1, omega (arith, f.2, ones_of-nil))
zero_from_start bits k None f = tt
