-- The zeros of a list of bits.
use Rattle.std.proofs.Common.{◌≡◌, ℕ, zero, suc, ◌+◌, ◌-◌, ◌/◌, ◌%◌, ◌^◌, ◌<◌, ◌≤◌, Bool, true, false, List, [], ◌∷◌, length, take, drop, get_or, refl, sym, ap, ◌∙◌, arith, inl, inr}
use Rattle.std.proofs.Math.Nat.{pow-succ', mod-eq_of_lt, pow-le-pow_right}
use Rattle.std.proofs.lemmas.Bool.{cases_lt}
use Rattle.std.proofs.lemmas.List.{length-take}
use Rattle.std.specs.Int.RustNames.{count_ones}
use Rattle.bit_store.specs.Bits.{digit, number_of, low_bits, ones_of, IsZeroAt}
use Rattle.bit_store.specs.Counts.{IsPlaceIn}
use Rattle.bit_store.proofs.Numbers.{number_of-take, number_of-low_bits, length-low_bits, ones-number_of, ones_of-le}
use Rattle.bit_store.proofs.Views.{digit-get, ones_field, bit_of_part, front_of_part, part_below}

-- ones for zeros and zeros for ones
other : Bool → Bool
other true = false
other false = true

flip : List Bool → List Bool
flip [] = []
flip (b ∷ bits) = other b ∷ flip bits

two_digits : (b : Bool) → digit (other b) + digit b ≡ 1
unfolding other
two_digits true = omega arith
two_digits false = omega arith

number_of-flip : (bits : List Bool) → number_of (flip bits) + number_of bits + 1 ≡ 2 ^ length bits
unfolding number_of flip
number_of-flip [] = omega arith
number_of-flip (b ∷ bits) = omega (arith, number_of-flip bits, pow-succ' 2 (length bits), two_digits b)

ones_of-flip : (bits : List Bool) → ones_of (flip bits) + ones_of bits ≡ length bits
unfolding ones_of flip
ones_of-flip [] = omega arith
ones_of-flip (b ∷ bits) = omega (arith, ones_of-flip bits, two_digits b)

take-flip : (k : ℕ) (bits : List Bool) → take k (flip bits) ≡ flip (take k bits)
unfolding flip
take-flip zero bits = refl
take-flip (suc k) [] = refl
take-flip (suc k) (b ∷ bits) = ap (λ bs. other b ∷ bs) (take-flip k bits)

get_or-flip : (bits : List Bool) (i : ℕ) → i < length bits → get_or (flip bits) i false ≡ other (get_or bits i false)
unfolding other flip
get_or-flip [] i lt = absurd (omega arith)
get_or-flip (b ∷ bits) zero lt = refl
get_or-flip (b ∷ bits) (suc i) lt = get_or-flip bits i (omega arith)

-- a word with each bit turned
turned : (word : ℕ) → word < 2 ^ 64 → (number_of (flip (low_bits 64 word)) ≡ 18446744073709551615 - word) × (number_of (low_bits 64 word) ≡ word)
turned word fits =
    let bits = low_bits 64 word in
    let same : number_of bits ≡ word = number_of-low_bits 64 word ∙ mod-eq_of_lt fits in
    (omega (arith, number_of-flip bits, same, ap (λ n. 2 ^ n) (length-low_bits 64 word)), same)

-- of its first bits those are 1 that were not
pub turned_ones : (word t : ℕ) → word < 2 ^ 64 → t ≤ 64 → count_ones ((18446744073709551615 - word) % 2 ^ t) + count_ones (word % 2 ^ t) ≡ t
turned_ones word t fits le =
    let bits = low_bits 64 word in
    let two = turned word fits in
    let front : count_ones ((18446744073709551615 - word) % 2 ^ t) ≡ ones_of (flip (take t bits)) =
    ap (λ n. count_ones (n % 2 ^ t)) (sym two.0) ∙ ap count_ones (sym (number_of-take t (flip bits))) ∙ ones-number_of (take t (flip bits)) ∙ ap ones_of (take-flip t bits) in
    let same : count_ones (word % 2 ^ t) ≡ ones_of (take t bits) =
    ap (λ n. count_ones (n % 2 ^ t)) (sym two.1) ∙ ap count_ones (sym (number_of-take t bits)) ∙ ones-number_of (take t bits) in
    omega (arith, front, same, ones_of-flip (take t bits), length-take t bits, length-low_bits 64 word)

pub turned_all : (word : ℕ) → word < 2 ^ 64 → count_ones (18446744073709551615 - word) + count_ones word ≡ 64
turned_all word fits =
    let a : (18446744073709551615 - word) % 2 ^ 64 ≡ 18446744073709551615 - word = mod-eq_of_lt (omega arith) in
    let b : word % 2 ^ 64 ≡ word = mod-eq_of_lt fits in
    omega (arith, turned_ones word 64 fits (omega arith), ap count_ones a, ap count_ones b)

one_and_none : (b : Bool) → digit (other b) ≡ 1 → digit b ≡ 0
one_and_none b e = omega (arith, two_digits b)

turned_bit : (word t : ℕ) → word < 2 ^ 64 → t < 64 → (18446744073709551615 - word) / 2 ^ t % 2 ≡ 1 → word / 2 ^ t % 2 ≡ 0
turned_bit word t fits lt one =
    let bits = low_bits 64 word in
    let two = turned word fits in
    let turn : digit (other (get_or bits t false)) ≡ 1 =
    ap digit (sym (get_or-flip bits t (omega (arith, length-low_bits 64 word)))) ∙ sym (digit-get (flip bits) t) ∙ ap (λ n. n / 2 ^ t % 2) two.0 ∙ one in
    ap (λ n. n / 2 ^ t % 2) (sym two.1) ∙ digit-get bits t ∙ one_and_none (get_or bits t false) turn

digit-zero : (b : Bool) → digit b ≡ 0 → b ≡ false
digit-zero true e = absurd (omega arith)
digit-zero false e = refl

pub ones_in_part : (bits : List Bool) (at w word : ℕ) → word ≡ number_of (take w (drop at bits)) → count_ones word ≤ w
ones_in_part bits at w word e =
    let part = take w (drop at bits) in
    omega (arith, ap count_ones e, ones-number_of part, ones_of-le part, length-take w (drop at bits))

-- the place of a 0 in a word is one in the bits
pub record PlacedZero (bits : List Bool) (at w p k : ℕ) : Type 0 where
  pub within : p < w
  pub none : IsZeroAt bits (at + p)
  pub before : ones_of (take (at + p) bits) + k ≡ ones_of (take at bits) + p

pub placed_zero : (bits : List Bool) (at w word p k : ℕ) → at + w ≤ length bits → w ≤ 64 → word ≡ number_of (take w (drop at bits)) → k + count_ones word < w → IsPlaceIn (18446744073709551615 - word) k p → PlacedZero bits at w p k
placed_zero bits at w word p k le narrow e few place =
    let small : word < 2 ^ w = part_below bits at w word le e in
    let wide : 2 ^ w ≤ 2 ^ 64 = pow-le-pow_right (omega arith) narrow in
    let fits : word < 2 ^ 64 = omega arith in
    let ones : k + count_ones (word % 2 ^ p) ≡ p = omega (arith, turned_ones word p fits (omega (arith, place.within)), place.before) in
    let inside : p < w =
    elim (cases_lt p w) [
      | inl lt ↦ lt
      | inr ge ↦
          let more : 2 ^ w ≤ 2 ^ p = pow-le-pow_right (omega arith) ge in
          let all : word % 2 ^ p ≡ word = mod-eq_of_lt (omega arith) in
          absurd (omega (arith, ones, ap count_ones all))
    ] in
    let bit : number_of bits / 2 ^ (at + p) % 2 ≡ 0 = bit_of_part bits at w word p inside e ∙ turned_bit word p fits place.within place.one in
    let front = front_of_part bits at w word p inside e in
    record {
      within = inside;
      none = (omega arith, digit-zero _ (sym (digit-get bits (at + p)) ∙ bit));
      before = omega (arith, ones_field at p (word % 2 ^ p) bits (sym front), ones);
    }
