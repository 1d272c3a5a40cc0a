-- Rice codes written and read.
use Rattle.std.proofs.Common.{◌≡◌, ℕ, zero, suc, ◌+◌, ◌-◌, ◌*◌, ◌/◌, ◌%◌, ◌^◌, ◌<◌, ◌≤◌, Bool, true, false, List, [], ◌∷◌, ◌++◌, length, take, drop, replicate, refl, sym, ap, ◌∙◌, arith, append_assoc}
use Rattle.std.proofs.Math.Nat.{mul_comm}
use Rattle.std.proofs.Math.Seq.{take-add}
use Rattle.std.proofs.lemmas.Nat.{pow_pos, pow-add, shr_split, div-mul-add, mod-mul-add, mul-add-lt, le-div}
use Rattle.std.proofs.lemmas.Nat.Bits.{ones_shr}
use Rattle.std.proofs.lemmas.List.{length-append, length-take, length-drop, length-replicate, take-append-drop, take_at, drop_at, drop-drop, drop_more}
use Rattle.bit_store.specs.Bits.{number_of, low_bits, ones_of, IsOneAt}
use Rattle.bit_store.specs.Rice.{rice_code, StandsAt}
use Rattle.bit_store.proofs.Numbers.{number_of-lt, number_of-low_bits, low_bits-number_of, length-low_bits, same_bits, ones_of-append, ones_of-split}
use Rattle.bit_store.proofs.Views.{ones_more}

pub length-rice_code : (r v : ℕ) → length (rice_code r v) ≡ v / 2 ^ r + 1 + r
length-rice_code r v = omega (arith, length-append (replicate (v / 2 ^ r) false) (true ∷ low_bits r v), length-replicate (v / 2 ^ r) false, length-low_bits r v)

-- bits with no ones
pub all_zeros : (bits : List Bool) → ones_of bits ≡ 0 → bits ≡ replicate (length bits) false
unfolding ones_of
all_zeros [] e = refl
all_zeros (true ∷ bits) e = absurd (omega arith)
all_zeros (false ∷ bits) e = ap (λ bs. false ∷ bs) (all_zeros bits (omega arith))

-- zeros up to a 1
pub run : (bits : List Bool) (at one : ℕ) → at ≤ one → IsOneAt bits one → ones_of (take one bits) ≡ ones_of (take at bits) → drop at bits ≡ replicate (one - at) false ++ true ∷ drop (one + 1) bits
run bits at one le is none =
    let z : ℕ = one - at in
    let whole : at + z ≡ one = omega arith in
    let front = take z (drop at bits) in
    let more : ones_of (take (at + z) bits) ≡ ones_of (take at bits) + ones_of front = ones_more at z bits in
    let free : ones_of front ≡ 0 = omega (arith, more, ap (λ n. ones_of (take n bits)) whole, none) in
    let len : length front ≡ z = omega (arith, length-take z (drop at bits), length-drop at bits, is.0) in
    let zeros : front ≡ replicate z false = all_zeros front free ∙ ap (λ n. replicate n false) len in
    let rest : drop z (drop at bits) ≡ true ∷ drop (one + 1) bits = drop-drop z at bits ∙ ap (λ n. drop n bits) whole ∙ drop_more bits one false is.0 ∙ ap (λ b. b ∷ drop (one + 1) bits) is.1 in
    sym (take-append-drop z (drop at bits)) ∙ (rw (zeros, rest) refl)

-- two runs of zeros up to a 1
pub same_runs : (z y : ℕ) (a b : List Bool) → replicate z false ++ true ∷ a ≡ replicate y false ++ true ∷ b → (z ≡ y) × (a ≡ b)
same_runs zero zero a b e = (refl, cc)
same_runs zero (suc y) a b e = absurd cc
same_runs (suc z) zero a b e = absurd cc
same_runs (suc z) (suc y) a b e = let ih = same_runs z y a b cc in (ap suc ih.0, ih.1)

-- what stands at a place begins what is left there
pub begins : (bits : List Bool) (at : ℕ) (code : List Bool) → StandsAt bits at code → drop at bits ≡ code ++ drop (length code) (drop at bits)
begins bits at code stands = sym (take-append-drop (length code) (drop at bits)) ∙ ap (λ bs. bs ++ drop (length code) (drop at bits)) stands

pub stands_first : (bits : List Bool) (at : ℕ) (code rest : List Bool) → drop at bits ≡ code ++ rest → StandsAt bits at code
stands_first bits at code rest e = ap (take (length code)) e ∙ take_at code rest (length code) refl

-- the number of a run of zeros and a field
pub coded : (bits : List Bool) (at one r f : ℕ) → at ≤ one → IsOneAt bits one → ones_of (take one bits) ≡ ones_of (take at bits) → one + 1 + r ≤ length bits → f ≡ number_of (take r (drop (one + 1) bits))
    → StandsAt bits at (rice_code r ((one - at) * 2 ^ r + f)) × (one + 1 + r ≡ at + length (rice_code r ((one - at) * 2 ^ r + f)))
coded bits at one r f le is none long e =
    let z : ℕ = one - at in
    let v : ℕ = z * 2 ^ r + f in
    let rest = drop (one + 1) bits in
    let field = take r rest in
    let len : length field ≡ r = omega (arith, length-take r rest, length-drop (one + 1) bits) in
    let small : f < 2 ^ r = rw e (rw len at (number_of-lt field)) in
    let high : v / 2 ^ r ≡ z = div-mul-add z (2 ^ r) f small in
    let low : v % 2 ^ r ≡ f = mod-mul-add z (2 ^ r) f small in
    let bits_are : low_bits r v ≡ field = same_bits (low_bits r v) field (length-low_bits r v ∙ sym len) (number_of-low_bits r v ∙ low ∙ e) in
    let code : rice_code r v ≡ replicate z false ++ true ∷ field = rw (high, bits_are) refl in
    let parts : drop at bits ≡ rice_code r v ++ drop r rest =
    run bits at one le is none ∙ ap (λ bs. replicate z false ++ true ∷ bs) (sym (take-append-drop r rest)) ∙ sym (append_assoc (replicate z false) (true ∷ field) (drop r rest)) ∙ ap (λ bs. bs ++ drop r rest) (sym code) in
    (stands_first bits at (rice_code r v) (drop r rest) parts, omega (arith, length-rice_code r v, high))

first_one : (bits : List Bool) → 0 < ones_of (true ∷ bits)
unfolding ones_of
first_one bits = omega arith

-- a code has a 1
pub has_one : (bits : List Bool) (at r v : ℕ) → StandsAt bits at (rice_code r v) → ones_of (take at bits) < ones_of bits
has_one bits at r v stands =
    let code = rice_code r v in
    let left = drop (length code) (drop at bits) in
    let one : ones_of code ≡ ones_of (replicate (v / 2 ^ r) false) + ones_of (true ∷ low_bits r v) = ones_of-append (replicate (v / 2 ^ r) false) (true ∷ low_bits r v) in
    let all : ones_of (drop at bits) ≡ ones_of code + ones_of left = ap ones_of (begins bits at code stands) ∙ ones_of-append code left in
    omega (arith, ones_of-split at bits, all, one, first_one (low_bits r v))

-- a code lies within the bits
pub within : (bits : List Bool) (at r v : ℕ) → StandsAt bits at (rice_code r v) → at + length (rice_code r v) ≤ length bits
within bits at r v stands = omega (arith, ap length stands, length-take (length (rice_code r v)) (drop at bits), length-drop at bits, length-rice_code r v)

-- what a code that stands there says of the first 1 and the field behind it
pub record Found (bits : List Bool) (at one r v : ℕ) : Type 0 where
  pub high : one - at ≡ v / 2 ^ r
  pub long : one + 1 + r ≤ length bits
  pub field : number_of (take r (drop (one + 1) bits)) ≡ v % 2 ^ r

pub found : (bits : List Bool) (at one r v : ℕ) → at ≤ one → IsOneAt bits one → ones_of (take one bits) ≡ ones_of (take at bits) → StandsAt bits at (rice_code r v) → Found bits at one r v
found bits at one r v le is none stands =
    let code = rice_code r v in
    let left = drop (length code) (drop at bits) in
    let two : replicate (one - at) false ++ true ∷ drop (one + 1) bits ≡ replicate (v / 2 ^ r) false ++ true ∷ (low_bits r v ++ left) =
    sym (run bits at one le is none) ∙ begins bits at code stands ∙ append_assoc (replicate (v / 2 ^ r) false) (true ∷ low_bits r v) left in
    let same = same_runs (one - at) (v / 2 ^ r) (drop (one + 1) bits) (low_bits r v ++ left) two in
    record {
      high = same.0;
      long = omega (arith, within bits at r v stands, length-rice_code r v, same.0);
      field = ap (λ bs. number_of (take r bs)) same.1 ∙ ap number_of (take_at (low_bits r v) left r (length-low_bits r v)) ∙ number_of-low_bits r v;
    }

-- the parts that a writer puts down one behind the other
pub parts_of_code : (bits : List Bool) (r v : ℕ) → ((bits ++ replicate (v / 2 ^ r) false) ++ low_bits 1 1) ++ low_bits r v ≡ bits ++ rice_code r v
unfolding low_bits
parts_of_code bits r v =
    let zeros = replicate (v / 2 ^ r) false in
    append_assoc (bits ++ zeros) (true ∷ []) (low_bits r v) ∙ append_assoc bits zeros (true ∷ low_bits r v)

-- the number of so many zeros and a field is one of 64 bits
pub value_fits : (z r f : ℕ) → r ≤ 16 → z ≤ 18446744073709551615 / 2 ^ r → f < 2 ^ r → z * 2 ^ r + f < 2 ^ 64
value_fits z r f le few lt =
    let most : 18446744073709551615 / 2 ^ r ≡ 2 ^ (64 - r) - 1 = ones_shr 64 r (omega arith) in
    let places : (64 - r) + r ≡ 64 = omega arith in
    let whole : 2 ^ (64 - r) * 2 ^ r ≡ 2 ^ 64 = sym (pow-add 2 (64 - r) r) ∙ ap (λ n. 2 ^ n) places in
    let place : z * 2 ^ r + f < 2 ^ r * 2 ^ (64 - r) = mul-add-lt z (2 ^ r) f (2 ^ (64 - r)) (omega (arith, most, pow_pos (64 - r))) lt in
    omega (arith, place, whole, mul_comm (2 ^ r) (2 ^ (64 - r)))

pub too_many : (z r v : ℕ) → v < 2 ^ 64 → 18446744073709551615 / 2 ^ r < z → z ≡ v / 2 ^ r → ⊥
too_many z r v lt many e =
    let small : v / 2 ^ r * 2 ^ r ≤ 18446744073709551615 = omega (arith, shr_split v r) in
    absurd (omega (arith, le-div (v / 2 ^ r) 18446744073709551615 (2 ^ r) (pow_pos r) small))

-- a code among others stands at the number of bits before it
pub stands_between : (front code rest : List Bool) → StandsAt (front ++ (code ++ rest)) (length front) code
stands_between front code rest = stands_first (front ++ (code ++ rest)) (length front) code rest (drop_at front (code ++ rest) (length front) refl)

-- bits of others that are put down as a number are those bits
pub piece_put : (bits others : List Bool) (at w f : ℕ) → at + w ≤ length others → f ≡ number_of (take w (drop at others)) → (bits ++ take at others) ++ low_bits w f ≡ bits ++ take (at + w) others
piece_put bits others at w f le is =
    let piece = take w (drop at others) in
    let long : length piece ≡ w = omega (arith, length-take w (drop at others), length-drop at others) in
    let same : low_bits w f ≡ piece = ap (low_bits w) is ∙ ap (λ (n : ℕ). low_bits n (number_of piece)) (sym long) ∙ low_bits-number_of piece in
    append_assoc bits (take at others) (low_bits w f) ∙ ap (λ (l : List Bool). bits ++ (take at others ++ l)) same ∙ ap (λ (l : List Bool). bits ++ l) (sym (take-add at w others))
