-- A list of bits and its number.
use Rattle.std.proofs.Common.{◌≡◌, ℕ, zero, suc, ◌+◌, ◌*◌, ◌/◌, ◌%◌, ◌^◌, ◌<◌, ◌≤◌, Bool, true, false, eqb, List, [], ◌∷◌, ◌++◌, length, take, drop, replicate, refl, sym, ap, ◌∙◌, arith, add-one}
use Rattle.std.proofs.Math.Nat.{pow-succ', div-div-eq-div-mul, zero-mod, zero-div, add_comm, mul_comm}
use Rattle.std.proofs.lemmas.Nat.{mod-pow-add, ones_le_self}
use Rattle.std.specs.Int.RustNames.{count_ones}
use Rattle.std.specs.Int.Count.{ones_step}
use Rattle.std.proofs.lemmas.Bool.{eqb-true}
use Rattle.std.proofs.lemmas.List.{length-append, take-append-drop}
use Rattle.bit_store.specs.Bits.{digit, number_of, low_bits, ones_of}

pub digit-lt : (b : Bool) → digit b < 2
digit-lt true = omega arith
digit-lt false = omega arith

-- the digit of a test for 1
digit_of_odd : (n : ℕ) → digit (eqb (n % 2) 1) ≡ n % 2
digit_of_odd n =
    let f : (b : Bool) → eqb (n % 2) 1 ≡ b → digit b ≡ n % 2 = λ b. elim b as (λ b. eqb (n % 2) 1 ≡ b → digit b ≡ n % 2) [
      | true ↦ λ e. sym (eqb-true _ _ e)
      | false ↦ λ e. grind (arith, e)
    ] in
    f (eqb (n % 2) 1) refl

odd_of_digit : (b : Bool) (n : ℕ) → eqb ((digit b + 2 * n) % 2) 1 ≡ b
odd_of_digit true n = let e : (1 + 2 * n) % 2 ≡ 1 = omega arith in rw e refl
odd_of_digit false n = let e : (0 + 2 * n) % 2 ≡ 0 = omega arith in rw e refl

pub length-low_bits : (width n : ℕ) → length (low_bits width n) ≡ width
unfolding low_bits
length-low_bits zero n = refl
length-low_bits (suc width) n = ap suc (length-low_bits width (n / 2))

pub number_of-lt : (bits : List Bool) → number_of bits < 2 ^ length bits
unfolding number_of
number_of-lt [] = omega arith
number_of-lt (b ∷ bits) = omega (arith, number_of-lt bits, digit-lt b, pow-succ' 2 (length bits))

pub number_of-low_bits : (width n : ℕ) → number_of (low_bits width n) ≡ n % 2 ^ width
unfolding number_of low_bits
number_of-low_bits zero n = omega arith
number_of-low_bits (suc width) n =
    rw (digit_of_odd n, number_of-low_bits width (n / 2)) (omega (arith, mod-pow-add n width 1, ap (λ k. n % 2 ^ k) (add-one width)))

pub low_bits-number_of : (bits : List Bool) → low_bits (length bits) (number_of bits) ≡ bits
unfolding number_of low_bits
low_bits-number_of [] = refl
low_bits-number_of (b ∷ bits) =
    let half : (digit b + 2 * number_of bits) / 2 ≡ number_of bits = omega (arith, digit-lt b) in
    rw (odd_of_digit b (number_of bits), half, low_bits-number_of bits) refl

-- bits are known by how many they are and by their number
pub same_bits : (a b : List Bool) → length a ≡ length b → number_of a ≡ number_of b → a ≡ b
same_bits a b len num = sym (low_bits-number_of a) ∙ (rw (len, num) (low_bits-number_of b))

pub number_of-append : (a b : List Bool) → number_of (a ++ b) ≡ number_of a + 2 ^ length a * number_of b
unfolding number_of
number_of-append [] b = omega arith
number_of-append (x ∷ a) b = rw (number_of-append a b, pow-succ' 2 (length a)) (grind arith)

-- the first so many bits
pub number_of-take : (n : ℕ) (bits : List Bool) → number_of (take n bits) ≡ number_of bits % 2 ^ n
unfolding number_of
number_of-take zero bits = omega arith
number_of-take (suc n) [] = sym (zero-mod (2 ^ suc n))
number_of-take (suc n) (b ∷ bits) =
    let N = number_of bits in
    let whole : ℕ = digit b + 2 * N in
    let half : whole / 2 ≡ N = omega (arith, digit-lt b) in
    let odd : whole % 2 ≡ digit b = omega (arith, digit-lt b) in
    let split : whole % 2 ^ (n + 1) ≡ (whole / 2 % 2 ^ n) * 2 + whole % 2 = mod-pow-add whole n 1 in
    rw (number_of-take n bits) (rw (← add-one n) (sym (split ∙ (rw (half, odd) (omega arith)))))

-- the bits after the first so many
pub number_of-drop : (n : ℕ) (bits : List Bool) → number_of (drop n bits) ≡ number_of bits / 2 ^ n
unfolding number_of
number_of-drop zero bits = omega arith
number_of-drop (suc n) [] = sym (zero-div (2 ^ suc n))
number_of-drop (suc n) (b ∷ bits) =
    let N = number_of bits in
    let whole : ℕ = digit b + 2 * N in
    let half : whole / 2 ≡ N = omega (arith, digit-lt b) in
    number_of-drop n bits ∙ (rw (pow-succ' 2 n, ← div-div-eq-div-mul whole 2 (2 ^ n), half) refl)

-- a field inside a number
pub low_bits-append : (a b n : ℕ) → low_bits (a + b) n ≡ low_bits a n ++ low_bits b (n / 2 ^ a)
low_bits-append a b n =
    let len : length (low_bits (a + b) n) ≡ length (low_bits a n ++ low_bits b (n / 2 ^ a)) = omega (arith, length-low_bits (a + b) n, length-low_bits a n, length-low_bits b (n / 2 ^ a), length-append (low_bits a n) (low_bits b (n / 2 ^ a))) in
    let right : number_of (low_bits a n ++ low_bits b (n / 2 ^ a)) ≡ n % 2 ^ a + 2 ^ a * (n / 2 ^ a % 2 ^ b) = number_of-append (low_bits a n) (low_bits b (n / 2 ^ a)) ∙ rw (length-low_bits a n, number_of-low_bits a n, number_of-low_bits b (n / 2 ^ a)) refl in
    let left : number_of (low_bits (a + b) n) ≡ n / 2 ^ a % 2 ^ b * 2 ^ a + n % 2 ^ a = number_of-low_bits (a + b) n ∙ (rw (add_comm a b) (mod-pow-add n b a)) in
    same_bits _ _ len (left ∙ (omega (arith, mul_comm (2 ^ a) (n / 2 ^ a % 2 ^ b))) ∙ sym right)

pub number_of-replicate : (n : ℕ) → number_of (replicate n false) ≡ 0
unfolding number_of
number_of-replicate zero = refl
number_of-replicate (suc n) = rw (number_of-replicate n) refl

pub low_bits-zero : (n : ℕ) → low_bits n 0 ≡ replicate n false
unfolding low_bits
low_bits-zero zero = refl
low_bits-zero (suc n) = ap (λ bits. false ∷ bits) (low_bits-zero n)

-- ---- ones

pub ones-number_of : (bits : List Bool) → count_ones (number_of bits) ≡ ones_of bits
unfolding number_of ones_of
ones-number_of [] = omega (arith, ones_le_self 0)
ones-number_of (b ∷ bits) =
    let N = number_of bits in
    let whole : ℕ = digit b + 2 * N in
    let half : whole / 2 ≡ N = omega (arith, digit-lt b) in
    let odd : whole % 2 ≡ digit b = omega (arith, digit-lt b) in
    ones_step whole ∙ rw (half, odd, ones-number_of bits) refl

pub ones_of-append : (a b : List Bool) → ones_of (a ++ b) ≡ ones_of a + ones_of b
unfolding ones_of
ones_of-append [] b = omega arith
ones_of-append (x ∷ a) b = rw (ones_of-append a b) (omega arith)

pub ones_of-le : (bits : List Bool) → ones_of bits ≤ length bits
unfolding ones_of
ones_of-le [] = omega arith
ones_of-le (b ∷ bits) = omega (arith, ones_of-le bits, digit-lt b)

pub ones_of-replicate : (n : ℕ) → ones_of (replicate n false) ≡ 0
unfolding ones_of
ones_of-replicate zero = refl
ones_of-replicate (suc n) = rw (ones_of-replicate n) refl

pub ones_of-split : (n : ℕ) (bits : List Bool) → ones_of (take n bits) + ones_of (drop n bits) ≡ ones_of bits
ones_of-split n bits = sym (ones_of-append (take n bits) (drop n bits)) ∙ ap ones_of (take-append-drop n bits)
