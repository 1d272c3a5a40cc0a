-- Parts of a list of bits, and their ones.
use Rattle.std.proofs.Common.{◌≡◌, ℕ, zero, suc, ◌+◌, ◌-◌, ◌*◌, ◌/◌, ◌%◌, ◌^◌, ◌<◌, ◌≤◌, Bool, true, false, eqb, List, [], ◌∷◌, length, take, drop, ◌++◌, get_or, refl, sym, ap, ◌∙◌, subst, arith, inl, inr}
use Rattle.std.proofs.Math.Nat.{pow-succ', div-div-eq-div-mul, mod-lt, mod-eq_of_lt, zero-div, div-one, add_comm, pow-le-pow_right, div-eq_of_lt, div-eq_of_lt-le, mul_assoc, mul_comm, add-mul-div_left}
use Rattle.std.proofs.lemmas.Nat.{pow_pos, pow-add, mod-pow-add, shr_split, shr_below, shr-shr, field_of, ones_cat, ones_le_self, div-mul-add, mod-mul-add, mul-add-lt}
use Rattle.std.proofs.lemmas.Nat.Bits.{bit_at-trailing_zeros, same_from_bits, bit_at_cat_low, bit_at_above, bit_at-zero}
use Rattle.std.proofs.lemmas.Bool.{cases_lt}
use Rattle.std.proofs.lemmas.List.{length-take, length-drop, take-append-drop, take-take, drop-take, drop-drop, take_all, take_more, drop_more, get_or-drop}
use Rattle.std.specs.Int.{w64, bit_at, trailing_zeros, from_le_bytes}
use Rattle.std.specs.Int.RustNames.{count_ones}
use Rattle.std.specs.Int.Count.{ones_step}
use Rattle.bit_store.specs.Bits.{digit, number_of, ones_of, bits_of, IsOneAt}
use Rattle.bit_store.specs.Counts.{number_in, IsPlaceIn}
use Rattle.bit_store.proofs.Numbers.{digit-lt, number_of-take, number_of-drop, number_of-lt, ones-number_of, ones_of-append}
use Rattle.bit_store.proofs.Writing.{low_of_low}
use Rattle.bit_store.proofs.Texts.{IsBytes, bits_of-take, bits_of-drop, number_in-cons, number_in-nil, number_in-append, number_in-lt, number_in-step, le_word8, IsBytes-take, IsBytes-drop}

-- a part of the first bits is that part of all
pub part_of_front : (w s k : ℕ) (xs : List Bool) → s + w ≤ k → take w (drop s (take k xs)) ≡ take w (drop s xs)
part_of_front w s k xs le =
    let e : k ≡ s + (k - s) = omega arith in
    ap (λ n. take w (drop s (take n xs))) e ∙ ap (take w) (drop-take s (k - s) xs) ∙ take-take w (k - s) (drop s xs) (omega arith)

-- a field, read from the bytes that hold it
pub field_in : (bytes : List ℕ) (i w len k : ℕ) → i % 8 + w ≤ 8 * k → i + w ≤ len → number_in (take k (drop (i / 8) bytes)) / 2 ^ (i % 8) % 2 ^ w ≡ number_of (take w (drop i (take len (bits_of bytes))))
field_in bytes i w len k wide within =
    let all = bits_of bytes in
    let s : ℕ = i % 8 in
    let q : ℕ = i / 8 in
    let place : 8 * q + s ≡ i = omega arith in
    let bits : bits_of (take k (drop q bytes)) ≡ take (8 * k) (drop (8 * q) all) = bits_of-take k (drop q bytes) ∙ ap (take (8 * k)) (bits_of-drop q bytes) in
    let from : take w (drop s (take (8 * k) (drop (8 * q) all))) ≡ take w (drop i all) = part_of_front w s (8 * k) (drop (8 * q) all) wide ∙ ap (take w) (drop-drop s (8 * q) all ∙ ap (λ n. drop n all) place) in
    let num : number_of (take w (drop s (take (8 * k) (drop (8 * q) all)))) ≡ number_of (take (8 * k) (drop (8 * q) all)) / 2 ^ s % 2 ^ w = number_of-take w (drop s (take (8 * k) (drop (8 * q) all))) ∙ ap (λ x. x % 2 ^ w) (number_of-drop s (take (8 * k) (drop (8 * q) all))) in
    ap (λ x. number_of x / 2 ^ s % 2 ^ w) bits ∙ sym num ∙ ap number_of (from ∙ sym (part_of_front w i len all within))

-- a word of 64 bits from the start of a byte on
pub aligned_word : (bytes : List ℕ) (at len word : ℕ) → IsBytes bytes → at % 8 ≡ 0 → at + 64 ≤ len → len ≤ 8 * length bytes → word < 2 ^ 64 → word ≡ from_le_bytes w64 (take 8 (drop (at / 8) bytes)) → word ≡ number_of (take 64 (drop at (take len (bits_of bytes))))
aligned_word bytes at len word fits even within long small e =
    let part = take 8 (drop (at / 8) bytes) in
    let size : length part ≡ 8 = omega (arith, length-take 8 (drop (at / 8) bytes), length-drop (at / 8) bytes) in
    let num : word ≡ number_in part = e ∙ le_word8 part (IsBytes-take 8 (drop (at / 8) bytes) (IsBytes-drop (at / 8) bytes fits)) size in
    let all : word / 2 ^ 0 % 2 ^ 64 ≡ word = ap (λ x. x % 2 ^ 64) (div-one word) ∙ mod-eq_of_lt small in
    let shift : word / 2 ^ (at % 8) % 2 ^ 64 ≡ word / 2 ^ 0 % 2 ^ 64 = ap (λ s. word / 2 ^ s % 2 ^ 64) even in
    sym all ∙ sym shift ∙ ap (λ x. x / 2 ^ (at % 8) % 2 ^ 64) num ∙ field_in bytes at 64 len 8 (omega arith) within

-- one bit as a number
pub digit-get : (bits : List Bool) (i : ℕ) → number_of bits / 2 ^ i % 2 ≡ digit (get_or bits i false)
unfolding number_of
digit-get [] i = ap (λ x. x % 2) (zero-div (2 ^ i))
digit-get (b ∷ bits) zero = let e : (digit b + 2 * number_of bits) / 1 ≡ digit b + 2 * number_of bits = div-one _ in ap (λ x. x % 2) e ∙ omega (arith, digit-lt b)
digit-get (b ∷ bits) (suc i) =
    let half : (digit b + 2 * number_of bits) / 2 ≡ number_of bits = omega (arith, digit-lt b) in
    let e : (digit b + 2 * number_of bits) / 2 ^ suc i ≡ number_of bits / 2 ^ i = ap (λ k. (digit b + 2 * number_of bits) / k) (pow-succ' 2 i) ∙ sym (div-div-eq-div-mul (digit b + 2 * number_of bits) 2 (2 ^ i)) ∙ ap (λ x. x / 2 ^ i) half in
    ap (λ x. x % 2) e ∙ digit-get bits i

pub test-digit : (b : Bool) → eqb (digit b) 1 ≡ b
test-digit true = refl
test-digit false = refl

digit-one : (b : Bool) → digit b ≡ 1 → b ≡ true
digit-one true e = refl
digit-one false e = absurd (omega arith)

-- a bit, read from its byte
pub bit_in : (bytes : List ℕ) (i len : ℕ) → IsBytes bytes → i < len → i / 8 < length bytes → eqb (get_or bytes (i / 8) 0 / 2 ^ (i % 8) % 2) 1 ≡ get_or (take len (bits_of bytes)) i false
bit_in bytes i len fits lt within =
    let bits = take len (bits_of bytes) in
    let byte : ℕ = get_or bytes (i / 8) 0 in
    let cell : take 1 (drop (i / 8) bytes) ≡ byte ∷ [] = ap (take 1) (drop_more bytes (i / 8) 0 within) in
    let num : number_in (take 1 (drop (i / 8) bytes)) ≡ byte = ap number_in cell ∙ number_in-cons byte [] (fits (i / 8)) ∙ (rw number_in-nil (omega arith)) in
    let field : byte / 2 ^ (i % 8) % 2 ≡ number_of (take 1 (drop i bits)) = ap (λ x. x / 2 ^ (i % 8) % 2) (sym num) ∙ field_in bytes i 1 len 1 (omega arith) (omega arith) in
    let one : number_of (take 1 (drop i bits)) ≡ number_of bits / 2 ^ i % 2 = number_of-take 1 (drop i bits) ∙ ap (λ x. x % 2 ^ 1) (number_of-drop i bits) in
    ap (λ x. eqb x 1) (field ∙ one ∙ digit-get bits i) ∙ test-digit (get_or bits i false)

-- ones, part by part
pub ones_more : (a w : ℕ) (xs : List Bool) → ones_of (take (a + w) xs) ≡ ones_of (take a xs) + ones_of (take w (drop a xs))
ones_more a w xs =
    let front : take a (take (a + w) xs) ≡ take a xs = take-take a (a + w) xs (omega arith) in
    ap ones_of (sym (take-append-drop a (take (a + w) xs))) ∙ ones_of-append (take a (take (a + w) xs)) (drop a (take (a + w) xs)) ∙ (rw (front, drop-take a w xs) refl)

pub ones_field : (a w word : ℕ) (xs : List Bool) → word ≡ number_of (take w (drop a xs)) → ones_of (take (a + w) xs) ≡ ones_of (take a xs) + count_ones word
ones_field a w word xs e = ones_more a w xs ∙ ap (λ n. ones_of (take a xs) + n) (sym (ones-number_of (take w (drop a xs))) ∙ ap count_ones (sym e))

pub ones_mod_add : (n j k : ℕ) → count_ones (n % 2 ^ (j + k)) ≡ count_ones (n / 2 ^ k % 2 ^ j) + count_ones (n % 2 ^ k)
ones_mod_add n j k = ap count_ones (mod-pow-add n j k) ∙ ones_cat k (n / 2 ^ k % 2 ^ j) (n % 2 ^ k) (mod-lt n (pow_pos k))

-- a bit among the low bits
low_bit : (n w p : ℕ) → p < w → n / 2 ^ p % 2 ≡ n % 2 ^ w / 2 ^ p % 2
low_bit n w p lt =
    let e : (w - p) + p ≡ w = omega arith in
    let field : n % 2 ^ w / 2 ^ p ≡ n / 2 ^ p % 2 ^ (w - p) = ap (λ k. n % 2 ^ k / 2 ^ p) (sym e) ∙ field_of n (w - p) p in
    sym (ap (λ x. x % 2) field ∙ low_of_low (n / 2 ^ p) 1 (w - p) (omega arith))

-- a bit of a word, and the bits of the word before it
pub bit_of_part : (bits : List Bool) (at w word p : ℕ) → p < w → word ≡ number_of (take w (drop at bits)) → number_of bits / 2 ^ (at + p) % 2 ≡ word / 2 ^ p % 2
bit_of_part bits at w word p inside e =
    ap (λ x. x % 2) (sym (shr-shr (number_of bits) at p)) ∙ ap (λ x. x / 2 ^ p % 2) (sym (number_of-drop at bits)) ∙ low_bit (number_of (drop at bits)) w p inside ∙ ap (λ x. x / 2 ^ p % 2) (sym (number_of-take w (drop at bits)) ∙ sym e)

pub front_of_part : (bits : List Bool) (at w word p : ℕ) → p < w → word ≡ number_of (take w (drop at bits)) → number_of (take p (drop at bits)) ≡ word % 2 ^ p
front_of_part bits at w word p inside e =
    number_of-take p (drop at bits) ∙ sym (ap (λ x. x % 2 ^ p) (e ∙ number_of-take w (drop at bits)) ∙ low_of_low (number_of (drop at bits)) p w (omega arith))

pub part_below : (bits : List Bool) (at w word : ℕ) → at + w ≤ length bits → word ≡ number_of (take w (drop at bits)) → word < 2 ^ w
part_below bits at w word le e =
    let field = take w (drop at bits) in
    rw e (subst (λ n. number_of field < 2 ^ n) (omega (arith, length-take w (drop at bits), length-drop at bits)) (number_of-lt field))

-- a place in a word is a place in the bits
pub record Placed (bits : List Bool) (at w p k : ℕ) : Type 0 where
  pub within : p < w
  pub one : IsOneAt bits (at + p)
  pub before : ones_of (take (at + p) bits) ≡ ones_of (take at bits) + k

pub placed : (bits : List Bool) (at w word p k : ℕ) → at + w ≤ length bits → word ≡ number_of (take w (drop at bits)) → IsPlaceIn word k p → Placed bits at w p k
placed bits at w word p k le e place =
    let small : word < 2 ^ w = part_below bits at w word le e in
    let inside : p < w =
    elim (cases_lt p w) [
      | inl lt ↦ lt
      | inr ge ↦
          let wide : 2 ^ w ≤ 2 ^ p = pow-le-pow_right (omega arith) ge in
          let none : word / 2 ^ p ≡ 0 = div-eq_of_lt (omega arith) in
          absurd (omega (arith, place.one, ap (λ x. x % 2) none))
    ] in
    let digit_is : number_of bits / 2 ^ (at + p) % 2 ≡ 1 = bit_of_part bits at w word p inside e ∙ place.one in
    let front = front_of_part bits at w word p inside e in
    record {
      within = inside;
      one = (omega arith, digit-one _ (sym (digit-get bits (at + p)) ∙ digit_is));
      before = ones_field at p (word % 2 ^ p) bits (sym front) ∙ ap (λ n. ones_of (take at bits) + n) place.before;
    }

-- the place of the lowest 1
pub lowest : (word : ℕ) → 0 < word → word < 2 ^ 64 → IsPlaceIn word 0 (trailing_zeros w64 word)
lowest word pos fits =
    let low = bit_at-trailing_zeros w64 word pos fits in
    let t : ℕ = trailing_zeros w64 word in
    let same : (i : ℕ) → bit_at (word % 2 ^ t) i ≡ bit_at 0 i = λ i.
    elim (cases_lt i t) [
      | inl lt ↦ sym (bit_at_cat_low (word / 2 ^ t) t (word % 2 ^ t) i lt) ∙ ap (λ n. bit_at n i) (shr_split word t) ∙ low.2 i lt ∙ sym (bit_at-zero i)
      | inr le ↦ bit_at_above (word % 2 ^ t) t i (mod-lt word (pow_pos t)) le ∙ sym (bit_at-zero i)
    ] in
    let none : word % 2 ^ t ≡ 0 = same_from_bits (word % 2 ^ t) 0 same in
    record { within = low.0; one = low.1; before = ap count_ones none ∙ omega (arith, ones_le_self 0) }

-- the place of the highest 1
pub highest : (word r : ℕ) → 2 ^ r ≤ word → word < 2 * 2 ^ r → r < 64 → (k : ℕ) × IsPlaceIn word k r × (count_ones word ≡ k + 1)
highest word r le lt small =
    let one : word / 2 ^ r ≡ 1 = div-unique word (2 ^ r) le lt in
    let k : ℕ = count_ones (word % 2 ^ r) in
    let ones : count_ones word ≡ count_ones (word / 2 ^ r) + k = ap count_ones (sym (shr_split word r)) ∙ ones_cat r (word / 2 ^ r) (word % 2 ^ r) (mod-lt word (pow_pos r)) in
    let first : count_ones 1 ≡ 1 = ones_step 1 ∙ omega (arith, ones_le_self (1 / 2)) in
    (k, record { within = small; one = ap (λ x. x % 2) one; before = refl }, ones ∙ ap (λ x. count_ones x + k) one ∙ omega (arith, first))
  where
    div-unique : (n d : ℕ) → d ≤ n → n < 2 * d → n / d ≡ 1
    div-unique n d le lt = div-eq_of_lt-le {k = 1} d {m = n} (omega arith) (omega arith)

-- ---- a word by halves

-- what is left to find lies in the next 2 ^ size bits
pub record Narrowed (word k left at size : ℕ) : Type 0 where
  pub fits : at + 2 ^ size ≤ 64
  pub inside : left < count_ones (word / 2 ^ at % 2 ^ (2 ^ size))
  pub before : k ≡ left + count_ones (word % 2 ^ at)

pub narrow_first : (word k : ℕ) → word < 2 ^ 64 → k < count_ones word → Narrowed word k k 0 6
narrow_first word k fits lt =
    let all : word / 2 ^ 0 % 2 ^ 64 ≡ word = ap (λ x. x % 2 ^ 64) (div-one word) ∙ mod-eq_of_lt fits in
    let none : word % 1 ≡ 0 = omega arith in
    record { fits = omega arith; inside = rw all lt; before = rw none (omega (arith, ones_le_self 0)) }

halves : (word at h : ℕ) → count_ones (word / 2 ^ at % 2 ^ (h + h)) ≡ count_ones (word / 2 ^ (at + h) % 2 ^ h) + count_ones (word / 2 ^ at % 2 ^ h)
halves word at h = ones_mod_add (word / 2 ^ at) h h ∙ ap (λ x. count_ones (x % 2 ^ h) + count_ones (word / 2 ^ at % 2 ^ h)) (shr-shr word at h)

doubled : (s : ℕ) → 2 ^ (s + 1) ≡ 2 ^ s + 2 ^ s
doubled s = omega (arith, pow-add 2 s 1)

pub narrow_up : (word k left at size half low : ℕ) → 0 < size → half ≡ 2 ^ (size - 1) → low ≡ count_ones (word / 2 ^ at % 2 ^ half) → low ≤ left → Narrowed word k left at size → Narrowed word k (left - low) (at + half) (size - 1)
narrow_up word k left at size half low pos h l le n =
    let s : ℕ = size - 1 in
    let twice : 2 ^ size ≡ half + half = ap (λ i. 2 ^ i) (omega arith) ∙ doubled s ∙ (rw h refl) in
    let two : count_ones (word / 2 ^ at % 2 ^ (2 ^ size)) ≡ count_ones (word / 2 ^ (at + half) % 2 ^ half) + low = ap (λ i. count_ones (word / 2 ^ at % 2 ^ i)) twice ∙ halves word at half ∙ (rw l refl) in
    let passed : count_ones (word % 2 ^ (at + half)) ≡ low + count_ones (word % 2 ^ at) = ap (λ i. count_ones (word % 2 ^ i)) (add_comm at half) ∙ ones_mod_add word half at ∙ (rw l refl) in
    let inside : left - low < count_ones (word / 2 ^ (at + half) % 2 ^ half) = omega (arith, two, n.inside) in
    record { fits = omega (arith, twice, h, n.fits); inside = rw (← h) inside; before = omega (arith, passed, n.before) }

pub narrow_down : (word k left at size half low : ℕ) → 0 < size → half ≡ 2 ^ (size - 1) → low ≡ count_ones (word / 2 ^ at % 2 ^ half) → left < low → Narrowed word k left at size → Narrowed word k left at (size - 1)
narrow_down word k left at size half low pos h l lt n =
    let twice : 2 ^ size ≡ half + half = ap (λ i. 2 ^ i) (omega arith) ∙ doubled (size - 1) ∙ (rw h refl) in
    let inside : left < count_ones (word / 2 ^ at % 2 ^ half) = rw (← l) lt in
    record { fits = omega (arith, twice, h, n.fits); inside = rw (← h) inside; before = n.before }

pub narrow_last : (word k left at : ℕ) → Narrowed word k left at 0 → IsPlaceIn word k at
narrow_last word k left at n =
    let bit : ℕ = word / 2 ^ at % 2 in
    let lt : left < count_ones bit = n.inside in
    let le : count_ones bit ≤ bit = ones_le_self bit in
    record { within = omega (arith, n.fits); one = omega arith; before = omega (arith, n.before) }

-- ---- at most eight bytes

pub few_below : (bytes : List ℕ) (number k : ℕ) → IsBytes bytes → length bytes ≤ 8 → k < length bytes → number ≡ number_in (drop (length bytes - k) bytes) → number < 2 ^ 56
few_below bytes number k fits short lt e =
    let fewer : 8 * length (drop (length bytes - k) bytes) ≤ 56 = omega (arith, length-drop (length bytes - k) bytes) in
    let wide : 2 ^ (8 * length (drop (length bytes - k) bytes)) ≤ 2 ^ 56 = pow-le-pow_right (omega arith) fewer in
    omega (arith, number_in-lt (drop (length bytes - k) bytes), wide)

pub few_more : (bytes : List ℕ) (number k : ℕ) → IsBytes bytes → k < length bytes → number ≡ number_in (drop (length bytes - k) bytes)
    → number * 256 + get_or bytes (length bytes - 1 - k) 0 ≡ number_in (drop (length bytes - (k + 1)) bytes)
few_more bytes number k fits lt e =
    let at : ℕ = length bytes - (k + 1) in
    let next : length bytes - k ≡ at + 1 = omega arith in
    let here : length bytes - 1 - k ≡ at = omega arith in
    let step = number_in-step bytes at fits in
    let num : number ≡ number_in (drop (at + 1) bytes) = e ∙ ap (λ n. number_in (drop n bytes)) next in
    rw (here, step) (omega (arith, num))

-- eight bytes without the first bits
pub low_below : (bytes : List ℕ) (s : ℕ) → s < 8 → number_in (take 8 bytes) / 2 ^ s < 2 ^ (64 - s)
low_below bytes s few =
    let size : 8 * length (take 8 bytes) ≤ 64 = omega (arith, length-take 8 bytes) in
    let most : 2 ^ (8 * length (take 8 bytes)) ≤ 2 ^ 64 = pow-le-pow_right (omega arith) size in
    let all : 2 ^ (64 - s + s) ≡ 2 ^ 64 = (let e : 64 - s + s ≡ 64 = omega arith in ap (λ n. 2 ^ n) e) in
    shr_below (number_in (take 8 bytes)) (64 - s) s (omega (arith, number_in-lt (take 8 bytes), most, all))

-- a field that ends in the ninth byte
pub field_over : (bytes : List ℕ) (i w len : ℕ) → get_or bytes (i / 8 + 8) 0 < 256 → 64 < i % 8 + w → w ≤ 64 → i + w ≤ len → len ≤ 8 * length bytes
    → number_in (take 8 (drop (i / 8) bytes)) / 2 ^ (i % 8) + get_or bytes (i / 8 + 8) 0 % 2 ^ (i % 8 + w - 64) * 2 ^ (64 - i % 8) ≡ number_of (take w (drop i (take len (bits_of bytes))))
field_over bytes i w len byte over wide within long =
    let s : ℕ = i % 8 in
    let k : ℕ = 64 - s in
    let j : ℕ = s + w - 64 in
    let rest = drop (i / 8) bytes in
    let b : ℕ = get_or bytes (i / 8 + 8) 0 in
    let eight : ℕ = number_in (take 8 rest) in
    let low : ℕ = eight / 2 ^ s in
    let size : length (take 8 rest) ≡ 8 = omega (arith, length-take 8 rest, length-drop (i / 8) bytes) in
    let here : get_or rest 8 0 ≡ b = get_or-drop (i / 8) bytes 8 0 in
    let next : take 9 rest ≡ take 8 rest ++ b ∷ [] = take_more rest 8 0 (omega (arith, length-drop (i / 8) bytes)) ∙ ap (λ x. take 8 rest ++ x ∷ []) here in
    let one : number_in (b ∷ []) ≡ b = number_in-cons b [] byte ∙ (rw number_in-nil (omega arith)) in
    let nine : number_in (take 9 rest) ≡ eight + 2 ^ 64 * b = ap number_in next ∙ number_in-append (take 8 rest) (b ∷ []) ∙ (rw (size, one) refl) in
    let all : s + k ≡ 64 = omega arith in
    let power : 2 ^ 64 ≡ 2 ^ s * 2 ^ k = ap (λ n. 2 ^ n) (sym all) ∙ pow-add 2 s k in
    let parts : number_in (take 9 rest) ≡ eight + 2 ^ s * (2 ^ k * b) = nine ∙ (rw (power, mul_assoc (2 ^ s) (2 ^ k) b) refl) in
    let high : number_in (take 9 rest) / 2 ^ s ≡ low + 2 ^ k * b = ap (λ n. n / 2 ^ s) parts ∙ add-mul-div_left eight (2 ^ k * b) (pow_pos s) in
    let turn : low + 2 ^ k * b ≡ b * 2 ^ k + low = omega (arith, mul_comm (2 ^ k) b) in
    let small : low < 2 ^ k = low_below rest s (omega arith) in
    let whole : j + k ≡ w = omega arith in
    let cut : (b * 2 ^ k + low) % 2 ^ w ≡ b % 2 ^ j * 2 ^ k + low =
    ap (λ n. (b * 2 ^ k + low) % 2 ^ n) (sym whole) ∙ mod-pow-add (b * 2 ^ k + low) j k ∙ (rw (div-mul-add b (2 ^ k) low small, mod-mul-add b (2 ^ k) low small) refl) in
    let field : number_in (take 9 rest) / 2 ^ s % 2 ^ w ≡ number_of (take w (drop i (take len (bits_of bytes)))) = field_in bytes i w len 9 (omega arith) within in
    let back : low + b % 2 ^ j * 2 ^ k ≡ b % 2 ^ j * 2 ^ k + low = omega arith in
    back ∙ sym cut ∙ ap (λ n. n % 2 ^ w) (sym turn) ∙ ap (λ n. n % 2 ^ w) (sym high) ∙ field

-- what such a field has in the ninth byte is not cut off where it is shifted, and fits above the rest
pub part_fits_above : (low byte s w : ℕ) → s < 8 → 64 < s + w → w ≤ 64 → low < 2 ^ (64 - s)
    → (byte % 2 ^ (s + w - 64) * 2 ^ (64 - s) % 18446744073709551616 ≡ byte % 2 ^ (s + w - 64) * 2 ^ (64 - s)) × (low + byte % 2 ^ (s + w - 64) * 2 ^ (64 - s) < 18446744073709551616)
part_fits_above low byte s w few over wide small =
    let j : ℕ = s + w - 64 in
    let k : ℕ = 64 - s in
    let part : ℕ = byte % 2 ^ j in
    let above : part * 2 ^ k + low < 2 ^ k * 2 ^ j = mul-add-lt part (2 ^ k) low (2 ^ j) (mod-lt byte (pow_pos j)) small in
    let whole : k + j ≡ w = omega arith in
    let power : 2 ^ k * 2 ^ j ≡ 2 ^ w = sym (pow-add 2 k j) ∙ ap (λ n. 2 ^ n) whole in
    let most : 2 ^ w ≤ 2 ^ 64 = pow-le-pow_right (omega arith) wide in
    (mod-eq_of_lt (omega (arith, above, power, most)), omega (arith, above, power, most))

pub ones_of-nil : ones_of [] ≡ 0
unfolding ones_of
ones_of-nil = refl

-- a word with no ones
pub no_ones : (at w word : ℕ) (xs : List Bool) → word ≡ number_of (take w (drop at xs)) → word ≡ 0 → ones_of (take (at + w) xs) ≡ ones_of (take at xs)
no_ones at w word xs e zero_word = ones_field at w word xs e ∙ (rw zero_word (omega (arith, ones_le_self 0)))
