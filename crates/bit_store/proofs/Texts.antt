-- Texts and their bits.
use Rattle.std.proofs.Common.{◌≡◌, ℕ, zero, suc, ◌+◌, ◌-◌, ◌*◌, ◌/◌, ◌%◌, ◌^◌, ◌<◌, ◌≤◌, Bool, false, List, [], ◌∷◌, ◌++◌, length, take, drop, get_or, replicate, refl, sym, ap, ◌∙◌, arith, inl, inr, append_assoc}
use Rattle.std.proofs.Math.Nat.{mod-eq_of_lt, mod-lt}
use Rattle.std.proofs.lemmas.Nat.{pow_pos, pow-add, rows, from_le_bytes-to_le_bytes_8}
use Rattle.std.proofs.lemmas.Bool.{cases_lt}
use Rattle.std.proofs.lemmas.List.{length-append, length-take, length-drop, take-append-drop, take_at, drop_at, take_all, drop_all, length-replicate, get_or_past, nil_from_length, get_or-drop, get_or-take, drop_more}
use Rattle.std.specs.Int.{w64, from_le_bytes, to_le_bytes}
use Rattle.bit_store.specs.Bits.{number_of, low_bits, bits_of, bytes_from, bytes_for, text_of, IsHeld}
use Rattle.bit_store.specs.Counts.{number_in}
use Rattle.bit_store.proofs.Numbers.{number_of-lt, number_of-append, number_of-low_bits, length-low_bits, number_of-take, number_of-drop, same_bits, number_of-replicate}

abbrev pub IsBytes : List ℕ → Type 0
IsBytes bytes = (i : ℕ) → get_or bytes i 0 < 256

pub IsBytes-rest : (b : ℕ) (bytes : List ℕ) → IsBytes (b ∷ bytes) → IsBytes bytes
IsBytes-rest b bytes h i = h (suc i)

pub length-bits_of : (bytes : List ℕ) → length (bits_of bytes) ≡ 8 * length bytes
unfolding bits_of
length-bits_of [] = omega arith
length-bits_of (b ∷ bytes) = omega (arith, length-append (low_bits 8 b) (bits_of bytes), length-low_bits 8 b, length-bits_of bytes)

pub bits_of-append : (a b : List ℕ) → bits_of (a ++ b) ≡ bits_of a ++ bits_of b
unfolding bits_of
bits_of-append [] b = refl
bits_of-append (x ∷ a) b = rw (bits_of-append a b) (sym (append_assoc (low_bits 8 x) (bits_of a) (bits_of b)))

bits_of-nil : bits_of [] ≡ []
unfolding bits_of
bits_of-nil = refl

halves : (n : ℕ) (bytes : List ℕ) → bits_of bytes ≡ bits_of (take n bytes) ++ bits_of (drop n bytes)
halves n bytes = ap bits_of (sym (take-append-drop n bytes)) ∙ bits_of-append (take n bytes) (drop n bytes)

pub bits_of-take : (n : ℕ) (bytes : List ℕ) → bits_of (take n bytes) ≡ take (8 * n) (bits_of bytes)
bits_of-take n bytes =
    elim (cases_lt n (length bytes)) [
      | inl lt ↦
          let len : length (bits_of (take n bytes)) ≡ 8 * n = omega (arith, length-bits_of (take n bytes), length-take n bytes) in
          sym (ap (take (8 * n)) (halves n bytes) ∙ take_at (bits_of (take n bytes)) (bits_of (drop n bytes)) (8 * n) len)
      | inr le ↦
          let fits : length (bits_of bytes) ≤ 8 * n = omega (arith, length-bits_of bytes) in
          ap bits_of (take_all n bytes le) ∙ sym (take_all (8 * n) (bits_of bytes) fits)
    ]

pub bits_of-drop : (n : ℕ) (bytes : List ℕ) → bits_of (drop n bytes) ≡ drop (8 * n) (bits_of bytes)
bits_of-drop n bytes =
    elim (cases_lt n (length bytes)) [
      | inl lt ↦
          let len : length (bits_of (take n bytes)) ≡ 8 * n = omega (arith, length-bits_of (take n bytes), length-take n bytes) in
          sym (ap (drop (8 * n)) (halves n bytes) ∙ drop_at (bits_of (take n bytes)) (bits_of (drop n bytes)) (8 * n) len)
      | inr le ↦
          let fits : length (bits_of bytes) ≤ 8 * n = omega (arith, length-bits_of bytes) in
          ap bits_of (drop_all n bytes le) ∙ bits_of-nil ∙ sym (drop_all (8 * n) (bits_of bytes) fits)
    ]

pub number_in-nil : number_in [] ≡ 0
unfolding bits_of number_of
number_in-nil = refl

pub number_in-cons : (b : ℕ) (bytes : List ℕ) → b < 256 → number_in (b ∷ bytes) ≡ b + 256 * number_in bytes
unfolding bits_of
number_in-cons b bytes lt =
    let byte : number_of (low_bits 8 b) ≡ b = number_of-low_bits 8 b ∙ mod-eq_of_lt lt in
    number_of-append (low_bits 8 b) (bits_of bytes) ∙ (rw (length-low_bits 8 b, byte) refl)

pub number_in-append : (a b : List ℕ) → number_in (a ++ b) ≡ number_in a + 2 ^ (8 * length a) * number_in b
number_in-append a b = ap number_of (bits_of-append a b) ∙ number_of-append (bits_of a) (bits_of b) ∙ (rw (length-bits_of a) refl)

pub number_in-lt : (bytes : List ℕ) → number_in bytes < 2 ^ (8 * length bytes)
number_in-lt bytes = rw (← length-bits_of bytes) (number_of-lt (bits_of bytes))

-- the bytes that a list of bits is put into are the bytes that hold it
pub bytes_from-held : (bytes : List ℕ) (bits : List Bool) → IsBytes bytes → length bits ≤ 8 * length bytes → number_in bytes ≡ number_of bits → bytes_from (length bytes) bits ≡ bytes
unfolding bytes_from
bytes_from-held [] bits fits le e = refl
bytes_from-held (b ∷ bytes) bits fits le e =
    let lt : b < 256 = fits 0 in
    let whole : b + 256 * number_in bytes ≡ number_of bits = sym (number_in-cons b bytes lt) ∙ e in
    let first : number_of (take 8 bits) ≡ b = number_of-take 8 bits ∙ omega (arith, whole) in
    let others : number_in bytes ≡ number_of (drop 8 bits) = sym (number_of-drop 8 bits ∙ omega (arith, whole)) in
    let short : length (drop 8 bits) ≤ 8 * length bytes = omega (arith, length-drop 8 bits) in
    rw (first, bytes_from-held bytes (drop 8 bits) (IsBytes-rest b bytes fits) short others) refl

pub length-bytes_from : (n : ℕ) (bits : List Bool) → length (bytes_from n bits) ≡ n
unfolding bytes_from
length-bytes_from zero bits = refl
length-bytes_from (suc n) bits = ap suc (length-bytes_from n (drop 8 bits))

pub IsBytes-bytes_from : (n : ℕ) (bits : List Bool) → IsBytes (bytes_from n bits)
unfolding bytes_from
IsBytes-bytes_from zero bits i = omega arith
IsBytes-bytes_from (suc n) bits zero = omega (arith, number_of-take 8 bits)
IsBytes-bytes_from (suc n) bits (suc i) = IsBytes-bytes_from n (drop 8 bits) i

-- the number of a text is that of its bits
pub number_in-bytes_from : (n : ℕ) (bits : List Bool) → length bits ≤ 8 * n → number_in (bytes_from n bits) ≡ number_of bits
unfolding bytes_from number_of
number_in-bytes_from zero bits le = number_in-nil ∙ ap number_of (sym (nil_from_length bits (omega arith)))
number_in-bytes_from (suc n) bits le =
    let short : length (drop 8 bits) ≤ 8 * n = omega (arith, length-drop 8 bits) in
    let first = number_of-take 8 bits in
    let others = number_of-drop 8 bits in
    let lt : number_of (take 8 bits) < 256 = omega (arith, first) in
    number_in-cons (number_of (take 8 bits)) (bytes_from n (drop 8 bits)) lt ∙ (rw (number_in-bytes_from n (drop 8 bits) short) (omega (arith, first, others)))

-- the bits of the text of a list of bits: the bits, and zeros up to the end of the last byte
pub bits_of-bytes_from : (n : ℕ) (bits : List Bool) → length bits ≤ 8 * n → bits_of (bytes_from n bits) ≡ bits ++ replicate (8 * n - length bits) false
bits_of-bytes_from n bits le =
    let zeros = replicate (8 * n - length bits) false in
    let len : length (bits_of (bytes_from n bits)) ≡ length (bits ++ zeros) = omega (arith, length-bits_of (bytes_from n bits), length-bytes_from n bits, length-append bits zeros, length-replicate (8 * n - length bits) false) in
    let num : number_of (bits ++ zeros) ≡ number_of bits = number_of-append bits zeros ∙ (rw (number_of-replicate (8 * n - length bits)) (omega arith)) in
    same_bits _ _ len (number_in-bytes_from n bits le ∙ sym num)

-- ---- words

-- one byte, and those after it
pub number_in-step : (bytes : List ℕ) (k : ℕ) → IsBytes bytes → number_in (drop k bytes) ≡ get_or bytes k 0 + 256 * number_in (drop (k + 1) bytes)
number_in-step bytes k fits =
    elim (cases_lt k (length bytes)) [
      | inl lt ↦ ap number_in (drop_more bytes k 0 lt) ∙ number_in-cons (get_or bytes k 0) (drop (k + 1) bytes) (fits k)
      | inr le ↦ rw (drop_all k bytes le, drop_all (k + 1) bytes (omega arith), get_or_past bytes k 0 le, number_in-nil) refl
    ]

number_in-past : (bytes : List ℕ) (k : ℕ) → length bytes ≤ k → number_in (drop k bytes) ≡ 0
number_in-past bytes k le = ap number_in (drop_all k bytes le) ∙ number_in-nil

pub le_word8 : (bytes : List ℕ) → IsBytes bytes → length bytes ≡ 8 → from_le_bytes w64 bytes ≡ number_in bytes
le_word8 bytes fits len =
    omega (arith, number_in-step bytes 0 fits, number_in-step bytes 1 fits, number_in-step bytes 2 fits, number_in-step bytes 3 fits, number_in-step bytes 4 fits, number_in-step bytes 5 fits, number_in-step bytes 6 fits, number_in-step bytes 7 fits, number_in-past bytes 8 (omega arith))

fits_nil : IsBytes []
fits_nil i = omega arith

fits_cons : (b : ℕ) (bytes : List ℕ) → b < 256 → IsBytes bytes → IsBytes (b ∷ bytes)
fits_cons b bytes lt fits zero = lt
fits_cons b bytes lt fits (suc i) = fits i

byte : (n : ℕ) → n % 256 < 256
byte n = omega arith

le_fits : (n : ℕ) → IsBytes (to_le_bytes w64 n)
le_fits n =
    let f7 = fits_cons (n / 72057594037927936 % 256) [] (byte (n / 72057594037927936)) fits_nil in
    let f6 = fits_cons (n / 281474976710656 % 256) (n / 72057594037927936 % 256 ∷ []) (byte (n / 281474976710656)) f7 in
    let f5 = fits_cons (n / 1099511627776 % 256) (n / 281474976710656 % 256 ∷ n / 72057594037927936 % 256 ∷ []) (byte (n / 1099511627776)) f6 in
    let f4 = fits_cons (n / 4294967296 % 256) (n / 1099511627776 % 256 ∷ n / 281474976710656 % 256 ∷ n / 72057594037927936 % 256 ∷ []) (byte (n / 4294967296)) f5 in
    let f3 = fits_cons (n / 16777216 % 256) (n / 4294967296 % 256 ∷ n / 1099511627776 % 256 ∷ n / 281474976710656 % 256 ∷ n / 72057594037927936 % 256 ∷ []) (byte (n / 16777216)) f4 in
    let f2 = fits_cons (n / 65536 % 256) (n / 16777216 % 256 ∷ n / 4294967296 % 256 ∷ n / 1099511627776 % 256 ∷ n / 281474976710656 % 256 ∷ n / 72057594037927936 % 256 ∷ []) (byte (n / 65536)) f3 in
    let f1 = fits_cons (n / 256 % 256) (n / 65536 % 256 ∷ n / 16777216 % 256 ∷ n / 4294967296 % 256 ∷ n / 1099511627776 % 256 ∷ n / 281474976710656 % 256 ∷ n / 72057594037927936 % 256 ∷ []) (byte (n / 256)) f2 in
    fits_cons (n % 256) (n / 256 % 256 ∷ n / 65536 % 256 ∷ n / 16777216 % 256 ∷ n / 4294967296 % 256 ∷ n / 1099511627776 % 256 ∷ n / 281474976710656 % 256 ∷ n / 72057594037927936 % 256 ∷ []) (byte n) f1

-- the low bytes of a number
pub number_in-to_le_bytes : (n count : ℕ) → n < 2 ^ 64 → count ≤ 8 → n < 2 ^ (8 * count) → number_in (take count (to_le_bytes w64 n)) ≡ n
number_in-to_le_bytes n count fits le lt =
    let bytes = to_le_bytes w64 n in
    let all : number_in bytes ≡ n = sym (le_word8 bytes (le_fits n) refl) ∙ from_le_bytes-to_le_bytes_8 n fits in
    ap number_of (bits_of-take count bytes) ∙ number_of-take (8 * count) (bits_of bytes) ∙ (rw all (mod-eq_of_lt lt))

-- a digit above one below a
below : (a b x y : ℕ) → x < a → y < b → x + a * y < a * b
below a b x y p q = grind (arith, rows)

-- more bits at the end
pub appended : (len width value n : ℕ) (old new : List ℕ) → IsHeld len old → n ≡ value % 2 ^ width → number_in new ≡ number_in old + 2 ^ len * n → length new ≡ bytes_for (len + width)
    → (take (len + width) (bits_of new) ≡ take len (bits_of old) ++ low_bits width value) × IsHeld (len + width) new
appended len width value n old new held is num count =
    let long : len + width ≤ length (bits_of new) = omega (arith, length-bits_of new) in
    let long_old : len ≤ length (bits_of old) = omega (arith, length-bits_of old, held.count) in
    let few : length (take (len + width) (bits_of new)) ≡ len + width = omega (arith, length-take (len + width) (bits_of new)) in
    let few_old : length (take len (bits_of old)) ≡ len = omega (arith, length-take len (bits_of old)) in
    let same_len : length (take (len + width) (bits_of new)) ≡ length (take len (bits_of old) ++ low_bits width value) = omega (arith, few, few_old, length-append (take len (bits_of old)) (low_bits width value), length-low_bits width value) in
    let part : n < 2 ^ width = rw is (mod-lt value (pow_pos width)) in
    let bound : 2 ^ (len + width) ≡ 2 ^ len * 2 ^ width = pow-add 2 len width in
    let within : number_in new < 2 ^ (len + width) = rw (num, bound) (below (2 ^ len) (2 ^ width) (number_in old) n held.rest part) in
    let left : number_of (take (len + width) (bits_of new)) ≡ number_in new = number_of-take (len + width) (bits_of new) ∙ mod-eq_of_lt within in
    let front : number_of (take len (bits_of old)) ≡ number_in old = number_of-take len (bits_of old) ∙ mod-eq_of_lt held.rest in
    let right : number_of (take len (bits_of old) ++ low_bits width value) ≡ number_in old + 2 ^ len * n = number_of-append (take len (bits_of old)) (low_bits width value) ∙ (rw (few_old, front, number_of-low_bits width value, ← is) refl) in
    (same_bits _ _ same_len (left ∙ num ∙ sym right), record { count = count; rest = within })

-- the bytes that hold the bits are their text
pub text_of-held : (len : ℕ) (bytes : List ℕ) → IsBytes bytes → IsHeld len bytes → text_of (take len (bits_of bytes)) ≡ bytes
text_of-held len bytes fits held =
    let bits = take len (bits_of bytes) in
    let len_is : length bits ≡ len = omega (arith, length-take len (bits_of bytes), length-bits_of bytes, held.count) in
    let num : number_in bytes ≡ number_of bits = sym (number_of-take len (bits_of bytes) ∙ mod-eq_of_lt held.rest) in
    let count : bytes_for (length bits) ≡ length bytes = rw len_is (sym held.count) in
    rw count (bytes_from-held bytes bits fits (omega (arith, len_is, held.count)) num)

pub IsBytes-drop : (n : ℕ) (bytes : List ℕ) → IsBytes bytes → IsBytes (drop n bytes)
IsBytes-drop n bytes h i = rw get_or-drop (h (n + i))

pub IsBytes-take : (n : ℕ) (bytes : List ℕ) → IsBytes bytes → IsBytes (take n bytes)
IsBytes-take n bytes h i =
    elim (cases_lt i n) [
      | inl lt ↦ rw (get_or-take n bytes i 0 lt) (h i)
      | inr le ↦ rw (get_or_past (take n bytes) i 0 (omega (arith, length-take n bytes))) (omega arith)
    ]

-- the first eight bytes from a place on
pub le_front8 : (bytes : List ℕ) (at word : ℕ) → IsBytes bytes → at + 8 ≤ length bytes → word ≡ from_le_bytes w64 (take 8 (drop at bytes)) → word ≡ number_in (take 8 (drop at bytes))
le_front8 bytes at word fits long e =
    let part = take 8 (drop at bytes) in
    e ∙ le_word8 part (IsBytes-take 8 (drop at bytes) (IsBytes-drop at bytes fits)) (omega (arith, length-take 8 (drop at bytes), length-drop at bytes))

-- the bits that the bytes hold are as many as is said
pub held_back : (len : ℕ) (bytes : List ℕ) → IsHeld len bytes → take (length (take len (bits_of bytes))) (bits_of bytes) ≡ take len (bits_of bytes)
held_back len bytes held =
    let size : length (take len (bits_of bytes)) ≡ len = omega (arith, length-take len (bits_of bytes), length-bits_of bytes, held.count) in
    ap (λ n. take n (bits_of bytes)) size

-- the bits of the text of bits are those bits
pub bits_of-text_of : (bits : List Bool) → take (length bits) (bits_of (text_of bits)) ≡ bits
bits_of-text_of bits =
    let n : ℕ = bytes_for (length bits) in
    ap (take (length bits)) (bits_of-bytes_from n bits (omega arith)) ∙ take_at bits (replicate (8 * n - length bits) false) (length bits) refl

-- bytes hold all their bits
pub all_held : (n : ℕ) (bytes : List ℕ) → n ≡ length bytes → IsHeld (8 * n) bytes
all_held n bytes e = record { count = omega (arith, e); rest = rw e (number_in-lt bytes) }
