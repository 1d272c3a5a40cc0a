-- Bits put behind those of a text.
use Rattle.std.proofs.Common.{◌≡◌, ℕ, zero, suc, ◌+◌, ◌-◌, ◌*◌, ◌/◌, ◌%◌, ◌^◌, ◌<◌, Bool, false, List, [], ◌∷◌, ◌++◌, length, take, drop, get_or, replicate, refl, sym, ap, ◌∙◌, arith, inl, inr, append_assoc}
use Rattle.std.specs.Int.{w64, to_be_bytes}
use Rattle.std.proofs.Math.Nat.{mod-eq_of_lt}
use Rattle.std.proofs.lemmas.Bool.{cases_lt}
use Rattle.std.proofs.lemmas.List.{length-append, take_at, drop_at, get_or_append_left, get_or-append_right}
use Rattle.bit_store.specs.Bits.{number_of, low_bits, bits_of, bytes_from, bytes_for, text_of}
use Rattle.bit_store.proofs.Numbers.{number_of-low_bits, length-low_bits}
use Rattle.bit_store.proofs.Texts.{IsBytes, IsBytes-rest, length-bits_of, bits_of-append, bits_of-bytes_from, IsBytes-bytes_from, length-bytes_from}

IsBytes-append : (a b : List ℕ) → IsBytes a → IsBytes b → IsBytes (a ++ b)
IsBytes-append a b f g i =
    elim (cases_lt i (length a)) [
      | inl lt ↦ rw (get_or_append_left a b 0 i lt) (f i)
      | inr le ↦ rw (get_or-append_right a b (length a) i 0 refl le) (g (i - length a))
    ]

IsBytes-cons : (b : ℕ) (bytes : List ℕ) → b < 256 → IsBytes bytes → IsBytes (b ∷ bytes)
IsBytes-cons b bytes lt fits zero = lt
IsBytes-cons b bytes lt fits (suc i) = fits i

IsBytes-nil : IsBytes []
IsBytes-nil i = omega arith

-- one byte more in front
text_of-cons : (b : ℕ) (rest : List Bool) → b < 256 → text_of (low_bits 8 b ++ rest) ≡ b ∷ text_of rest
unfolding bytes_from
text_of-cons b rest lt =
    let all = low_bits 8 b ++ rest in
    let size : length all ≡ 8 + length rest = omega (arith, length-append (low_bits 8 b) rest, length-low_bits 8 b) in
    let more : bytes_for (length all) ≡ suc (bytes_for (length rest)) = ap bytes_for size ∙ omega arith in
    let first : number_of (take 8 all) ≡ b = ap number_of (take_at (low_bits 8 b) rest 8 (length-low_bits 8 b)) ∙ number_of-low_bits 8 b ∙ mod-eq_of_lt lt in
    let others : drop 8 all ≡ rest = drop_at (low_bits 8 b) rest 8 (length-low_bits 8 b) in
    ap (λ n. bytes_from n all) more ∙ (rw (first, others) refl)

text_behind : (bytes : List ℕ) (bits : List Bool) → IsBytes bytes → text_of (bits_of bytes ++ bits) ≡ bytes ++ text_of bits
unfolding bits_of
text_behind [] bits fits = refl
text_behind (b ∷ bytes) bits fits =
    ap text_of (append_assoc (low_bits 8 b) (bits_of bytes) bits) ∙ text_of-cons b (bits_of bytes ++ bits) (fits 0) ∙ ap (λ bs. b ∷ bs) (text_behind bytes bits (IsBytes-rest b bytes fits))

-- a header, bits up to the end of their last byte, and bits behind them
pub parts_behind : (head : List ℕ) (low up : List Bool) (z : ℕ) → IsBytes head → z ≡ 8 * bytes_for (length (bits_of head ++ low)) - length (bits_of head ++ low)
    → text_of (((bits_of head ++ low) ++ replicate z false) ++ up) ≡ head ++ (text_of low ++ text_of up)
parts_behind head low up z fits is =
    let n : ℕ = bytes_for (length low) in
    let size : length (bits_of head ++ low) ≡ 8 * length head + length low = omega (arith, length-append (bits_of head) low, length-bits_of head) in
    let same : z ≡ 8 * n - length low = is ∙ ap (λ m. 8 * bytes_for m - m) size ∙ omega arith in
    let filled : bits_of (text_of low) ≡ low ++ replicate z false = bits_of-bytes_from n low (omega arith) ∙ ap (λ m. low ++ replicate m false) (sym same) in
    let front : (bits_of head ++ low) ++ replicate z false ≡ bits_of (head ++ text_of low) = append_assoc (bits_of head) low (replicate z false) ∙ ap (λ bs. bits_of head ++ bs) (sym filled) ∙ sym (bits_of-append head (text_of low)) in
    ap (λ bs. text_of (bs ++ up)) front ∙ text_behind (head ++ text_of low) up (IsBytes-append head (text_of low) fits (IsBytes-bytes_from n low)) ∙ append_assoc head (text_of low) (text_of up)

byte : (n : ℕ) → n % 256 < 256
byte n = omega arith

-- the bytes of a number
word_fits : (n : ℕ) → IsBytes (to_be_bytes w64 n)
word_fits n =
    let f7 = IsBytes-cons (n % 256) [] (byte n) IsBytes-nil in
    let b7 : List ℕ = n % 256 ∷ [] in
    let f6 = IsBytes-cons (n / 256 % 256) b7 (byte (n / 256)) f7 in
    let b6 : List ℕ = n / 256 % 256 ∷ b7 in
    let f5 = IsBytes-cons (n / 65536 % 256) b6 (byte (n / 65536)) f6 in
    let b5 : List ℕ = n / 65536 % 256 ∷ b6 in
    let f4 = IsBytes-cons (n / 16777216 % 256) b5 (byte (n / 16777216)) f5 in
    let b4 : List ℕ = n / 16777216 % 256 ∷ b5 in
    let f3 = IsBytes-cons (n / 4294967296 % 256) b4 (byte (n / 4294967296)) f4 in
    let b3 : List ℕ = n / 4294967296 % 256 ∷ b4 in
    let f2 = IsBytes-cons (n / 1099511627776 % 256) b3 (byte (n / 1099511627776)) f3 in
    let b2 : List ℕ = n / 1099511627776 % 256 ∷ b3 in
    let f1 = IsBytes-cons (n / 281474976710656 % 256) b2 (byte (n / 281474976710656)) f2 in
    let b1 : List ℕ = n / 281474976710656 % 256 ∷ b2 in
    IsBytes-cons (n / 72057594037927936 % 256) b1 (byte (n / 72057594037927936)) f1

pub header_fits : (m n : ℕ) → IsBytes (to_be_bytes w64 m ++ to_be_bytes w64 n)
header_fits m n = IsBytes-append (to_be_bytes w64 m) (to_be_bytes w64 n) (word_fits m) (word_fits n)
