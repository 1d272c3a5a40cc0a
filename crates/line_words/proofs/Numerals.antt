-- Numbers and bytes in words.
use Rattle.std.proofs.Common.{◌≡◌, ℕ, ◌+◌, ◌-◌, ◌*◌, ◌^◌, ◌<◌, ◌≤◌, zero, suc, true, false, List, [], ◌∷◌, length, get_or, take, eqb, leb, codes, Some, None, Err, ◌⊎◌, inl, inr, refl, sym, ap, ◌∙◌, arith, length-take, take_all}
use Rattle.std.proofs.lemmas.Bool.{le-leb, lt-leb, lt-ltb, le-ltb, and_from, and_parts, both_ways, false_from_ne_true}
use Rattle.std.proofs.lemmas.Int.Digits.{digits_value-lt, digits_value_more, digits_more}
use Rattle.std.proofs.lemmas.Str.Parse.{IsNumeralModel, numerals_by_value, tells_all_ascii_digits}
use Rattle.std.proofs.Math.Nat.{pow-le-pow_right}
use Rattle.std.specs.Char.{digit_value, is_ascii_digit}
use Rattle.std.specs.Result.{result_ok}
use Rattle.std.specs.Str.{bytes_eq, all_ascii_digits}
use Rattle.std.specs.Str.Parse.{digits_value, AllDigits}
use Rattle.std.specs.Option.{ok_or}
use Rattle.hex.specs.Hex.{decode_of}
use Rattle.hex.specs.declared.error.FromHexError.{FromHexError}
use Rattle.hex.specs.declared.error.FromHexError.TheVariants.{InvalidHexCharacter, OddLength, InvalidStringLength, OutOfMemory}
use Rattle.line_words.specs.declared.request.LineError.TheVariants.{Syntax, Memory}
use Rattle.line_words.specs.Words.{is_numeral, number_of, bytes_of_word, hex_error}

-- the digits read so far, and the number that they make
pub record ReadsDigits (word : List ℕ) (i n : ℕ) : Type 0 where
  pub digits : AllDigits 10 (take i word)
  pub value : n ≡ digits_value 10 (take i word)

-- a digit is worth what stands above `0`
digit_value-digit : (c : ℕ) → is_ascii_digit c ≡ true → (48 ≤ c) × (c ≤ 57) × (digit_value c ≡ c - 48)
digit_value-digit c is = grind arith

module _ (word : List ℕ) (i n : ℕ) (reads : ReadsDigits word i n) where
  -- as many digits as are read bound the number
  pub value_below : i ≤ 18 → n < 10 ^ 18
  value_below few =
      let len : length (take i word) ≤ 18 = omega (arith, length-take i word) in
      let ten : 0 < 10 = omega arith in
      let most : 10 ^ length (take i word) ≤ 10 ^ 18 = pow-le-pow_right ten len in
      let below : digits_value 10 (take i word) < 10 ^ length (take i word) = digits_value-lt 10 (take i word) reads.digits in
      omega (arith, reads.value, below, most)

  pub ReadsDigits-more : i < length word → is_ascii_digit (get_or word i 0) ≡ true → ReadsDigits word (i + 1) (n * 10 + (get_or word i 0 - 48))
  ReadsDigits-more within is =
      let digit = digit_value-digit (get_or word i 0) is in record {
        digits = digits_more 10 word i within reads.digits (omega (arith, digit.0, digit.1, digit.2));
        value = omega (arith, reads.value, digit.0, digit.1, digit.2, digits_value_more 10 word i within);
      }

  -- and at the end the whole text is read
  pub all_digits : length word ≤ i → AllDigits 10 word
  all_digits past = rw (take_all i word past) at reads.digits

  pub value_is : length word ≤ i → n ≡ digits_value 10 word
  value_is past = reads.value ∙ ap (digits_value 10) (take_all i word past)

-- each place of a text of digits has one
all_ascii_digits-at : (word : List ℕ) (i : ℕ) → i < length word → all_ascii_digits word ≡ true → is_ascii_digit (get_or word i 0) ≡ true
all_ascii_digits-at (c ∷ word) zero within all = (and_parts (is_ascii_digit c) (all_ascii_digits word) all).0
all_ascii_digits-at (c ∷ word) (suc i) within all =
    all_ascii_digits-at word i (omega arith) (and_parts (is_ascii_digit c) (all_ascii_digits word) all).1
all_ascii_digits-at [] i within all = absurd (omega arith)

numerals : IsNumeralModel (λ ds. all_ascii_digits ds ≡ true) (digits_value 10)
numerals = numerals_by_value (λ ds. all_ascii_digits ds ≡ true) tells_all_ascii_digits

-- a text that isn't of 1 to 19 digits
pub is_numeral-empty : (word : List ℕ) → length word ≡ 0 → is_numeral word ≡ false
is_numeral-empty word empty = rw (lt-leb 1 (length word) (omega arith)) refl

pub is_numeral-long : (word : List ℕ) → 19 < length word → is_numeral word ≡ false
is_numeral-long word long =
    let few : leb (length word) 19 ≡ false = lt-leb (length word) 19 long in
    false_from_ne_true _ (λ is. both_ways _ few (and_parts _ _ (and_parts _ _ is).0).1)

pub is_numeral-other : (word : List ℕ) (i : ℕ) → i < length word → is_ascii_digit (get_or word i 0) ≡ false → is_numeral word ≡ false
is_numeral-other word i within other =
    false_from_ne_true _ (λ is. both_ways _ other (all_ascii_digits-at word i within (and_parts _ _ is).1))

-- a text that is
pub is_numeral-digits : (word : List ℕ) → 0 < length word → length word ≤ 19 → AllDigits 10 word → is_numeral word ≡ true
is_numeral-digits word some few digits =
    and_from _ _ (and_from _ _ (le-leb 1 (length word) (omega arith)) (le-leb (length word) 19 few)) (numerals.from word digits)

-- what is no number
pub number_of-none : (word : List ℕ) → is_numeral word ≡ false → number_of word ≡ None
unfolding number_of
number_of-none word isnt = rw isnt refl

pub number_of-far : (word : List ℕ) → 2 ^ 63 ≤ digits_value 10 word → number_of word ≡ None
unfolding number_of
number_of-far word far = grind (arith, le-ltb (digits_value 10 word) (2 ^ 63) far)

-- what is one
pub number_of-some : (word : List ℕ) → is_numeral word ≡ true → digits_value 10 word < 2 ^ 63 → number_of word ≡ Some (digits_value 10 word)
unfolding number_of
number_of-some word is small = rw (is, lt-ltb (digits_value 10 word) (2 ^ 63) small) refl

-- what is said once all digits are read
pub number_of-read : (word : List ℕ) (i n : ℕ) → 0 < length word → length word ≤ 19 → length word ≤ i → ReadsDigits word i n → n < 2 ^ 63 → number_of word ≡ Some n
number_of-read word i n some few past reads small =
    let value = value_is word i n reads past in
    number_of-some word (is_numeral-digits word some few (all_digits word i n reads past)) (omega (arith, value)) ∙ ap Some (sym value)

-- the three cases of a word of bytes
pub bytes_of_word-dash : (word : List ℕ) → bytes_eq word (codes "-") ≡ true → bytes_of_word word ≡ Some []
unfolding bytes_of_word
bytes_of_word-dash word is = rw is refl

pub bytes_of_word-empty : (word : List ℕ) → bytes_eq word (codes "-") ≡ false → eqb (length word) 0 ≡ true → bytes_of_word word ≡ None
unfolding bytes_of_word
bytes_of_word-empty word isnt empty = rw (isnt, empty) refl

pub bytes_of_word-hex : (word : List ℕ) → bytes_eq word (codes "-") ≡ false → eqb (length word) 0 ≡ false → bytes_of_word word ≡ result_ok (decode_of word)
unfolding bytes_of_word
bytes_of_word-hex word isnt some = rw (isnt, some) refl

-- what a word that isn't decoded is refused for
pub bytes_of_word-refused : (word : List ℕ) → bytes_eq word (codes "-") ≡ false → eqb (length word) 0 ≡ false
    → (e : FromHexError) → (e ≡ OutOfMemory) ⊎ (decode_of word ≡ Err e)
    → (hex_error e ≡ Memory) ⊎ (ok_or (bytes_of_word word) Syntax ≡ Err (hex_error e))
bytes_of_word-refused word other some e (inl same) = inl (ap hex_error same)
bytes_of_word-refused word other some (InvalidHexCharacter c i) (inr h) = inr (rw (bytes_of_word-hex word other some, h) refl)
bytes_of_word-refused word other some OddLength (inr h) = inr (rw (bytes_of_word-hex word other some, h) refl)
bytes_of_word-refused word other some InvalidStringLength (inr h) = inr (rw (bytes_of_word-hex word other some, h) refl)
bytes_of_word-refused word other some OutOfMemory (inr h) = inl refl

pub above_zero : (n : ℕ) → eqb n 0 ≡ false → 0 < n
above_zero n some = grind arith
