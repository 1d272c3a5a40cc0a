-- Bits that wait to be pushed together, as a number.
use Rattle.std.proofs.Common.{◌≡◌, ℕ, ◌+◌, ◌*◌, ◌/◌, ◌%◌, ◌^◌, ◌<◌, ◌≤◌, Bool, true, false, List, [], ◌∷◌, ◌++◌, length, take, get_or, replicate, refl, sym, ap, ◌∙◌, arith}
use Rattle.std.proofs.Math.Nat.{mod-lt, mod-eq_of_lt, le-mul_of_pos_right, pow-le-pow_right}
use Rattle.std.proofs.lemmas.Nat.{pow_pos, pow-add, mul-add-lt, div-mul-add, mod-mul-add}
use Rattle.std.proofs.lemmas.Grind.{flat_map-append}
use Rattle.std.proofs.lemmas.List.{append-nil, append_assoc, take_more}
use Rattle.bit_store.specs.Bits.{low_bits}
use Rattle.bit_store.proofs.Numbers.{same_bits, length-low_bits, number_of-low_bits, low_bits-append, low_bits-zero}
use Rattle.bit_store.proofs.Writing.{low_of_low}
use Rattle.elias_fano.proofs.Lower.{fields}

pub no_bits : (bits : List Bool) (n : ℕ) → bits ++ low_bits 0 n ≡ bits
unfolding low_bits
no_bits bits n = append-nil bits

-- numbers that agree in their low digits have the same low bits
pub same_low : (w a b : ℕ) → a % 2 ^ w ≡ b % 2 ^ w → low_bits w a ≡ low_bits w b
same_low w a b e = same_bits (low_bits w a) (low_bits w b) (length-low_bits w a ∙ sym (length-low_bits w b)) (number_of-low_bits w a ∙ e ∙ sym (number_of-low_bits w b))

-- one number above the other
pub bits_above : (a b word v : ℕ) → word < 2 ^ a → low_bits (a + b) (word + v * 2 ^ a) ≡ low_bits a word ++ low_bits b v
bits_above a b word v small =
    let n : ℕ = v * 2 ^ a + word in
    let turn : word + v * 2 ^ a ≡ n = omega arith in
    let high : n / 2 ^ a ≡ v = div-mul-add v (2 ^ a) word small in
    let low : n % 2 ^ a ≡ word % 2 ^ a = mod-mul-add v (2 ^ a) word small ∙ sym (mod-eq_of_lt small) in
    ap (low_bits (a + b)) turn ∙ low_bits-append a b n ∙ (rw (same_low a n word low, high) refl)

pub below_above : (a b word v : ℕ) → word < 2 ^ a → v < 2 ^ b → word + v * 2 ^ a < 2 ^ (a + b)
below_above a b word v small less = omega (arith, mul-add-lt v (2 ^ a) word (2 ^ b) less small, pow-add 2 a b)

-- one field more
pub field_waits : (l used word low : ℕ) (bits front : List Bool) (items : List ℕ) (i : ℕ) → i < length items → word < 2 ^ used → low ≡ get_or items i 0 % 2 ^ l → bits ++ low_bits used word ≡ front ++ fields l (take i items)
    → bits ++ low_bits (used + l) (word + low * 2 ^ used) ≡ front ++ fields l (take (i + 1) items)
field_waits l used word low bits front items i lt small is held =
    let v : ℕ = get_or items i 0 in
    let field : low_bits l low ≡ low_bits l v = same_low l low v (ap (λ n. n % 2 ^ l) is ∙ low_of_low v l l (omega arith)) in
    let more : fields l (take (i + 1) items) ≡ fields l (take i items) ++ low_bits l v =
    ap (fields l) (take_more items i 0 lt) ∙ flat_map-append (low_bits l) (take i items) (v ∷ []) ∙ ap (λ bs. fields l (take i items) ++ bs) (append-nil (low_bits l v)) in
    ap (λ bs. bits ++ bs) (bits_above used l word low small) ∙ sym (append_assoc bits (low_bits used word) (low_bits l low)) ∙ (rw (held, field) (append_assoc front (fields l (take i items)) (low_bits l v) ∙ ap (λ bs. front ++ bs) (sym more)))

-- the bits of a rise
rise_bits : (rise : ℕ) → low_bits (rise + 1) (2 ^ rise) ≡ replicate rise false ++ true ∷ []
unfolding low_bits
rise_bits rise =
    let none : low_bits rise 0 ≡ replicate rise false = low_bits-zero rise in
    let one : low_bits 1 1 ≡ true ∷ [] = refl in
    let n : 0 + 1 * 2 ^ rise ≡ 2 ^ rise = omega arith in
    ap (low_bits (rise + 1)) (sym n) ∙ bits_above rise 1 0 1 (pow_pos rise) ∙ (rw (none, one) refl)

pub rise_waits : (used word rise : ℕ) (bits front : List Bool) → word < 2 ^ used → bits ++ low_bits used word ≡ front
    → bits ++ low_bits (used + rise + 1) (word + 2 ^ (used + rise)) ≡ front ++ (replicate rise false ++ true ∷ [])
rise_waits used word rise bits front small held =
    let place : 2 ^ (used + rise) ≡ 2 ^ rise * 2 ^ used = omega (arith, pow-add 2 rise used, ap (λ n. 2 ^ n) (the_sum used rise)) in
    let long : used + rise + 1 ≡ used + (rise + 1) = omega arith in
    ap (λ n. bits ++ low_bits n (word + 2 ^ (used + rise))) long ∙ ap (λ n. bits ++ low_bits (used + (rise + 1)) (word + n)) place
    ∙ ap (λ bs. bits ++ bs) (bits_above used (rise + 1) word (2 ^ rise) small ∙ ap (λ bs. low_bits used word ++ bs) (rise_bits rise))
    ∙ sym (append_assoc bits (low_bits used word) (replicate rise false ++ true ∷ [])) ∙ ap (λ bs. bs ++ (replicate rise false ++ true ∷ [])) held
  where
    the_sum : (a b : ℕ) → b + a ≡ a + b
    the_sum a b = omega arith

pub rise_below : (used word rise : ℕ) → word < 2 ^ used → word + 2 ^ (used + rise) < 2 ^ (used + rise + 1)
rise_below used word rise small =
    let twice : 2 ^ (used + rise + 1) ≡ 2 ^ (used + rise) * 2 = omega (arith, pow-add 2 (used + rise) 1) in
    let grow : 2 ^ used ≤ 2 ^ (used + rise) = omega (arith, pow-add 2 used rise, pow_pos rise, le-mul_of_pos_right (2 ^ used) (pow_pos rise)) in
    omega (arith, twice, grow)

-- a rise that doesn't wait
pub rise_pushed : (used word rise : ℕ) (bits flushed zeros front : List Bool) → flushed ≡ bits ++ low_bits used word → zeros ≡ flushed ++ replicate rise false → bits ++ low_bits used word ≡ front
    → zeros ++ low_bits 1 1 ≡ front ++ (replicate rise false ++ true ∷ [])
unfolding low_bits
rise_pushed used word rise bits flushed zeros front e f held =
    ap (λ bs. bs ++ true ∷ []) (f ∙ ap (λ bs. bs ++ replicate rise false) (e ∙ held)) ∙ append_assoc front (replicate rise false) (true ∷ [])

-- nothing of a field is lost where it is shifted
pub field_fits : (l used word low v : ℕ) → used + l < 64 → word < 2 ^ used → low ≡ v % 2 ^ l → (low < 2 ^ l) × (low * 2 ^ used % 18446744073709551616 ≡ low * 2 ^ used) × (word + low * 2 ^ used < 18446744073709551616)
field_fits l used word low v narrow small is =
    let less : low < 2 ^ l = omega (arith, is, mod-lt v (pow_pos l)) in
    let whole : word + low * 2 ^ used < 2 ^ (used + l) = below_above used l word low small less in
    let short : used + l ≤ 63 = omega arith in
    let most : 2 ^ (used + l) ≤ 2 ^ 63 = pow-le-pow_right (omega arith) short in
    (less, mod-eq_of_lt (omega arith), omega (arith, whole, most))

-- a rise that waits, and one that is pushed
pub rise_joined : (used word rise used' word' shifted : ℕ) (bits bits' front : List Bool) → word < 2 ^ used → used' ≡ used + rise + 1 → word' ≡ word + shifted → shifted ≡ 2 ^ (used + rise) → bits' ≡ bits → bits ++ low_bits used word ≡ front
    → (word' < 2 ^ used') × (bits' ++ low_bits used' word' ≡ front ++ (replicate rise false ++ true ∷ []))
rise_joined used word rise used' word' shifted bits bits' front small e f g h held =
    rw (e, f, g, h) (rise_below used word rise small, rise_waits used word rise bits front small held)

pub rise_flushed : (used word rise used' word' : ℕ) (bits flushed zeros bits' front : List Bool) → flushed ≡ bits ++ low_bits used word → zeros ≡ flushed ++ replicate rise false → used' ≡ 1 → word' ≡ 1 → bits' ≡ zeros → bits ++ low_bits used word ≡ front
    → (word' < 2 ^ used') × (bits' ++ low_bits used' word' ≡ front ++ (replicate rise false ++ true ∷ []))
rise_flushed used word rise used' word' bits flushed zeros bits' front a b e f h held =
    rw (e, f, h) (omega arith, rise_pushed used word rise bits flushed zeros front a b held)
