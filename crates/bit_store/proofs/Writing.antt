-- Bits put behind others.
use Rattle.std.proofs.Common.{false, ◌≡◌, ℕ, zero, suc, ◌+◌, ◌-◌, ◌*◌, ◌/◌, ◌%◌, ◌^◌, ◌<◌, ◌≤◌, List, [], ◌∷◌, ◌++◌, length, take, drop, get_or, set, replicate, refl, sym, ap, ◌∙◌, arith, inl, inr}
use Rattle.std.proofs.Math.Nat.{mul-le-mul_left, pow-le-pow_right, mul_assoc, mul_comm, mul-add, div-one, mod-le, mod-lt, mod-eq_of_lt, zero-mod}
use Rattle.std.proofs.lemmas.Nat.{pow_pos, pow-add, shr_split, shr_below, mod-pow-add, mod-mul-add}
use Rattle.std.proofs.lemmas.Bool.{cases_lt}
use Rattle.std.proofs.lemmas.List.{length-append, length-take, take-append-drop, drop_more, drop_all, get_or_append_left, get_or_past, nil_from_length, take-take, take_all, length-replicate}
use Rattle.std.specs.Int.{w64, to_le_bytes}
use Rattle.bit_store.specs.Bits.{number_of, bits_of, bytes_for, IsHeld}
use Rattle.bit_store.specs.Counts.{number_in}
use Rattle.bit_store.proofs.Texts.{IsBytes, IsBytes-rest, number_in-cons, number_in-nil, number_in-append, number_in-to_le_bytes, bits_of-take, length-bits_of, appended}
use Rattle.bit_store.proofs.Numbers.{number_of-take, same_bits, low_bits-zero}

-- 256 to the n
pow_bytes : (n : ℕ) → 2 ^ (8 * suc n) ≡ 256 * 2 ^ (8 * n)
pow_bytes n =
    let e : 8 * suc n ≡ 8 + 8 * n = omega arith in
    ap (λ k. 2 ^ k) e ∙ pow-add 2 8 (8 * n)

-- more in one byte
pub number_in-set : (bytes : List ℕ) (i d : ℕ) → IsBytes bytes → i < length bytes → get_or bytes i 0 + d < 256 → number_in (set bytes i (get_or bytes i 0 + d)) ≡ number_in bytes + 2 ^ (8 * i) * d
number_in-set [] i d fits lt small = absurd (omega arith)
number_in-set (b ∷ bytes) zero d fits lt small = omega (arith, number_in-cons (b + d) bytes small, number_in-cons b bytes (fits 0))
number_in-set (b ∷ bytes) (suc i) d fits lt small =
    let ih = number_in-set bytes i d (IsBytes-rest b bytes fits) (omega arith) small in
    let left = number_in-cons b (set bytes i (get_or bytes i 0 + d)) (fits 0) in
    let right = number_in-cons b bytes (fits 0) in
    left ∙ (rw (ih, right, pow_bytes i) (grind arith))

-- the byte where the bits end has no more than those
pub last_small : (len : ℕ) (bytes : List ℕ) → IsBytes bytes → IsHeld len bytes → 0 < len % 8 → get_or bytes (length bytes - 1) 0 < 2 ^ (len % 8)
last_small len bytes fits held pos =
    let at : ℕ = len / 8 in
    let e : length bytes ≡ at + 1 = omega (arith, held.count) in
    let same : length bytes - 1 ≡ at = omega arith in
    let b : ℕ = get_or bytes at 0 in
    let tail : drop at bytes ≡ b ∷ [] = drop_more bytes at 0 (omega arith) ∙ ap (λ bs. b ∷ bs) (drop_all (at + 1) bytes (omega arith)) in
    let one : number_in (b ∷ []) ≡ b = number_in-cons b [] (fits at) ∙ (rw number_in-nil (omega arith)) in
    let front : length (take at bytes) ≡ at = omega (arith, length-take at bytes) in
    let split : number_in bytes ≡ number_in (take at bytes) + 2 ^ (8 * at) * b = ap number_in (sym (take-append-drop at bytes)) ∙ number_in-append (take at bytes) (drop at bytes) ∙ (rw (front, tail, one) refl) in
    let whole : 8 * at + len % 8 ≡ len = omega arith in
    let bound : 2 ^ len ≡ 2 ^ (8 * at) * 2 ^ (len % 8) = ap (λ k. 2 ^ k) (sym whole) ∙ pow-add 2 (8 * at) (len % 8) in
    rw same (
    elim (cases_lt b (2 ^ (len % 8))) [
      | inl lt ↦ lt
      | inr le ↦ absurd (omega (arith, held.rest, split, bound, mul-le-mul_left (2 ^ (8 * at)) le))
    ])

-- what the low bits of a value add to the byte where the bits end fits there
pub part_fits : (used room value : ℕ) → used + room ≡ 8 → 2 ^ used * (value % 2 ^ room) + 2 ^ used ≤ 256
part_fits used room value e =
    let all : 2 ^ used * 2 ^ room ≡ 256 = sym (pow-add 2 used room) ∙ (rw e refl) in
    let lt : value % 2 ^ room + 1 ≤ 2 ^ room = omega (arith, pow_pos room) in
    let le = mul-le-mul_left (2 ^ used) lt in
    omega (arith, le, all)

-- what is left of a value after its first bits has so many bytes
rest_below : (room width value : ℕ) → value < 2 ^ width → value / 2 ^ room < 2 ^ (8 * ((width - room + 7) / 8))
rest_below room width value lt =
    let k : ℕ = 8 * ((width - room + 7) / 8) in
    let enough : width ≤ k + room = omega arith in
    let wide : 2 ^ width ≤ 2 ^ (k + room) = pow-le-pow_right (omega arith) enough in
    shr_below value k room (omega arith)

-- the bytes behind the others
pub spilled : (bytes : List ℕ) (room width value : ℕ) → value < 2 ^ width → value < 2 ^ 64 → width ≤ 64 → room ≤ 7
    → number_in (bytes ++ take ((width - room + 7) / 8) (to_le_bytes w64 (value / 2 ^ room))) ≡ number_in bytes + 2 ^ (8 * length bytes) * (value / 2 ^ room)
spilled bytes room width value lt fits le few =
    let count : ℕ = (width - room + 7) / 8 in
    let small : value / 2 ^ room < 2 ^ 64 = omega (arith, shr_split value room) in
    number_in-append bytes _ ∙ (rw (number_in-to_le_bytes (value / 2 ^ room) count small (omega arith) (rest_below room width value lt)) refl)

IsBytes-front : (a b : List ℕ) → IsBytes (a ++ b) → IsBytes a
IsBytes-front a b fits i =
    elim (cases_lt i (length a)) [
      | inl lt ↦ rw (← get_or_append_left a b 0 i lt) (fits i)
      | inr le ↦ rw (get_or_past a i 0 le) (omega arith)
    ]

-- the byte where the bits end, after others were put behind it
pub last_low : (len end : ℕ) (old rest mid : List ℕ) → end ≡ length old → mid ≡ old ++ rest → IsBytes mid → IsHeld len old → 0 < len % 8 → get_or mid (end - 1) 0 < 2 ^ (len % 8)
last_low len end old rest mid last e fits held pos =
    let all : IsBytes (old ++ rest) = rw e at fits in
    let at : length old - 1 < length old = omega (arith, held.count) in
    rw (last, e, get_or_append_left old rest 0 (length old - 1) at) (last_small len old (IsBytes-front old rest all) held pos)

-- the value in two parts: one fills the last byte, the other stands behind it
pub filled : (len width value room end : ℕ) (old mid new : List ℕ) → end ≡ length old → room ≡ (8 - len % 8) % 8 → 0 < room → value < 2 ^ width → value < 2 ^ 64 → width ≤ 64 → IsHeld len old
    → mid ≡ old ++ take ((width - room + 7) / 8) (to_le_bytes w64 (value / 2 ^ room)) → IsBytes mid
    → new ≡ set mid (end - 1) (get_or mid (end - 1) 0 + 2 ^ (len % 8) * (value % 2 ^ room))
    → number_in new ≡ number_in old + 2 ^ len * value
filled len width value room end old mid new last r pos lt fits le held m bytes n =
    let used : ℕ = len % 8 in
    let at : ℕ = end - 1 in
    let part : ℕ = value % 2 ^ room in
    let low : get_or mid at 0 < 2 ^ used = last_low len end old _ mid last m bytes held (omega arith) in
    let room_for : 2 ^ used * part + 2 ^ used ≤ 256 = part_fits used room value (omega arith) in
    let longer : length old ≤ length mid = omega (arith, ap length m, length-append old (take ((width - room + 7) / 8) (to_le_bytes w64 (value / 2 ^ room)))) in
    let one = number_in-set mid at (2 ^ used * part) bytes (omega (arith, held.count)) (omega arith) in
    let two : number_in mid ≡ number_in old + 2 ^ (8 * length old) * (value / 2 ^ room) = ap number_in m ∙ spilled old room width value lt fits le (omega arith) in
    let start : 8 * at + used ≡ len = omega (arith, held.count) in
    let stop : len + room ≡ 8 * length old = omega (arith, held.count) in
    let start_pow : 2 ^ len ≡ 2 ^ (8 * at) * 2 ^ used = ap (λ k. 2 ^ k) (sym start) ∙ pow-add 2 (8 * at) used in
    let stop_pow : 2 ^ (8 * length old) ≡ 2 ^ len * 2 ^ room = ap (λ k. 2 ^ k) (sym stop) ∙ pow-add 2 len room in
    ap number_in n ∙ one ∙ joined (number_in old) (number_in mid) (2 ^ (8 * length old)) (2 ^ len) (2 ^ room) (2 ^ (8 * at)) (2 ^ used) (value / 2 ^ room) part value two stop_pow start_pow (shr_split value room)
  where
    joined : (a m e l r s u q p v : ℕ) → m ≡ a + e * q → e ≡ l * r → l ≡ s * u → q * r + p ≡ v → m + s * (u * p) ≡ a + l * v
    joined a m e l r s u q p v h i j k =
        let first : s * (u * p) ≡ l * p = sym (mul_assoc s u p) ∙ ap (λ x. x * p) (sym j) in
        let second : e * q ≡ l * (q * r) = ap (λ x. x * q) i ∙ mul_assoc l r q ∙ ap (λ x. l * x) (mul_comm r q) in
        let both : l * v ≡ l * (q * r) + l * p = ap (λ x. l * x) (sym k) ∙ mul-add l (q * r) p in
        omega (arith, first, second, both, h)

-- the same where the bits end with a byte
pub whole_bytes : (len width value room : ℕ) (old new : List ℕ) → room ≡ (8 - len % 8) % 8 → room ≡ 0 → value < 2 ^ width → value < 2 ^ 64 → width ≤ 64 → IsHeld len old
    → new ≡ old ++ take ((width - room + 7) / 8) (to_le_bytes w64 (value / 2 ^ room))
    → number_in new ≡ number_in old + 2 ^ len * value
whole_bytes len width value room old new r none lt fits le held n =
    let stop : 8 * length old ≡ len = omega (arith, held.count) in
    let all : value / 2 ^ room ≡ value = rw none (div-one value) in
    ap number_in n ∙ spilled old room width value lt fits le (omega arith) ∙ (rw (stop, all) refl)

-- the low bits of the low bits
pub low_of_low : (n j k : ℕ) → j ≤ k → n % 2 ^ k % 2 ^ j ≡ n % 2 ^ j
low_of_low n j k le =
    let e : (k - j) + j ≡ k = omega arith in
    let split : n % 2 ^ k ≡ (n / 2 ^ j % 2 ^ (k - j)) * 2 ^ j + n % 2 ^ j = ap (λ i. n % 2 ^ i) (sym e) ∙ mod-pow-add n (k - j) j in
    ap (λ x. x % 2 ^ j) split ∙ mod-mul-add (n / 2 ^ j % 2 ^ (k - j)) (2 ^ j) (n % 2 ^ j) (mod-lt n (pow_pos j))

-- bits of a last byte taken away
pub number_in-cut : (bytes : List ℕ) (i used : ℕ) → IsBytes bytes → length bytes ≡ i + 1 → number_in (set bytes i (get_or bytes i 0 % 2 ^ used)) ≡ number_in bytes % 2 ^ (8 * i + used)
number_in-cut [] i used fits e = absurd (omega arith)
number_in-cut (b ∷ bytes) zero used fits e =
    let none : bytes ≡ [] = nil_from_length bytes (omega arith) in
    let small : b % 2 ^ used ≤ b = mod-le b (2 ^ used) in
    let right : number_in (b ∷ bytes) ≡ b = number_in-cons b bytes (fits 0) ∙ (rw (none, number_in-nil) (omega arith)) in
    let left : number_in (b % 2 ^ used ∷ bytes) ≡ b % 2 ^ used = number_in-cons (b % 2 ^ used) bytes (omega (arith, fits 0)) ∙ (rw (none, number_in-nil) (omega arith)) in
    let same : used ≡ 8 * 0 + used = omega arith in
    left ∙ (rw right (ap (λ k. b % 2 ^ k) same))
number_in-cut (b ∷ bytes) (suc i) used fits e =
    let ih = number_in-cut bytes i used (IsBytes-rest b bytes fits) (omega arith) in
    let n : ℕ = number_in bytes in
    let k : ℕ = 8 * i + used in
    let left = number_in-cons b (set bytes i (get_or bytes i 0 % 2 ^ used)) (fits 0) in
    let right : number_in (b ∷ bytes) ≡ b + 256 * n = number_in-cons b bytes (fits 0) in
    let wide : 8 * suc i + used ≡ k + 8 = omega arith in
    let split : (b + 256 * n) % 2 ^ (k + 8) ≡ ((b + 256 * n) / 2 ^ 8 % 2 ^ k) * 2 ^ 8 + (b + 256 * n) % 2 ^ 8 = mod-pow-add (b + 256 * n) k 8 in
    let half : (b + 256 * n) / 2 ^ 8 ≡ n = omega (arith, fits 0) in
    let low : (b + 256 * n) % 2 ^ 8 ≡ b = omega (arith, fits 0) in
    let parts : (b + 256 * n) % 2 ^ (k + 8) ≡ n % 2 ^ k * 256 + b = split ∙ (rw (half, low) refl) in
    left ∙ (rw (ih, right, wide, parts) (omega arith))

-- the first bytes of a text
pub number_in-take : (n : ℕ) (bytes : List ℕ) → number_in (take n bytes) ≡ number_in bytes % 2 ^ (8 * n)
number_in-take n bytes = ap number_of (bits_of-take n bytes) ∙ number_of-take (8 * n) (bits_of bytes)

-- zero bytes behind a text
pub number_in-zeros : (n : ℕ) → number_in (replicate n 0) ≡ 0
number_in-zeros zero = number_in-nil
number_in-zeros (suc n) = number_in-cons 0 (replicate n 0) (omega arith) ∙ (rw (number_in-zeros n) refl)

pub widened : (bytes : List ℕ) (n : ℕ) → number_in (bytes ++ replicate n 0) ≡ number_in bytes
widened bytes n = number_in-append bytes (replicate n 0) ∙ (rw (number_in-zeros n) (omega arith))

-- after bits were taken away the bytes hold the others
pub cut_held : (len before : ℕ) (old new : List ℕ) → IsHeld before old → len ≤ before → number_in new ≡ number_in old % 2 ^ len → length new ≡ bytes_for len
    → (take len (bits_of new) ≡ take len (take before (bits_of old))) × IsHeld len new
cut_held len before old new held le num count =
    let short : length (take len (bits_of new)) ≡ length (take len (take before (bits_of old))) = omega (arith, length-take len (bits_of new), length-bits_of new, length-take len (take before (bits_of old)), length-take before (bits_of old), length-bits_of old, held.count) in
    let within : number_in new < 2 ^ len = rw num (mod-lt (number_in old) (pow_pos len)) in
    let left : number_of (take len (bits_of new)) ≡ number_in new = number_of-take len (bits_of new) ∙ mod-eq_of_lt within in
    let right : number_of (take len (take before (bits_of old))) ≡ number_in old % 2 ^ len = ap number_of (take-take len before (bits_of old) le) ∙ number_of-take len (bits_of old) in
    (same_bits _ _ short (left ∙ num ∙ sym right), record { count = count; rest = within })

-- zeros put behind the bits
pub zeros_held : (len count : ℕ) (old new : List ℕ) → IsHeld len old → new ≡ take ((len + count + 7) / 8) old ++ replicate ((len + count + 7) / 8 - length old) 0
    → (take (len + count) (bits_of new) ≡ take len (bits_of old) ++ replicate count false) × IsHeld (len + count) new
zeros_held len count old new held e =
    let size : ℕ = (len + count + 7) / 8 in
    let all : take size old ≡ old = take_all size old (omega (arith, held.count)) in
    let is : new ≡ old ++ replicate (size - length old) 0 = e ∙ ap (λ bs. bs ++ replicate (size - length old) 0) all in
    let num : number_in new ≡ number_in old + 2 ^ len * 0 = ap number_in is ∙ widened old (size - length old) ∙ omega arith in
    let long : length new ≡ bytes_for (len + count) = ap length is ∙ omega (arith, length-append old (replicate (size - length old) 0), length-replicate {A = ℕ} (size - length old) 0, held.count) in
    let none : 0 ≡ 0 % 2 ^ count = sym (zero-mod (2 ^ count)) in
    let both = appended len count 0 0 old new held none num long in
    (both.0 ∙ ap (λ bs. take len (bits_of old) ++ bs) (low_bits-zero count), both.1)

-- bits taken away where a byte ends
pub cut_whole : (len : ℕ) (old new : List ℕ) → len % 8 ≡ 0 → new ≡ take (len / 8) old → number_in new ≡ number_in old % 2 ^ len
cut_whole len old new whole e =
    let at : 8 * (len / 8) ≡ len = omega arith in
    ap number_in e ∙ number_in-take (len / 8) old ∙ ap (λ k. number_in old % 2 ^ k) at

-- bits taken away inside a byte
pub cut_inside : (len last : ℕ) (old mid new : List ℕ) → len ≤ 8 * length old → 0 < len % 8 → mid ≡ take (len / 8 + 1) old → IsBytes mid → last ≡ get_or mid (len / 8) 0
    → new ≡ set mid (len / 8) (last % 2 ^ (len % 8)) → number_in new ≡ number_in old % 2 ^ len
cut_inside len last old mid new le pos m fits l n =
    let at : ℕ = len / 8 in
    let used : ℕ = len % 8 in
    let long : length mid ≡ at + 1 = ap length m ∙ omega (arith, length-take (at + 1) old) in
    let is : new ≡ set mid at (get_or mid at 0 % 2 ^ used) = n ∙ ap (λ b. set mid at (b % 2 ^ used)) l in
    let whole : 8 * at + used ≡ len = omega arith in
    let fewer : len ≤ 8 * (at + 1) = omega arith in
    let front : number_in mid ≡ number_in old % 2 ^ (8 * (at + 1)) = ap number_in m ∙ number_in-take (at + 1) old in
    ap number_in is ∙ number_in-cut mid at used fits long ∙ ap (λ k. number_in mid % 2 ^ k) whole ∙ ap (λ x. x % 2 ^ len) front ∙ low_of_low (number_in old) len (8 * (at + 1)) fewer
