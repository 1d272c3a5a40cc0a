-- Lists of numbers of eight bytes.
use Rattle.std.proofs.Common.{◌≡◌, ℕ, zero, suc, ◌+◌, ◌*◌, ◌^◌, ◌<◌, List, [], ◌∷◌, ◌++◌, length, get_or, take, drop, refl, sym, ap, ◌∙◌, append_assoc, arith}
use Rattle.std.specs.List.{flat_map}
use Rattle.std.specs.Int.{w64, to_be_bytes, from_be_bytes}
use Rattle.std.proofs.lemmas.List.{append-nil, length-append, drop-drop, take_more}
use Rattle.std.proofs.lemmas.List.Concat.{flat_map-append}
use Rattle.file_numbers.specs.Lists.{number_bytes, numbers_at, AreNumbers}
use Rattle.file_numbers.proofs.Numbers.{wide64}

pub length-number_bytes : (numbers : List ℕ) → length (number_bytes numbers) ≡ 8 * length numbers
unfolding number_bytes
length-number_bytes [] = omega arith
length-number_bytes (x ∷ xs) = omega (arith, length-append (to_be_bytes w64 x) (flat_map (to_be_bytes w64) xs), length-number_bytes xs)

-- ---- read back

regrouped : (x : ℕ) (xs rest : List ℕ) → number_bytes (x ∷ xs) ++ rest ≡ to_be_bytes w64 x ++ (number_bytes xs ++ rest)
unfolding number_bytes
regrouped x xs rest = append_assoc (to_be_bytes w64 x) (number_bytes xs) rest

pub numbers_at_again : (numbers rest : List ℕ) → AreNumbers numbers → numbers_at (length numbers) (number_bytes numbers ++ rest) ≡ numbers
unfolding number_bytes numbers_at
numbers_at_again [] rest fits = refl
numbers_at_again (x ∷ xs) rest fits =
    ap (numbers_at (suc (length xs))) (regrouped x xs rest) ∙ rw (wide64.again x (number_bytes xs ++ rest) fits.0, numbers_at_again xs rest fits.1) refl

-- the number at a place
pub number_at : (k : ℕ) (numbers rest : List ℕ) → AreNumbers numbers → k < length numbers → from_be_bytes w64 (drop (8 * k) (number_bytes numbers ++ rest)) ≡ get_or numbers k 0
unfolding number_bytes
number_at k [] rest fits lt = omega arith
number_at zero (x ∷ xs) rest fits lt = wide64.again x (number_bytes xs ++ rest) fits.0
number_at (suc k) (x ∷ xs) rest fits lt =
    let eight : 8 * suc k ≡ 8 + 8 * k = omega arith in
    let past : drop (8 * suc k) (number_bytes (x ∷ xs) ++ rest) ≡ drop (8 * k) (number_bytes xs ++ rest) =
    rw (eight, ← drop-drop (8 * k) 8 (number_bytes (x ∷ xs) ++ rest)) (ap (λ (b : List ℕ). drop (8 * k) (drop 8 b)) (regrouped x xs rest))
    in
    ap (from_be_bytes w64) past ∙ number_at k xs rest fits.1 (omega arith)

-- ---- one after another

pub number_bytes-append : (xs ys : List ℕ) → number_bytes (xs ++ ys) ≡ number_bytes xs ++ number_bytes ys
unfolding number_bytes
number_bytes-append xs ys = flat_map-append (to_be_bytes w64) xs ys

pub number_bytes-push : (numbers : List ℕ) (n : ℕ) → number_bytes (numbers ++ n ∷ []) ≡ number_bytes numbers ++ to_be_bytes w64 n
unfolding number_bytes
number_bytes-push numbers n = flat_map-append (to_be_bytes w64) numbers (n ∷ [])

pub numbers_push : (front numbers out new : List ℕ) (n : ℕ) → out ≡ front ++ number_bytes numbers → new ≡ out ++ to_be_bytes w64 n → new ≡ front ++ number_bytes (numbers ++ n ∷ [])
numbers_push front numbers out new n so_far is =
    is ∙ ap (λ (l : List ℕ). l ++ to_be_bytes w64 n) so_far ∙ append_assoc front (number_bytes numbers) (to_be_bytes w64 n)
    ∙ ap (λ (l : List ℕ). front ++ l) (sym (number_bytes-push numbers n))

-- the same of a list that is gone over
pub numbers_next : (front numbers out new : List ℕ) (i : ℕ) → i < length numbers → out ≡ front ++ number_bytes (take i numbers) → new ≡ out ++ to_be_bytes w64 (get_or numbers i 0) → new ≡ front ++ number_bytes (take (i + 1) numbers)
numbers_next front numbers out new i lt so_far is =
    numbers_push front (take i numbers) out new (get_or numbers i 0) so_far is ∙ ap (λ (l : List ℕ). front ++ number_bytes l) (sym (take_more numbers i 0 lt))

pub numbers_none : (front : List ℕ) → front ≡ front ++ number_bytes []
unfolding number_bytes
numbers_none front = sym (append-nil front)

-- ---- which numbers have eight bytes

pub are_numbers_within : (numbers : List ℕ) → ((i : ℕ) → i < length numbers → get_or numbers i 0 < 2 ^ 64) → AreNumbers numbers
are_numbers_within [] fits = tt
are_numbers_within (x ∷ xs) fits = (fits 0 (omega arith), are_numbers_within xs (λ i lt. fits (suc i) (omega arith)))

pub both_numbers : (xs ys : List ℕ) → AreNumbers xs → AreNumbers ys → AreNumbers (xs ++ ys)
both_numbers [] ys one other = other
both_numbers (x ∷ xs) ys one other = (one.0, both_numbers xs ys one.1 other)
