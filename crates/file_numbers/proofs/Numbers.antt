-- Numbers of 2, 4 and 8 bytes at the front of bytes.
use Rattle.std.proofs.Common.{◌≡◌, ℕ, ◌+◌, ◌-◌, ◌^◌, ◌<◌, ◌≤◌, List, [], ◌∷◌, ◌++◌, length, get_or, take, drop, refl, sym, ap, ◌∙◌, arith, inl, inr}
use borrow.Rule.Slice.PartMut.{put_mid}
use Rattle.std.specs.Int.{Width, w16, w32, w64, byte_len, from_be_bytes, to_be_bytes}
use Rattle.std.proofs.lemmas.Bool.{cases_lt}
use Rattle.std.proofs.lemmas.List.{append-nil, drop_all, take_all, take-append-drop, length-take, length-drop, get_or-drop, get_or-take, get_or_past, drop-drop}
use Rattle.std.proofs.lemmas.Nat.{be_bytes_2, be_bytes_4, be_bytes_8, from_be_bytes-to_be_bytes_2, from_be_bytes-to_be_bytes_4, from_be_bytes-to_be_bytes_8}

abbrev pub AreBytes : List ℕ → Type 0
AreBytes bytes = (i : ℕ) → get_or bytes i 0 < 256

pub AreBytes-drop : (n : ℕ) (bytes : List ℕ) → AreBytes bytes → AreBytes (drop n bytes)
AreBytes-drop n bytes h i = rw get_or-drop (h (n + i))

AreBytes-take : (n : ℕ) (bytes : List ℕ) → AreBytes bytes → AreBytes (take n bytes)
AreBytes-take n bytes h i =
    elim (cases_lt i n) [
      | inl lt ↦ rw (get_or-take n bytes i 0 lt) (h i)
      | inr le ↦ rw (get_or_past (take n bytes) i 0 (omega (arith, length-take n bytes))) (omega arith)
    ]

-- reading looks at the first bytes alone
pub front2 : (bytes : List ℕ) → 2 ≤ length bytes → from_be_bytes w16 (take 2 bytes) ≡ from_be_bytes w16 bytes
front2 (a ∷ b ∷ bytes) le = refl
front2 bytes le = omega arith

pub front4 : (bytes : List ℕ) → 4 ≤ length bytes → from_be_bytes w32 (take 4 bytes) ≡ from_be_bytes w32 bytes
front4 (a ∷ b ∷ c ∷ d ∷ bytes) le = refl
front4 bytes le = omega arith

pub front8 : (bytes : List ℕ) → 8 ≤ length bytes → from_be_bytes w64 (take 8 bytes) ≡ from_be_bytes w64 bytes
front8 (a ∷ b ∷ c ∷ d ∷ e ∷ f ∷ g ∷ h ∷ bytes) le = refl
front8 bytes le = omega arith

-- a number of this width is its bytes, and the other way round
pub record IsWide (w : Width) (limit : ℕ) : Type 0 where
  pub back : (bytes : List ℕ) → byte_len w ≤ length bytes → AreBytes bytes → to_be_bytes w (from_be_bytes w bytes) ≡ take (byte_len w) bytes
  pub again : (n : ℕ) (rest : List ℕ) → n < limit → from_be_bytes w (to_be_bytes w n ++ rest) ≡ n
  pub below : (bytes : List ℕ) → AreBytes bytes → from_be_bytes w bytes < limit

pub wide16 : IsWide w16 (2 ^ 16)
wide16 = record {
  back = λ bytes len fits. be_bytes_2 (take 2 bytes) _ (omega (arith, length-take 2 bytes)) (AreBytes-take 2 bytes fits) (sym (front2 bytes len));
  again = λ n rest lt. from_be_bytes-to_be_bytes_2 n lt;
  below = λ bytes fits. omega (arith, fits 0, fits 1);
}

pub wide32 : IsWide w32 (2 ^ 32)
wide32 = record {
  back = λ bytes len fits. be_bytes_4 (take 4 bytes) _ (omega (arith, length-take 4 bytes)) (AreBytes-take 4 bytes fits) (sym (front4 bytes len));
  again = λ n rest lt. from_be_bytes-to_be_bytes_4 n lt;
  below = λ bytes fits. omega (arith, fits 0, fits 1, fits 2, fits 3);
}

pub wide64 : IsWide w64 (2 ^ 64)
wide64 = record {
  back = λ bytes len fits. be_bytes_8 (take 8 bytes) _ (omega (arith, length-take 8 bytes)) (AreBytes-take 8 bytes fits) (sym (front8 bytes len));
  again = λ n rest lt. from_be_bytes-to_be_bytes_8 n lt;
  below = λ bytes fits. omega (arith, fits 0, fits 1, fits 2, fits 3, fits 4, fits 5, fits 6, fits 7);
}

-- the number that stands at k, and what follows it
pub number_takes : (w : Width) (limit : ℕ) (wide : IsWide w limit) (k : ℕ) (bytes : List ℕ) → AreBytes bytes → k + byte_len w ≤ length bytes
    → drop k bytes ≡ to_be_bytes w (from_be_bytes w (drop k bytes)) ++ drop (k + byte_len w) bytes
number_takes w limit wide k bytes fits le =
    let long : byte_len w ≤ length (drop k bytes) = omega (arith, length-drop k bytes) in
    let front = wide.back (drop k bytes) long (AreBytes-drop k bytes fits) in
    rw (front, ← drop-drop (byte_len w) k bytes) (sym (take-append-drop (byte_len w) (drop k bytes)))

-- what is written over the front of what stands from `at` on
pub over_at : (at : ℕ) (xs ys cells : List ℕ) → ys ≡ cells ++ drop 8 (take (length xs - at) (drop at xs)) → put_mid at (length xs - at) xs ys ≡ take at xs ++ (cells ++ drop (at + 8) xs)
over_at at xs ys cells is =
    let none : drop (length xs - at) (drop at xs) ≡ [] = drop_all (length xs - at) (drop at xs) (omega (arith, length-drop at xs)) in
    let all : take (length xs - at) (drop at xs) ≡ drop at xs = take_all (length xs - at) (drop at xs) (omega (arith, length-drop at xs)) in
    let front : ys ≡ cells ++ drop (at + 8) xs = is ∙ ap (λ (t : List ℕ). cells ++ drop 8 t) all ∙ ap (λ (t : List ℕ). cells ++ t) (drop-drop 8 at xs) in
    ap (λ (t : List ℕ). take at xs ++ (ys ++ t)) none ∙ ap (λ (t : List ℕ). take at xs ++ t) (append-nil ys ∙ front)
