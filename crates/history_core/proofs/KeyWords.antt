-- A key word and what it says.
use Rattle.std.proofs.Common.{◌≡◌, ℕ, ◌+◌, ◌-◌, ◌^◌, ◌<◌, ◌≤◌, List, ◌++◌, length, take, drop, refl, ap, ◌∙◌, arith}
use Rattle.std.specs.Int.{w64, to_be_bytes, from_be_bytes}
use borrow.Rule.Slice.PartMut.{put_mid}
use Rattle.std.proofs.lemmas.List.{length-append, length-drop, length-take, drop_all, take_at, drop_at, take-append-drop}
use Rattle.std.proofs.lemmas.Slice.{take-put_mid}
use Rattle.std.proofs.lemmas.Nat.{be_bytes_8, from_be_bytes-to_be_bytes_8}
use Rattle.file_numbers.proofs.Numbers.{AreBytes, AreBytes-drop}
use Rattle.history_core.specs.KeyWord.{key_word, key_in, number_in}

pub length-key_word : (key : List ℕ) (tx : ℕ) → length (key_word key tx) ≡ length key + 8
unfolding key_word
length-key_word key tx = length-append key (to_be_bytes w64 tx)

key_long : (key : List ℕ) (tx : ℕ) → length key ≡ length (key_word key tx) - 8
key_long key tx = omega (arith, length-key_word key tx)

pub key_in-key_word : (key : List ℕ) (tx : ℕ) → key_in (key_word key tx) ≡ key
unfolding key_in key_word
key_in-key_word key tx = take_at key (to_be_bytes w64 tx) (length (key_word key tx) - 8) (key_long key tx)

pub number_in-key_word : (key : List ℕ) (tx : ℕ) → tx < 2 ^ 64 → number_in (key_word key tx) ≡ tx
unfolding number_in key_word
number_in-key_word key tx fits =
    ap (from_be_bytes w64) (drop_at key (to_be_bytes w64 tx) (length (key_word key tx) - 8) (key_long key tx))
    ∙ from_be_bytes-to_be_bytes_8 tx fits

-- a key word is that of what it says
pub key_word-said : (word : List ℕ) → 8 ≤ length word → AreBytes word → key_word (key_in word) (number_in word) ≡ word
unfolding key_in number_in key_word
key_word-said word long bytes =
    let key = length word - 8 in
    ap (λ (xs : List ℕ). take key word ++ xs)
    (be_bytes_8 (drop key word) (number_in word) (omega (arith, length-drop key word)) (AreBytes-drop key word bytes) refl)
    ∙ take-append-drop key word

pub number_in-below : (word : List ℕ) → AreBytes word → number_in word < 2 ^ 64
unfolding number_in
number_in-below word bytes =
    let rest = AreBytes-drop (length word - 8) word bytes in
    omega (arith, rest 0, rest 1, rest 2, rest 3, rest 4, rest 5, rest 6, rest 7)

-- the key is written first, and the number behind it
pub key_word-put : (out key : List ℕ) (tx : ℕ) (copied cells : List ℕ) → length key + 8 ≤ length out → copied ≡ key
    → cells ≡ to_be_bytes w64 tx ++ drop 8 (take (length key + 8 - length key) (drop (length key) (copied ++ drop (length key) out)))
    → take (length key + 8) (put_mid (length key) (length key + 8 - length key) (copied ++ drop (length key) out) cells) ≡ key_word key tx
unfolding key_word
key_word-put out key tx copied cells long is written =
    let size = length key in
    let here = copied ++ drop size out in
    let number = to_be_bytes w64 tx in
    let same : length copied ≡ size = ap length is in
    let none = drop_all 8 (take (size + 8 - size) (drop size here)) (omega (arith, length-take (size + 8 - size) (drop size here))) in
    let cells_are : cells ≡ number = written ∙ ap (λ (xs : List ℕ). number ++ xs) none in
    take-put_mid size (size + 8 - size) here cells (size + 8) (omega (arith, ap length cells_are)) (omega (arith, length-append copied (drop size out)))
    ∙ ap (λ (xs : List ℕ). xs ++ cells) (take_at copied (drop size out) size same ∙ is)
    ∙ ap (λ (xs : List ℕ). key ++ xs) cells_are
