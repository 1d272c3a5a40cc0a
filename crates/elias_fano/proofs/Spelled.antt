-- Bytes with nothing wrong are the text of their items, and the text of a list has nothing wrong.
use Rattle.std.proofs.Common.{◌≡◌, ℕ, ◌+◌, ◌-◌, ◌*◌, ◌/◌, ◌%◌, ◌^◌, ◌<◌, Bool, true, false, List, [], ◌∷◌, ◌++◌, length, take, drop, replicate, Option, Some, None, refl, sym, ap, ◌∙◌, arith}
use Rattle.std.specs.List.{position_from}
use Rattle.std.specs.List.Sorted.{IsNonDecreasing}
use Rattle.std.specs.Option.{option_or}
use Rattle.std.specs.Int.{w64, to_be_bytes}
use Rattle.std.proofs.lemmas.Nat.{be_bytes_8}
use Rattle.std.proofs.lemmas.List.{length-take, length-drop, length-append, length-replicate, take-append-drop, take_all, drop-drop, drop-take, take-take, append-nil}
use Rattle.std.proofs.lemmas.List.FromFn.{length-map-range_with_len}
use Rattle.bit_store.specs.Bits.{number_of, bits_of, ones_of, bytes_for, text_of, IsHeld}
use Rattle.bit_store.proofs.Numbers.{number_of-append, number_of-replicate, number_of-lt}
use Rattle.bit_store.proofs.Texts.{IsBytes, IsBytes-take, IsBytes-drop, length-bits_of, bits_of-take, bits_of-drop, text_of-held}
use Rattle.elias_fano.specs.declared.parts.Parts.{Parts}
use Rattle.elias_fano.specs.Spelling.{IsListable, spelling, spelled, last_of, low_width, lower_bits, upper_bit, upper_bits, upper_len}
use Rattle.elias_fano.specs.Reading.{items_of, first_one, unused_one, count_in, last_in, width_in, lower_len_in, upper_len_in, upper_start_in, asked_in, parts_in, IsFine}
use Rattle.elias_fano.proofs.Lower.{fields-lower, fields-from}
use Rattle.elias_fano.proofs.Upper.{walk, walk-from, walk-all}
use Rattle.elias_fano.proofs.Places.{item-parts, length-items_of, get_or-items_of}
use Rattle.elias_fano.proofs.Checked.{none-fault, lower-len, upper-len, listed, word_below}
use Rattle.elias_fano.proofs.Joined.{same_parts}

-- no 1 among bits
no_position : (i : ℕ) (bits : List Bool) → position_from (λ bit. bit) i bits ≡ None → bits ≡ replicate (length bits) false
no_position i [] e = refl
no_position i (true ∷ bits) e = absurd cc
no_position i (false ∷ bits) e = ap (λ bs. false ∷ bs) (no_position (i + 1) bits e)

-- bytes that hold some bits and behind them zeros
held_from_zeros : (len : ℕ) (bytes : List ℕ) → length bytes ≡ bytes_for len → drop len (bits_of bytes) ≡ replicate (length (drop len (bits_of bytes))) false → IsHeld len bytes
held_from_zeros len bytes count zeros =
    let all = bits_of bytes in
    let rest = drop len all in
    let front : length (take len all) ≡ len = omega (arith, length-take len all, length-bits_of bytes) in
    let none : number_of rest ≡ 0 = ap number_of zeros ∙ number_of-replicate (length rest) in
    let split : number_of all ≡ number_of (take len all) + 2 ^ length (take len all) * number_of rest = ap number_of (sym (take-append-drop len all)) ∙ number_of-append (take len all) rest in
    let same : number_of all ≡ number_of (take len all) = split ∙ (rw none (omega arith)) in
    record { count = count; rest = rw same (rw front at (number_of-lt (take len all))) }

split_or : (a b : Option ℕ) → option_or a b ≡ None → (a ≡ None) × (b ≡ None)
split_or None b e = (refl, e)
split_or (Some x) b e = absurd cc

-- the bytes of the lower part hold its bits
lower_held : (bytes : List ℕ) → length bytes ≡ asked_in bytes → unused_one bytes ≡ None → IsHeld (lower_len_in bytes) (take (bytes_for (lower_len_in bytes)) (drop 16 bytes))
lower_held bytes size unused =
    let n : ℕ = lower_len_in bytes in
    let k : ℕ = bytes_for n in
    let part = take k (drop 16 bytes) in
    let none = (split_or (first_one (bits_of bytes) (128 + n) (8 * upper_start_in bytes)) (first_one (bits_of bytes) (8 * upper_start_in bytes + upper_len_in bytes) (8 * asked_in bytes)) unused).0 in
    let len : length part ≡ k = omega (arith, length-take k (drop 16 bytes), length-drop 16 bytes, size) in
    let to : 8 * k ≡ n + (8 * k - n) = omega arith in
    let gap : 8 * upper_start_in bytes - (128 + n) ≡ 8 * k - n = omega arith in
    let bits : bits_of part ≡ take (8 * k) (drop 128 (bits_of bytes)) = bits_of-take k (drop 16 bytes) ∙ ap (take (8 * k)) (bits_of-drop 16 bytes) in
    let rest : drop n (bits_of part) ≡ take (8 * upper_start_in bytes - (128 + n)) (drop (128 + n) (bits_of bytes)) =
    ap (drop n) bits ∙ ap (λ m. drop n (take m (drop 128 (bits_of bytes)))) to ∙ drop-take n (8 * k - n) (drop 128 (bits_of bytes)) ∙ ap (take (8 * k - n)) (drop-drop n 128 (bits_of bytes)) ∙ ap (λ m. take m (drop (128 + n) (bits_of bytes))) (sym gap) in
    let zeros = no_position (128 + n) (take (8 * upper_start_in bytes - (128 + n)) (drop (128 + n) (bits_of bytes))) none in
    held_from_zeros n part len (rest ∙ zeros ∙ ap (λ bs. replicate (length bs) false) (sym rest))

-- and so do those of the upper part
upper_held : (bytes : List ℕ) → length bytes ≡ asked_in bytes → unused_one bytes ≡ None → IsHeld (upper_len_in bytes) (drop (upper_start_in bytes) bytes)
upper_held bytes size unused =
    let n : ℕ = upper_len_in bytes in
    let s : ℕ = upper_start_in bytes in
    let part = drop s bytes in
    let none = (split_or (first_one (bits_of bytes) (128 + lower_len_in bytes) (8 * s)) (first_one (bits_of bytes) (8 * s + n) (8 * asked_in bytes)) unused).1 in
    let len : length part ≡ bytes_for n = omega (arith, length-drop s bytes, size) in
    let rest : drop n (bits_of part) ≡ drop (8 * s + n) (bits_of bytes) = ap (drop n) (bits_of-drop s bytes) ∙ drop-drop n (8 * s) (bits_of bytes) in
    let all : take (8 * asked_in bytes - (8 * s + n)) (drop (8 * s + n) (bits_of bytes)) ≡ drop (8 * s + n) (bits_of bytes) =
    take_all (8 * asked_in bytes - (8 * s + n)) (drop (8 * s + n) (bits_of bytes)) (omega (arith, length-drop (8 * s + n) (bits_of bytes), length-bits_of bytes, size)) in
    let zeros = no_position (8 * s + n) (take (8 * asked_in bytes - (8 * s + n)) (drop (8 * s + n) (bits_of bytes))) none in
    held_from_zeros n part len (rest ∙ sym all ∙ zeros ∙ ap (λ bs. replicate (length bs) false) (all ∙ sym rest))

-- the lower part is that of the items
lower_is : (p : Parts) → length p.lower ≡ p.count * p.width → lower_bits p.width (items_of p) ≡ p.lower
lower_is p low =
    let n = length-items_of p in
    sym (fields-lower p.width (items_of p)) ∙ fields-from p.width (items_of p) p.lower (low ∙ ap (λ m. m * p.width) (sym n))
    (λ i lt. let within : i < p.count = omega (arith, n) in ap (λ x. x % 2 ^ p.width) (get_or-items_of p i within) ∙ (item-parts p i low within).1)

pub length-upper : (l : ℕ) (items : List ℕ) → length (upper_bits l items) ≡ upper_len l (length items) (last_of items)
unfolding upper_bits
length-upper l items = length-map-range_with_len (upper_bit l items) 0 (upper_len l (length items) (last_of items))

-- the upper part is that of the items
upper_is : (p : Parts) (last : ℕ) → 0 < p.count → length p.lower ≡ p.count * p.width → length p.upper ≡ upper_len p.width p.count last → ones_of p.upper ≡ p.count → last_of (items_of p) ≡ last → IsNonDecreasing (items_of p) → upper_bits p.width (items_of p) ≡ p.upper
upper_is p last some low up ones ends ascends =
    let l : ℕ = p.width in
    let items = items_of p in
    let n = length-items_of p in
    let from = walk-from l 0 p.upper items (n ∙ sym ones)
    (λ i lt. let within : i < p.count = omega (arith, n) in ap (λ x. x / 2 ^ l) (get_or-items_of p i within) ∙ (item-parts p i low within).0 ∙ (omega arith)) in
    let z : ℕ = from.1.0 in
    let whole : walk l 0 items ≡ upper_bits l items = walk-all l items (omega (arith, n)) ascends in
    let size : length (upper_bits l items) ≡ upper_len l (length items) (last_of items) = length-upper l items in
    let len : length p.upper ≡ length (walk l 0 items) + z = ap length from.1.1 ∙ length-append (walk l 0 items) (replicate z false) ∙ ap (λ m. length (walk l 0 items) + m) (length-replicate {A = Bool} z false) in
    let same : upper_len l (length items) (last_of items) ≡ upper_len l p.count last = ap (λ m. m / 2 ^ l + length items) ends ∙ ap (λ m. last / 2 ^ l + m) n in
    let none : z ≡ 0 = omega (arith, len, up, size, ap length whole, same) in
    sym (from.1.1 ∙ ap (λ m. walk l 0 items ++ replicate m false) none ∙ append-nil (walk l 0 items) ∙ whole)

-- four parts of bytes
cut_whole : (k : ℕ) (bytes : List ℕ) → take 8 bytes ++ (take 8 (drop 8 bytes) ++ (take k (drop 16 bytes) ++ drop (16 + k) bytes)) ≡ bytes
cut_whole k bytes =
    let last : take k (drop 16 bytes) ++ drop (16 + k) bytes ≡ drop 16 bytes = ap (λ bs. take k (drop 16 bytes) ++ bs) (sym (drop-drop k 16 bytes)) ∙ take-append-drop k (drop 16 bytes) in
    let middle : take 8 (drop 8 bytes) ++ drop 16 bytes ≡ drop 8 bytes = ap (λ bs. take 8 (drop 8 bytes) ++ bs) (sym (drop-drop 8 8 bytes)) ∙ take-append-drop 8 (drop 8 bytes) in
    ap (λ bs. take 8 bytes ++ (take 8 (drop 8 bytes) ++ bs)) last ∙ ap (λ bs. take 8 bytes ++ bs) middle ∙ take-append-drop 8 bytes

-- bytes with nothing wrong are spelled so
pub is_spelled : (bytes : List ℕ) → IsBytes bytes → length bytes < 2 ^ 60 → IsFine bytes → IsListable (items_of (parts_in bytes)) × (bytes ≡ spelling (items_of (parts_in bytes)))
unfolding spelling
is_spelled bytes fits short fine =
    let p = parts_in bytes in
    let items = items_of p in
    let none = none-fault (last_in bytes) p fine.items in
    let list = listed bytes fits short fine.size fine.narrow fine.items in
    let n : length items ≡ count_in bytes = length-items_of p in
    let ends : last_of items ≡ last_in bytes = none.2 in
    let width : low_width (length items) (last_of items) ≡ width_in bytes = ap (λ m. low_width m (last_of items)) n ∙ ap (low_width (count_in bytes)) ends in
    let k : ℕ = bytes_for (lower_len_in bytes) in
    let low_part = take k (drop 16 bytes) in
    let up_part = drop (upper_start_in bytes) bytes in
    let fits_low : IsBytes low_part = IsBytes-take k (drop 16 bytes) (IsBytes-drop 16 bytes fits) in
    let low_bits_are : take (lower_len_in bytes) (bits_of low_part) ≡ p.lower =
    ap (take (lower_len_in bytes)) (bits_of-take k (drop 16 bytes)) ∙ take-take (lower_len_in bytes) (8 * k) (bits_of (drop 16 bytes)) (omega arith) in
    let low : text_of (lower_bits (width_in bytes) items) ≡ low_part = ap text_of (lower_is p (lower-len bytes fine.size) ∙ sym low_bits_are) ∙ text_of-held (lower_len_in bytes) low_part fits_low (lower_held bytes fine.size fine.unused) in
    let up : text_of (upper_bits (width_in bytes) items) ≡ up_part =
    ap text_of (upper_is p (last_in bytes) fine.some (lower-len bytes fine.size) (upper-len bytes fine.size) none.0 ends list.ascends) ∙ text_of-held (upper_len_in bytes) up_part (IsBytes-drop (upper_start_in bytes) bytes fits) (upper_held bytes fine.size fine.unused) in
    let first : to_be_bytes w64 (length items) ≡ take 8 bytes = ap (to_be_bytes w64) n ∙ be_bytes_8 (take 8 bytes) (count_in bytes) (omega (arith, length-take 8 bytes, fine.size)) (IsBytes-take 8 bytes fits) refl in
    let second : to_be_bytes w64 (last_of items) ≡ take 8 (drop 8 bytes) = ap (to_be_bytes w64) ends ∙ be_bytes_8 (take 8 (drop 8 bytes)) (last_in bytes) (omega (arith, length-take 8 (drop 8 bytes), length-drop 8 bytes, fine.size)) (IsBytes-take 8 (drop 8 bytes) (IsBytes-drop 8 bytes fits)) refl in
    let cut : take 8 bytes ++ (take 8 (drop 8 bytes) ++ (low_part ++ up_part)) ≡ bytes = cut_whole k bytes in
    let whole : spelled (width_in bytes) items ≡ bytes = same_parts (to_be_bytes w64 (length items)) (take 8 bytes) (to_be_bytes w64 (last_of items)) (take 8 (drop 8 bytes)) (text_of (lower_bits (width_in bytes) items)) low_part (text_of (upper_bits (width_in bytes) items)) up_part first second low up ∙ cut in
    let small : last_in bytes < 2 ^ 64 = word_below (take 8 (drop 8 bytes)) (IsBytes-take 8 (drop 8 bytes) (IsBytes-drop 8 bytes fits)) in
    let few : count_in bytes < 2 ^ 64 = word_below (take 8 bytes) (IsBytes-take 8 bytes fits) in
    (record { some = omega (arith, n, fine.some); few = omega (arith, n, few); small = omega (arith, ends, small); ascends = list.ascends }, sym whole ∙ ap (λ w. spelled w items) (sym width))
