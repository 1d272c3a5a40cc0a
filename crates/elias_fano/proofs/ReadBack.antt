-- The text of a list is read as that list.
use Rattle.std.proofs.Common.{◌≡◌, ℕ, ◌+◌, ◌-◌, ◌*◌, ◌/◌, ◌%◌, ◌^◌, ◌<◌, Bool, false, List, ◌++◌, length, take, drop, get_or, replicate, None, refl, sym, ap, ◌∙◌, arith}
use Rattle.std.specs.List.{position_from}
use Rattle.std.specs.Option.{option_or, option_map}
use Rattle.std.specs.Int.{w64, from_be_bytes, to_be_bytes}
use Rattle.std.proofs.lemmas.Nat.{from_be_bytes-to_be_bytes_8, shr_split}
use Rattle.std.proofs.lemmas.List.{length-drop, length-append, length-replicate, take_at, drop_at, drop-drop, take-append-le, append_assoc, take_all, ext_get_or}
use Rattle.bit_store.specs.Bits.{number_of, bits_of, ones_of, bytes_for, text_of}
use Rattle.bit_store.proofs.Numbers.{number_of-low_bits}
use Rattle.bit_store.proofs.Texts.{length-bits_of, bits_of-drop, bits_of-append, bits_of-bytes_from, bits_of-text_of, length-bytes_from}
use Rattle.elias_fano.specs.declared.parts.Parts.{Parts}
use Rattle.elias_fano.specs.declared.error.EfError.TheVariants.{Unused}
use Rattle.elias_fano.specs.Spelling.{IsListable, spelling, last_of, low_width, lower_bits, upper_bits, upper_len, upper_of}
use Rattle.elias_fano.specs.Reading.{items_of, item_fault, fault_in, place_of_one, first_one, unused_one, count_in, last_in, width_in, lower_len_in, upper_len_in, upper_start_in, asked_in, parts_in}
use Rattle.elias_fano.proofs.Lower.{fields-lower, field-fields, length-fields}
use Rattle.elias_fano.proofs.Upper.{walk-all, ones_of-walk, place-walk, highs}
use Rattle.elias_fano.proofs.Places.{length-items_of, get_or-items_of}
use Rattle.elias_fano.proofs.Faults.{position-none, none-ascends, ascends-from}
use Rattle.elias_fano.proofs.Checked.{fault-none, fault-late}
use Rattle.elias_fano.proofs.Spelled.{length-upper}

made : ℕ → ℕ → List Bool → List Bool → Parts
made a k p x = record { count = a; width = k; lower = p; upper = x }

same : (a b k m : ℕ) (p q x y : List Bool) → a ≡ b → k ≡ m → p ≡ q → x ≡ y → made a k p x ≡ made b m q y
same a b k m p q x y e f g h = cc

pub length-lower : (l : ℕ) (items : List ℕ) → length (lower_bits l items) ≡ length items * l
length-lower l items = ap length (sym (fields-lower l items)) ∙ length-fields l items

-- the parts of a list
abbrev pub parts_for : ℕ → List ℕ → Parts
parts_for l items = record { count = length items; width = l; lower = lower_bits l items; upper = upper_bits l items }

-- are read as its items
pub items_again : (l : ℕ) (items : List ℕ) → IsListable items → items_of (parts_for l items) ≡ items
items_again l items can =
    let p = parts_for l items in
    let n = length-items_of p in
    ext_get_or 0 (items_of p) items n (λ i lt.
    let within : i < length items = omega (arith, n) in
    let v : ℕ = get_or items i 0 in
    let place = place-walk l 0 items i (highs l items can.ascends) within in
    let spot = ap (λ bits. place_of_one bits i) (walk-all l items can.some can.ascends) in
    let field : number_of (take l (drop (i * l) (lower_bits l items))) ≡ v % 2 ^ l =
    ap (λ bits. number_of (take l (drop (i * l) bits))) (sym (fields-lower l items)) ∙ ap number_of (field-fields l items i within) ∙ number_of-low_bits l v in
    let high : place_of_one (upper_bits l items) i - i ≡ v / 2 ^ l = omega (arith, place, spot) in
    get_or-items_of p i within ∙ ap (λ h. h * 2 ^ l + number_of (take l (drop (i * l) (lower_bits l items)))) high ∙ ap (λ f. v / 2 ^ l * 2 ^ l + f) field ∙ shr_split v l)

-- and have nothing wrong
items_fine : (l : ℕ) (items : List ℕ) → IsListable items → item_fault (last_of items) (parts_for l items) ≡ None
items_fine l items can =
    let p = parts_for l items in
    let again = items_again l items can in
    let ones : ones_of (upper_bits l items) ≡ length items = ap ones_of (sym (walk-all l items can.some can.ascends)) ∙ ones_of-walk l 0 items in
    sym (fault-none (last_of items) (last_of items) p ones (none-ascends 0 0 (items_of p) (ascends-from 0 (items_of p) (rw again can.ascends) (λ i lt. omega arith))) (ap last_of (sym again)) refl)

no_one : (bits : List Bool) (from to z : ℕ) → take (to - from) (drop from bits) ≡ replicate z false → first_one bits from to ≡ None
no_one bits from to z e = ap (position_from (λ bit. bit) from) e ∙ position-none from z

-- what the bytes of a list say
record Said (l : ℕ) (items bytes : List ℕ) : Type 0 where
  count : count_in bytes ≡ length items
  last : last_in bytes ≡ last_of items
  parts : drop 16 bytes ≡ text_of (lower_bits l items) ++ text_of (upper_bits l items)

said : (l : ℕ) (items bytes : List ℕ) → IsListable items → bytes ≡ to_be_bytes w64 (length items) ++ (to_be_bytes w64 (last_of items) ++ (text_of (lower_bits l items) ++ text_of (upper_bits l items))) → Said l items bytes
said l items bytes can e =
    let a = to_be_bytes w64 (length items) in
    let b = to_be_bytes w64 (last_of items) in
    let rest = text_of (lower_bits l items) ++ text_of (upper_bits l items) in
    let first : take 8 bytes ≡ a = ap (take 8) e ∙ take_at a (b ++ rest) 8 refl in
    let after : drop 8 bytes ≡ b ++ rest = ap (drop 8) e ∙ drop_at a (b ++ rest) 8 refl in
    let second : take 8 (drop 8 bytes) ≡ b = ap (take 8) after ∙ take_at b rest 8 refl in
    record {
      count = ap (from_be_bytes w64) first ∙ from_be_bytes-to_be_bytes_8 (length items) can.few;
      last = ap (from_be_bytes w64) second ∙ from_be_bytes-to_be_bytes_8 (last_of items) can.small;
      parts = sym (drop-drop 8 8 bytes) ∙ ap (drop 8) after ∙ drop_at b rest 8 refl;
    }

parts_are : (bytes : List ℕ) (l : ℕ) (items : List ℕ) → count_in bytes ≡ length items → width_in bytes ≡ l → take (lower_len_in bytes) (bits_of (drop 16 bytes)) ≡ lower_bits l items
    → take (upper_len_in bytes) (bits_of (drop (upper_start_in bytes) bytes)) ≡ upper_bits l items → parts_in bytes ≡ parts_for l items
unfolding made
parts_are bytes l items a b c d = same (count_in bytes) (length items) (width_in bytes) l (take (lower_len_in bytes) (bits_of (drop 16 bytes))) (lower_bits l items) (take (upper_len_in bytes) (bits_of (drop (upper_start_in bytes) bytes))) (upper_bits l items) a b c d

-- the text of a list is read as that list
-- the text of a list has nothing wrong, and says the list
pub record Told (items bytes : List ℕ) : Type 0 where
  pub some : 0 < count_in bytes
  pub size : length bytes ≡ asked_in bytes
  pub unused : unused_one bytes ≡ None
  pub fine : item_fault (last_in bytes) (parts_in bytes) ≡ None
  pub again : items_of (parts_in bytes) ≡ items
  pub upper : take (upper_len_in bytes) (bits_of (drop (upper_start_in bytes) bytes)) ≡ upper_of items

pub told : (items bytes : List ℕ) → IsListable items → bytes ≡ spelling items → Told items bytes
unfolding spelling
told items bytes can e =
    let l : ℕ = low_width (length items) (last_of items) in
    let s = said l items bytes can e in
    let low = lower_bits l items in
    let up = upper_bits l items in
    let n : ℕ = length items * l in
    let m : ℕ = upper_len l (length items) (last_of items) in
    let k : ℕ = bytes_for n in
    let n-is : length low ≡ n = length-lower l items in
    let m-is : length up ≡ m = length-upper l items in
    let width : width_in bytes ≡ l = ap (λ x. low_width x (last_in bytes)) s.count ∙ ap (low_width (length items)) s.last in
    let low_len : lower_len_in bytes ≡ n = ap (λ x. x * width_in bytes) s.count ∙ ap (λ x. length items * x) width in
    let up_len : upper_len_in bytes ≡ m = ap (λ x. upper_len x (count_in bytes) (last_in bytes)) width ∙ ap (λ x. upper_len l x (last_in bytes)) s.count ∙ ap (upper_len l (length items)) s.last in
    let start : upper_start_in bytes ≡ 16 + k = ap (λ x. 16 + bytes_for x) low_len in
    let low_bytes : length (text_of low) ≡ k = length-bytes_from (bytes_for (length low)) low ∙ ap bytes_for n-is in
    let up_bytes : length (text_of up) ≡ bytes_for m = length-bytes_from (bytes_for (length up)) up ∙ ap bytes_for m-is in
    let behind : drop (16 + k) bytes ≡ text_of up = sym (drop-drop k 16 bytes) ∙ ap (drop k) s.parts ∙ drop_at (text_of low) (text_of up) k low_bytes in
    let asked : asked_in bytes ≡ 16 + k + bytes_for m = ap (λ x. x + bytes_for (upper_len_in bytes)) start ∙ ap (λ x. 16 + k + bytes_for x) up_len in
    let far : length (drop 16 bytes) ≡ k + bytes_for m = ap length s.parts ∙ length-append (text_of low) (text_of up) ∙ (rw (low_bytes, up_bytes) refl) in
    let rest = text_of low ++ text_of up in
    let long : length bytes ≡ 16 + length rest = ap length e ∙ length-append (to_be_bytes w64 (length items)) (to_be_bytes w64 (last_of items) ++ rest) ∙ ap (λ x. 8 + x) (length-append (to_be_bytes w64 (last_of items)) rest) ∙ omega arith in
    let size : length bytes ≡ asked_in bytes = omega (arith, far, length-drop 16 bytes, asked, long) in
    let low_text : bits_of (text_of low) ≡ low ++ replicate (8 * bytes_for (length low) - length low) false = bits_of-bytes_from (bytes_for (length low)) low (omega arith) in
    let up_text : bits_of (text_of up) ≡ up ++ replicate (8 * bytes_for (length up) - length up) false = bits_of-bytes_from (bytes_for (length up)) up (omega arith) in
    let bits : bits_of (drop 16 bytes) ≡ bits_of (text_of low) ++ bits_of (text_of up) = ap bits_of s.parts ∙ bits_of-append (text_of low) (text_of up) in
    let lower : take (lower_len_in bytes) (bits_of (drop 16 bytes)) ≡ low =
    ap (λ x. take x (bits_of (drop 16 bytes))) (low_len ∙ sym n-is) ∙ ap (take (length low)) bits ∙ take-append-le (length low) (bits_of (text_of low)) (bits_of (text_of up)) (omega (arith, length-bits_of (text_of low), low_bytes, n-is)) ∙ bits_of-text_of low in
    let upper : take (upper_len_in bytes) (bits_of (drop (upper_start_in bytes) bytes)) ≡ up =
    ap (λ x. take x (bits_of (drop (upper_start_in bytes) bytes))) (up_len ∙ sym m-is) ∙ ap (λ x. take (length up) (bits_of (drop x bytes))) start ∙ ap (λ x. take (length up) (bits_of x)) behind ∙ bits_of-text_of up in
    let parts : parts_in bytes ≡ parts_for l items = parts_are bytes l items s.count width lower upper in
    let z : ℕ = 8 * bytes_for (length low) - length low in
    let y : ℕ = 8 * bytes_for (length up) - length up in
    let gap : 8 * upper_start_in bytes - (128 + lower_len_in bytes) ≡ z = omega (arith, start, low_len, n-is, ap bytes_for n-is) in
    let tail : drop (128 + lower_len_in bytes) (bits_of bytes) ≡ replicate z false ++ bits_of (text_of up) =
    sym (drop-drop (lower_len_in bytes) 128 (bits_of bytes)) ∙ ap (drop (lower_len_in bytes)) (sym (bits_of-drop 16 bytes) ∙ bits ∙ ap (λ bs. bs ++ bits_of (text_of up)) low_text ∙ append_assoc low (replicate z false) (bits_of (text_of up))) ∙ drop_at low (replicate z false ++ bits_of (text_of up)) (lower_len_in bytes) (n-is ∙ sym low_len) in
    let first : first_one (bits_of bytes) (128 + lower_len_in bytes) (8 * upper_start_in bytes) ≡ None =
    no_one (bits_of bytes) (128 + lower_len_in bytes) (8 * upper_start_in bytes) z (ap (λ x. take x (drop (128 + lower_len_in bytes) (bits_of bytes))) gap ∙ ap (take z) tail ∙ take_at (replicate z false) (bits_of (text_of up)) z (length-replicate {A = Bool} z false)) in
    let end : drop (8 * upper_start_in bytes + upper_len_in bytes) (bits_of bytes) ≡ replicate y false =
    sym (drop-drop (upper_len_in bytes) (8 * upper_start_in bytes) (bits_of bytes)) ∙ ap (drop (upper_len_in bytes)) (sym (bits_of-drop (upper_start_in bytes) bytes) ∙ ap (λ x. bits_of (drop x bytes)) start ∙ ap bits_of behind ∙ up_text) ∙ drop_at up (replicate y false) (upper_len_in bytes) (m-is ∙ sym up_len) in
    let room : 8 * asked_in bytes - (8 * upper_start_in bytes + upper_len_in bytes) ≡ y = omega (arith, start, asked, up_len, m-is, ap bytes_for m-is) in
    let second : first_one (bits_of bytes) (8 * upper_start_in bytes + upper_len_in bytes) (8 * asked_in bytes) ≡ None =
    no_one (bits_of bytes) (8 * upper_start_in bytes + upper_len_in bytes) (8 * asked_in bytes) y (ap (λ x. take x (drop (8 * upper_start_in bytes + upper_len_in bytes) (bits_of bytes))) room ∙ ap (take y) end ∙ take_all y (replicate y false) (omega (arith, length-replicate {A = Bool} y false))) in
    let unused : unused_one bytes ≡ None = ap (λ o. option_or o (first_one (bits_of bytes) (8 * upper_start_in bytes + upper_len_in bytes) (8 * asked_in bytes))) first ∙ second in
    let fine : item_fault (last_in bytes) (parts_in bytes) ≡ None = ap (λ p. item_fault (last_in bytes) p) parts ∙ ap (λ x. item_fault x (parts_for l items)) s.last ∙ items_fine l items can in
    let some : 0 < count_in bytes = omega (arith, s.count, can.some) in
    record { some = some; size = size; unused = unused; fine = fine; again = ap items_of parts ∙ items_again l items can; upper = upper }

pub read_back : (items bytes : List ℕ) → IsListable items → bytes ≡ spelling items → (fault_in bytes ≡ None) × (items_of (parts_in bytes) ≡ items)
read_back items bytes can e =
    let t = told items bytes can e in
    (fault-late bytes t.some t.size ∙ ap (λ o. option_or (option_map (λ bit. Unused bit) o) (item_fault (last_in bytes) (parts_in bytes))) t.unused ∙ t.fine, t.again)
