-- A list is written item by item.
use Rattle.std.proofs.Common.{◌≡◌, ℕ, suc, ◌+◌, ◌-◌, ◌*◌, ◌/◌, ◌%◌, ◌^◌, ◌<◌, ◌≤◌, Bool, true, false, List, [], ◌∷◌, ◌++◌, length, drop, get_or, replicate, refl, sym, ap, ◌∙◌, arith, inl, inr}
use Rattle.std.specs.Int.{w64, to_be_bytes}
use Rattle.std.specs.List.Sorted.{IsNonDecreasing}
use Rattle.std.proofs.Math.Nat.{zero-div, suc-mul, mul-le-mul_right}
use Rattle.std.proofs.lemmas.List.{length-append, drop_at, append-nil, append_assoc, get_or-append_right, get_or_append_left, get_or_default}
use Rattle.std.proofs.lemmas.List.Sorted.{IsNonDecreasingBy-push}
use Rattle.std.proofs.lemmas.Grind.{flat_map-append}
use Rattle.bit_store.specs.Bits.{low_bits, bits_of, bytes_for}
use Rattle.bit_store.specs.Reserved.{Reserved}
use Rattle.bit_store.proofs.Texts.{length-bits_of}
use Rattle.elias_fano.specs.Spelling.{IsListable, last_of, low_width, lower_bits, upper_bits, upper_len}
use Rattle.elias_fano.specs.Reading.{items_of}
use Rattle.elias_fano.specs.Writing.{Writing, head_of, items_in, room_for, IsWriting}
use Rattle.elias_fano.proofs.Lower.{fields, fields-lower}
use Rattle.elias_fano.proofs.Upper.{walk, top, top-last, walk-all, walk-push, walk-nil, top-nil, high_le}
use Rattle.elias_fano.proofs.Spelled.{length-upper}
use Rattle.elias_fano.proofs.ReadBack.{items_again, length-lower}

pub head-long : (count last : ℕ) → length (bits_of (head_of count last)) ≡ 128
head-long count last =
    let a : length (to_be_bytes w64 count) ≡ 8 = refl in
    let b : length (to_be_bytes w64 last) ≡ 8 = refl in
    omega (arith, length-bits_of (head_of count last), length-append (to_be_bytes w64 count) (to_be_bytes w64 last), a, b)

-- what the two parts hold is read as the items
pub again : (width count last : ℕ) (items : List ℕ) → IsListable items → items_in (length items) width (bits_of (head_of count last) ++ lower_bits width items) (upper_bits width items) ≡ items
again width count last items can =
    ap (λ low. items_of (record { count = length items; width = width; lower = low; upper = upper_bits width items })) (drop_at (bits_of (head_of count last)) (lower_bits width items) 128 (head-long count last)) ∙ items_again width items can

pub none-again : (width : ℕ) (lower upper : List Bool) → items_in 0 width lower upper ≡ []
unfolding items_of
none-again width lower upper = refl

pub none-lower : (width : ℕ) → lower_bits width [] ≡ []
none-lower width = sym (fields-lower width [])

pub none-upper : (width : ℕ) → upper_bits width [] ≡ []
unfolding upper_bits
none-upper width = rw (zero-div (2 ^ width)) refl

-- the steps are the upper part of any list
walk-any : (width : ℕ) (items : List ℕ) → IsNonDecreasing items → walk width 0 items ≡ upper_bits width items
walk-any width [] up = walk-nil width 0 ∙ sym (none-upper width)
walk-any width (v ∷ items) up = walk-all width (v ∷ items) (omega arith) up

top-any : (width : ℕ) (items : List ℕ) → top width 0 items ≡ last_of items / 2 ^ width
top-any width [] = top-nil width 0 ∙ sym (zero-div (2 ^ width))
top-any width (v ∷ items) =
    let at_end : length (v ∷ items) - 1 ≡ length items = omega arith in
    top-last width 0 v items ∙ ap (λ n. get_or (v ∷ items) n 0 / 2 ^ width) (sym at_end)

-- one item more
pub up-push : (items : List ℕ) (v : ℕ) → IsNonDecreasing items → last_of items ≤ v → IsNonDecreasing (items ++ v ∷ [])
up-push items v up le = IsNonDecreasingBy-push (λ n. n) items v up (λ d pos. le-default items d v pos le)
  where
    le-default : (items : List ℕ) (d v : ℕ) → 0 < length items → last_of items ≤ v → get_or items (length items - 1) d ≤ v
    le-default items d v pos le = rw (get_or_default items (length items - 1) d 0 (omega arith)) le

pub last-push : (items : List ℕ) (v : ℕ) → last_of (items ++ v ∷ []) ≡ v
last-push items v =
    let size : length (items ++ v ∷ []) - 1 ≡ length items = omega (arith, length-append items (v ∷ [])) in
    let none : length items - length items ≡ 0 = omega arith in
    ap (λ n. get_or (items ++ v ∷ []) n 0) size ∙ get_or-append_right items (v ∷ []) (length items) (length items) 0 refl (omega arith) ∙ ap (λ n. get_or (v ∷ []) n 0) none

pub lower-push : (width v : ℕ) (items : List ℕ) → lower_bits width (items ++ v ∷ []) ≡ lower_bits width items ++ low_bits width v
lower-push width v items =
    sym (fields-lower width (items ++ v ∷ [])) ∙ flat_map-append (low_bits width) items (v ∷ []) ∙ ap (λ bs. fields width items ++ bs) (append-nil (low_bits width v)) ∙ ap (λ bs. bs ++ low_bits width v) (fields-lower width items)

pub upper-push : (width v : ℕ) (items : List ℕ) → IsNonDecreasing items → last_of items ≤ v
    → upper_bits width (items ++ v ∷ []) ≡ (upper_bits width items ++ replicate (v / 2 ^ width - last_of items / 2 ^ width) false) ++ true ∷ []
upper-push width v items up le =
    let zeros = replicate (v / 2 ^ width - last_of items / 2 ^ width) false in
    sym (walk-any width (items ++ v ∷ []) (up-push items v up le)) ∙ walk-push width 0 items v
    ∙ ap (λ h. walk width 0 items ++ (replicate (v / 2 ^ width - h) false ++ true ∷ [])) (top-any width items)
    ∙ ap (λ bs. bs ++ (zeros ++ true ∷ [])) (walk-any width items up)
    ∙ sym (append_assoc (upper_bits width items) zeros (true ∷ []))

-- ---- the room

pub lower-long : (count last width : ℕ) (lower : List Bool) (items : List ℕ) → lower ≡ bits_of (head_of count last) ++ lower_bits width items → length lower ≡ 128 + length items * width
lower-long count last width lower items e = ap length e ∙ omega (arith, length-append (bits_of (head_of count last)) (lower_bits width items), head-long count last, length-lower width items)

pub upper-long : (width : ℕ) (upper : List Bool) (items : List ℕ) → upper ≡ upper_bits width items → length upper ≡ last_of items / 2 ^ width + length items
upper-long width upper items e = ap length e ∙ length-upper width items

-- so many fields take at most so many bits
pub fields-fit : (n count width : ℕ) → n ≤ count → n * width ≤ count * width
fields-fit n count width le = mul-le-mul_right width le

-- ---- one item more

-- room for the low bits of an item
pub lower-room : (count last width placed high : ℕ) (lower upper : Reserved) (items : List ℕ) → IsWriting count last width placed high lower upper items → length items < count
    → length lower.bits + width ≤ lower.room
lower-room count last width placed high lower upper items w lt =
    let long = lower-long count last width lower.bits items w.lower_is in
    let most : suc (length items) * width ≤ count * width = fields-fit (suc (length items)) count width (omega arith) in
    omega (arith, long, most, suc-mul (length items) width, w.lower_room)

-- room for its rise, and its 1
pub upper-room : (count last width placed high item : ℕ) (lower upper : Reserved) (items : List ℕ) → IsWriting count last width placed high lower upper items → length items < count
    → last_of items ≤ item → item ≤ last → length upper.bits + (item / 2 ^ width - high) + 1 ≤ upper.room
upper-room count last width placed high item lower upper items w lt up most =
    let long = upper-long width upper.bits items w.upper_is in
    let rise : last_of items / 2 ^ width ≤ item / 2 ^ width = high_le width (last_of items) item up in
    let top : item / 2 ^ width ≤ last / 2 ^ width = high_le width item last most in
    omega (arith, long, rise, top, w.high_is, w.upper_room)

-- what the two parts hold with the item behind
pub record IsPut (count last width placed high : ℕ) (lower upper : Reserved) (items : List ℕ) : Type 0 where
  pub are : items_in placed width lower.bits upper.bits ≡ items
  pub writing : IsWriting count last width placed high lower upper (items_in placed width lower.bits upper.bits)

pub put : (count last width placed high item : ℕ) (lower upper lower' upper' : Reserved) (items : List ℕ) → IsWriting count last width placed high lower upper items → length items < count
    → last_of items ≤ item → item ≤ last
    → lower'.bits ≡ lower.bits ++ low_bits width item → lower'.room ≡ lower.room
    → upper'.bits ≡ (upper.bits ++ replicate (item / 2 ^ width - high) false) ++ true ∷ [] → upper'.room ≡ upper.room
    → IsPut count last width (placed + 1) (item / 2 ^ width) lower' upper' (items ++ item ∷ [])
put count last width placed high item lower upper lower' upper' items w lt up most l-is l-room u-is u-room =
    let all = items ++ item ∷ [] in
    let ascends : IsNonDecreasing all = up-push items item w.ascends up in
    let end : last_of all ≡ item = last-push items item in
    let size : length all ≡ placed + 1 = omega (arith, length-append items (item ∷ []), w.placed_is) in
    let low : lower'.bits ≡ bits_of (head_of count last) ++ lower_bits width all =
    l-is ∙ ap (λ bs. bs ++ low_bits width item) w.lower_is ∙ append_assoc (bits_of (head_of count last)) (lower_bits width items) (low_bits width item) ∙ ap (λ bs. bits_of (head_of count last) ++ bs) (sym (lower-push width item items)) in
    let high-up : upper'.bits ≡ upper_bits width all =
    u-is ∙ ap (λ h. (upper.bits ++ replicate (item / 2 ^ width - h) false) ++ true ∷ []) w.high_is ∙ ap (λ bs. (bs ++ replicate (item / 2 ^ width - last_of items / 2 ^ width) false) ++ true ∷ []) w.upper_is ∙ sym (upper-push width item items w.ascends up) in
    let can : IsListable all = record { some = omega (arith, size); few = omega (arith, size, w.placed_is, w.few); small = omega (arith, end, w.small); ascends = ascends } in
    let are : items_in (placed + 1) width lower'.bits upper'.bits ≡ all =
    ap (λ n. items_in n width lower'.bits upper'.bits) (sym size) ∙ ap (λ bs. items_in (length all) width bs upper'.bits) low ∙ ap (λ bs. items_in (length all) width (bits_of (head_of count last) ++ lower_bits width all) bs) high-up ∙ again width count last all can in
    record {
      are = are;
      writing = rw are (record {
        some = w.some;
        few = w.few;
        small = w.small;
        width_is = w.width_is;
        narrow = w.narrow;
        placed_is = sym size;
        fits = omega (arith, w.placed_is);
        ascends = ascends;
        most = omega (arith, end);
        high_is = ap (λ n. n / 2 ^ width) (sym end);
        lower_is = low;
        upper_is = high-up;
        lower_room = l-room ∙ w.lower_room;
        upper_room = u-room ∙ w.upper_room;
      });
    }

-- no item yet
pub begun : (count last width : ℕ) (lower upper : Reserved) → 0 < count → count < 2 ^ 32 → last < 2 ^ 64 → width < 64 → width ≡ low_width count last
    → lower.bits ≡ bits_of (head_of count last) → lower.room ≡ room_for width count last → upper.bits ≡ [] → upper.room ≡ upper_len width count last
    → IsPut count last width 0 0 lower upper []
begun count last width lower upper some few small narrow is l-is l-room u-is u-room =
    let are : items_in 0 width lower.bits upper.bits ≡ [] = none-again width lower.bits upper.bits in
    record {
      are = are;
      writing = rw are (record {
        some = some;
        few = few;
        small = small;
        width_is = is;
        narrow = narrow;
        placed_is = refl;
        fits = omega arith;
        ascends = λ i j d le lt. absurd (omega arith);
        most = omega arith;
        high_is = sym (zero-div (2 ^ width));
        lower_is = l-is ∙ sym (append-nil (bits_of (head_of count last))) ∙ ap (λ bs. bits_of (head_of count last) ++ bs) (sym (none-lower width));
        upper_is = u-is ∙ sym (none-upper width);
        lower_room = l-room;
        upper_room = u-room;
      });
    }

abbrev pub written : ℕ → ℕ → List ℕ → Writing
written count last items = record { count = count; last = last; items = items }

pub same_items : (count last : ℕ) (a b : List ℕ) → a ≡ b → written count last a ≡ written count last b
same_items count last a b e = ap (λ items. written count last items) e

-- in a list that doesn't descend the next item isn't below the last one
pub next-up : (items rest all : List ℕ) (item : ℕ) → IsNonDecreasing all → items ++ item ∷ rest ≡ all → last_of items ≤ item
next-up [] rest all item up e = omega arith
next-up (v ∷ items) rest all item up e =
    let front = v ∷ items in
    let n : ℕ = length items in
    let size : length all ≡ length front + length (item ∷ rest) = sym (ap length e) ∙ length-append front (item ∷ rest) in
    let at_end : length front - 1 ≡ n = omega arith in
    let none : length front - length front ≡ 0 = omega arith in
    let before : get_or all n 0 ≡ last_of front = ap (λ xs. get_or xs n 0) (sym e) ∙ get_or_append_left front (item ∷ rest) 0 n (omega arith) ∙ ap (λ k. get_or front k 0) (sym at_end) in
    let behind : get_or all (suc n) 0 ≡ item = ap (λ xs. get_or xs (suc n) 0) (sym e) ∙ get_or-append_right front (item ∷ rest) (length front) (suc n) 0 refl (omega arith) ∙ ap (λ k. get_or (item ∷ rest) k 0) none in
    omega (arith, up n (suc n) 0 (omega arith) (omega (arith, size)), before, behind)
