-- The places of the ones, and the items that are read there.
use Rattle.std.proofs.Common.{◌≡◌, ℕ, zero, suc, ◌+◌, ◌-◌, ◌*◌, ◌/◌, ◌%◌, ◌^◌, ◌<◌, ◌≤◌, Bool, true, false, List, [], ◌∷◌, ◌++◌, Option, Some, None, reverse, length, take, drop, get_or, refl, sym, ap, ◌∙◌, arith}
use Rattle.std.specs.Prelude.{IfNone, IsSome}
use Rattle.std.proofs.Math.Nat.{mul-le-mul_right, mul_comm, mod-eq_of_lt}
use Rattle.std.proofs.lemmas.Nat.{pow_pos, pow-add, mul-add-lt, div-mul-add, mod-mul-add, div_below}
use Rattle.std.proofs.lemmas.List.{length-take, length-drop, drop_more, take_more, reverse-append}
use Rattle.std.proofs.lemmas.List.FromFn.{length-map-range_with_len, get_or-map-range_with_len}
use Rattle.bit_store.specs.Bits.{number_of, ones_of, IsOneAt}
use Rattle.bit_store.proofs.Numbers.{number_of-lt, ones_of-le, ones_of-split, ones_of-append}
use Rattle.elias_fano.specs.declared.parts.Parts.{Parts}
use Rattle.elias_fano.specs.Spelling.{upper_len}
use Rattle.elias_fano.specs.Reading.{place_of_one, item_at, items_of}

-- a 1 with so many ones before it
pub place-is : (bits : List Bool) (k p : ℕ) → IsOneAt bits p → ones_of (take p bits) ≡ k → place_of_one bits k ≡ p
unfolding place_of_one ones_of
place-is [] k p is e = absurd (omega (arith, is.0))
place-is (true ∷ bits) zero zero is e = refl
place-is (true ∷ bits) (suc k) zero is e = absurd (omega arith)
place-is (true ∷ bits) zero (suc p) is e = absurd (omega arith)
place-is (true ∷ bits) (suc k) (suc p) is e = ap suc (place-is bits k p (omega (arith, is.0), is.1) (omega arith))
place-is (false ∷ bits) k zero is e = absurd cc
place-is (false ∷ bits) k (suc p) is e = ap suc (place-is bits k p (omega (arith, is.0), is.1) (omega arith))

pub place-one : (bits : List Bool) (k : ℕ) → k < ones_of bits → IsOneAt bits (place_of_one bits k) × (ones_of (take (place_of_one bits k) bits) ≡ k)
unfolding place_of_one ones_of
place-one [] k lt = absurd (omega arith)
place-one (true ∷ bits) zero lt = ((omega arith, refl), refl)
place-one (true ∷ bits) (suc k) lt = let ih = place-one bits k (omega arith) in ((omega (arith, ih.0.0), ih.0.1), omega (arith, ih.1))
place-one (false ∷ bits) k lt = let ih = place-one bits k (omega arith) in ((omega (arith, ih.0.0), ih.0.1), omega (arith, ih.1))

-- a 1 stands behind those before it, and those behind it have room
pub place-room : (bits : List Bool) (k : ℕ) → k < ones_of bits → (k ≤ place_of_one bits k) × (place_of_one bits k + ones_of bits ≤ length bits + k)
place-room bits k lt =
    let p : ℕ = place_of_one bits k in
    let one = place-one bits k lt in
    (omega (arith, one.1, ones_of-le (take p bits), length-take p bits), omega (arith, one.1, ones_of-split p bits, ones_of-le (drop p bits), length-drop p bits))

-- the field of an item is below 2 ^ l
pub field-lt : (l i : ℕ) (lower : List Bool) → i * l + l ≤ length lower → number_of (take l (drop (i * l) lower)) < 2 ^ l
field-lt l i lower within =
    let len : length (take l (drop (i * l) lower)) ≡ l = omega (arith, length-take l (drop (i * l) lower), length-drop (i * l) lower) in
    rw len at (number_of-lt (take l (drop (i * l) lower)))

pub field-within : (l i n : ℕ) → i < n → i * l + l ≤ n * l
field-within l i n lt =
    let le : i + 1 ≤ n = omega arith in
    omega (arith, mul-le-mul_right l le)

-- the parts of an item
pub item-parts : (p : Parts) (i : ℕ) → length p.lower ≡ p.count * p.width → i < p.count
    → (item_at p i / 2 ^ p.width ≡ place_of_one p.upper i - i) × (item_at p i % 2 ^ p.width ≡ number_of (take p.width (drop (i * p.width) p.lower)))
item-parts p i len lt =
    let f : ℕ = number_of (take p.width (drop (i * p.width) p.lower)) in
    let small : f < 2 ^ p.width = field-lt p.width i p.lower (omega (arith, field-within p.width i p.count lt)) in
    (div-mul-add (place_of_one p.upper i - i) (2 ^ p.width) f small, mod-mul-add (place_of_one p.upper i - i) (2 ^ p.width) f small)

-- an upper part that isn't above that of a last number, and low bits, are a number of 64 bits
pub high-small : (l last h f : ℕ) → l < 64 → last < 2 ^ 64 → h ≤ last / 2 ^ l → f < 2 ^ l → h * 2 ^ l + f < 2 ^ 64
high-small l last h f narrow fits high small =
    let places : (64 - l) + l ≡ 64 = omega arith in
    let whole : 2 ^ (64 - l) * 2 ^ l ≡ 2 ^ 64 = sym (pow-add 2 (64 - l) l) ∙ ap (λ n. 2 ^ n) places in
    let below : last / 2 ^ l < 2 ^ (64 - l) = div_below last (2 ^ l) (2 ^ (64 - l)) (pow_pos l) (omega (arith, whole)) in
    let place : h * 2 ^ l + f < 2 ^ l * 2 ^ (64 - l) = mul-add-lt h (2 ^ l) f (2 ^ (64 - l)) (omega arith) small in
    omega (arith, place, whole, mul_comm (2 ^ l) (2 ^ (64 - l)))

-- nothing of it is lost where it is shifted
pub high-fits : (l last h f : ℕ) → l < 64 → last < 2 ^ 64 → h ≤ last / 2 ^ l → f < 2 ^ l → (h * 2 ^ l % 18446744073709551616 ≡ h * 2 ^ l) × (h * 2 ^ l + f < 18446744073709551616)
high-fits l last h f narrow fits high small = let all = high-small l last h f narrow fits high small in (mod-eq_of_lt (omega (arith, all)), omega (arith, all))

-- an item is a number of 64 bits
pub item-small : (p : Parts) (last i : ℕ) → length p.lower ≡ p.count * p.width → length p.upper ≡ upper_len p.width p.count last → ones_of p.upper ≡ p.count → p.width < 64 → last < 2 ^ 64 → i < p.count → item_at p i < 2 ^ 64
item-small p last i len up ones narrow fits lt =
    let l : ℕ = p.width in
    let room = place-room p.upper i (omega arith) in
    high-small l last (place_of_one p.upper i - i) (number_of (take l (drop (i * l) p.lower))) narrow fits (omega (arith, room.0, room.1)) (field-lt l i p.lower (omega (arith, field-within l i p.count lt)))

pub length-items_of : (p : Parts) → length (items_of p) ≡ p.count
unfolding items_of
length-items_of p = length-map-range_with_len (item_at p) 0 p.count

pub get_or-items_of : (p : Parts) (i : ℕ) → i < p.count → get_or (items_of p) i 0 ≡ item_at p i
unfolding items_of
get_or-items_of p i lt = get_or-map-range_with_len (item_at p) 0 p.count i i 0 lt (omega arith)

-- a 1 that is there is found
pub some_place : (bits : List Bool) (k : ℕ) (r : Option ℕ) → k < ones_of bits → IfNone r (ones_of bits ≤ k) → IsSome r
some_place bits k (Some p) lt none = refl
some_place bits k None lt none = absurd (omega arith)

-- the 1 of the item at a place, found from a bit behind the one before
pub next-place : (p : Parts) (place bit one : ℕ) → ones_of (take bit p.upper) ≡ place → IsOneAt p.upper one → ones_of (take one p.upper) ≡ ones_of (take bit p.upper) → one ≡ place_of_one p.upper place
next-place p place bit one before is same = sym (place-is p.upper place one is (same ∙ before))

pub drop-items_of : (p : Parts) (i item : ℕ) → i < p.count → item ≡ item_at p i → drop i (items_of p) ≡ item ∷ drop (i + 1) (items_of p)
drop-items_of p i item lt is =
    drop_more (items_of p) i 0 (omega (arith, length-items_of p)) ∙ ap (λ x. x ∷ drop (i + 1) (items_of p)) (get_or-items_of p i lt ∙ sym is)

single_one : ones_of (true ∷ []) ≡ 1
unfolding ones_of
single_one = refl

pub ones-past : (bits : List Bool) (one : ℕ) → IsOneAt bits one → ones_of (take (one + 1) bits) ≡ ones_of (take one bits) + 1
ones-past bits one is =
    let more : take (one + 1) bits ≡ take one bits ++ true ∷ [] = take_more bits one false is.0 ∙ ap (λ b. take one bits ++ b ∷ []) is.1 in
    ap ones_of more ∙ ones_of-append (take one bits) (true ∷ []) ∙ ap (λ n. ones_of (take one bits) + n) single_one

pub take-items_of : (p : Parts) (i item : ℕ) → 0 < i → i ≤ p.count → item ≡ item_at p (i - 1) → reverse (take i (items_of p)) ≡ item ∷ reverse (take (i - 1) (items_of p))
take-items_of p i item pos le is =
    let e : i ≡ (i - 1) + 1 = omega arith in
    let more : take i (items_of p) ≡ take (i - 1) (items_of p) ++ item ∷ [] =
    ap (λ n. take n (items_of p)) e ∙ take_more (items_of p) (i - 1) 0 (omega (arith, length-items_of p)) ∙ ap (λ x. take (i - 1) (items_of p) ++ x ∷ []) (get_or-items_of p (i - 1) (omega arith) ∙ sym is) in
    ap reverse more ∙ reverse-append (take (i - 1) (items_of p)) (item ∷ [])
