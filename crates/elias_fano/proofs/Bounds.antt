-- How many items have an upper part below a number.
use Rattle.std.proofs.Common.{◌≡◌, ℕ, ◌+◌, ◌-◌, ◌/◌, ◌^◌, ◌<◌, ◌≤◌, Bool, true, false, List, [], ◌∷◌, ◌++◌, length, take, drop, get_or, refl, sym, ap, ◌∙◌, arith, inl, inr}
use Rattle.std.proofs.Math.Pow.{shr_mono}
use Rattle.std.proofs.lemmas.Bool.{cases_lt}
use Rattle.std.proofs.lemmas.List.{length-take, take_all, take_more, take-take, get_or-take}
use Rattle.bit_store.specs.Bits.{ones_of, IsOneAt, IsZeroAt}
use Rattle.bit_store.proofs.Numbers.{ones_of-le, ones_of-append}
use Rattle.bit_store.proofs.Views.{ones_more}
use Rattle.elias_fano.specs.declared.parts.Parts.{Parts}
use Rattle.elias_fano.specs.Reading.{place_of_one, item_at, IsSound, IsListed}
use Rattle.elias_fano.specs.Marks.{high_at, AreBelow}
use Rattle.elias_fano.proofs.Places.{place-one, place-room, ones-past, item-parts, length-items_of, get_or-items_of}

-- more bits have as many ones or more, and no more than they are
pub ones_grow : (bits : List Bool) (a b : ℕ) → a ≤ b → (ones_of (take a bits) ≤ ones_of (take b bits)) × (ones_of (take b bits) ≤ ones_of (take a bits) + (b - a))
ones_grow bits a b le =
    let part = take (b - a) (drop a bits) in
    let whole : a + (b - a) ≡ b = omega arith in
    let more : ones_of (take b bits) ≡ ones_of (take a bits) + ones_of part = ap (λ n. ones_of (take n bits)) (sym whole) ∙ ones_more a (b - a) bits in
    (omega (arith, more), omega (arith, more, ones_of-le part, length-take (b - a) (drop a bits)))

-- a place with more ones before it lies behind
pub behind : (bits : List Bool) (a b : ℕ) → ones_of (take a bits) < ones_of (take b bits) → a < b
behind bits a b lt =
    elim (cases_lt a b) [
      | inl less ↦ less
      | inr le ↦ absurd (omega (arith, (ones_grow bits b a le).0))
    ]

ones_all : (bits : List Bool) (n : ℕ) → ones_of (take n bits) ≤ ones_of bits
ones_all bits n =
    elim (cases_lt n (length bits)) [
      | inl lt ↦ omega (arith, (ones_grow bits n (length bits) (omega arith)).0, ap ones_of (take_all (length bits) bits (omega arith)))
      | inr le ↦ omega (arith, ap ones_of (take_all n bits le))
    ]

not_both : (b : Bool) → b ≡ true → b ≡ false → ⊥
not_both b e f = let bad : true ≡ false = sym e ∙ f in absurd cc

-- a 1 is no 0
apart : (bits : List Bool) (p z : ℕ) → IsOneAt bits p → IsZeroAt bits z → p ≡ z → ⊥
apart bits p z one none e = not_both (get_or bits z false) (ap (λ i. get_or bits i false) (sym e) ∙ one.1) none.1

single_zero : ones_of (false ∷ []) ≡ 0
unfolding ones_of
single_zero = refl

ones-past_zero : (bits : List Bool) (z : ℕ) → IsZeroAt bits z → ones_of (take (z + 1) bits) ≡ ones_of (take z bits)
ones-past_zero bits z none =
    let more : take (z + 1) bits ≡ take z bits ++ false ∷ [] = take_more bits z false none.0 ∙ ap (λ b. take z bits ++ b ∷ []) none.1 in
    omega (arith, ap ones_of more, ones_of-append (take z bits) (false ∷ []), single_zero)

-- a 0 with so many zeros before it parts the items
pub zero_parts : (p : Parts) (high z : ℕ) → ones_of p.upper ≡ p.count → IsZeroAt p.upper z → z ≡ ones_of (take z p.upper) + high → AreBelow p (high + 1) (z - high)
zero_parts p high z ones none is =
    let bits = p.upper in
    let n : ℕ = ones_of (take z bits) in
    record {
      within = omega (arith, is, ones_all bits z);
      below = λ i lt.
          let one = place-one bits i (omega (arith, is, ones_all bits z)) in
          let before : place_of_one bits i < z = behind bits (place_of_one bits i) z (omega (arith, one.1, is)) in
          omega (arith, one.1, is, (ones_grow bits (place_of_one bits i) z (omega arith)).1);
      above = λ i le lt.
          let one = place-one bits i (omega (arith, ones)) in
          let at : ℕ = place_of_one bits i in
          let past : z < at + 1 = behind bits z (at + 1) (omega (arith, ones-past bits at one.0, one.1, is)) in
          let differ : at ≡ z → ⊥ = apart bits at z one.0 none in
          let off : z < at = elim (cases_lt z at) [ inl less ↦ less | inr same ↦ absurd (differ (omega arith)) ] in
          let same : ones_of (take (z + 1) bits) ≡ n = ones-past_zero bits z none in
          omega (arith, one.1, is, same, (ones_grow bits (z + 1) at (omega arith)).1);
    }

-- nothing has an upper part below 0
pub none_below : (p : Parts) → AreBelow p 0 0
none_below p = record { within = omega arith; below = λ i lt. absurd (omega arith); above = λ i le lt. omega arith }

-- where there are fewer zeros, all items are below
pub all_below : (p : Parts) (high : ℕ) → ones_of p.upper ≡ p.count → length p.upper < ones_of p.upper + high → AreBelow p high p.count
all_below p high ones few = record {
  within = omega arith;
  below = λ i lt. let room = place-room p.upper i (omega (arith, ones)) in omega (arith, room.0, room.1);
  above = λ i le lt. absurd (omega arith);
}

-- so many ones stand before the bit where a 1 with this upper part would stand
ones_at : (p : Parts) (high i : ℕ) → ones_of p.upper ≡ p.count → i ≤ p.count → ((k : ℕ) → k < i → high_at p k ≤ high) → ((k : ℕ) → i ≤ k → k < p.count → high ≤ high_at p k) → ones_of (take (high + i) p.upper) ≡ i
ones_at p high i ones within low up =
    let bits = p.upper in
    let n : ℕ = ones_of (take (high + i) bits) in
    let not_less : n < i → ⊥ = λ lt.
    let one = place-one bits n (omega (arith, ones)) in
    let room = place-room bits n (omega (arith, ones)) in
    let high_is : place_of_one bits n - n ≤ high = low n lt in
    let le : place_of_one bits n + 1 ≤ high + i = omega (arith, room.0, high_is) in
    omega (arith, ones-past bits (place_of_one bits n) one.0, one.1, (ones_grow bits (place_of_one bits n + 1) (high + i) le).0) in
    let not_more : i < n → ⊥ = λ lt.
    let few : i < p.count = omega (arith, ones, ones_all bits (high + i)) in
    let one = place-one bits i (omega (arith, ones)) in
    let room = place-room bits i (omega (arith, ones)) in
    let high_is : high ≤ place_of_one bits i - i = up i (omega arith) few in
    let le : high + i ≤ place_of_one bits i = omega (arith, room.0, high_is) in
    omega (arith, one.1, (ones_grow bits (high + i) (place_of_one bits i) le).0) in
    elim (cases_lt n i) [
      | inl lt ↦ absurd (not_less lt)
      | inr le ↦ elim (cases_lt i n) [ inl lt ↦ absurd (not_more lt) | inr ge ↦ omega arith ]
    ]

pub ones_at_start : (p : Parts) (high start : ℕ) → ones_of p.upper ≡ p.count → AreBelow p high start → ones_of (take (high + start) p.upper) ≡ start
ones_at_start p high start ones low = ones_at p high start ones low.within (λ k lt. omega (arith, low.below k lt)) low.above

-- a place among the items of one upper part, or just behind them
pub ones_among : (p : Parts) (high start end i : ℕ) → ones_of p.upper ≡ p.count → AreBelow p high start → AreBelow p (high + 1) end → start ≤ i → i ≤ end → ones_of (take (high + i) p.upper) ≡ i
ones_among p high start end i ones low up from to =
    ones_at p high i ones (omega (arith, up.within)) (λ k lt. omega (arith, up.below k (omega arith))) (λ k le lt. low.above k (omega arith) lt)

-- the places of the ones of items of one upper part
pub places_at : (p : Parts) (high start end i : ℕ) → ones_of p.upper ≡ p.count → AreBelow p high start → AreBelow p (high + 1) end → start ≤ i → i < end → high + i ≡ place_of_one p.upper i
places_at p high start end i ones low up from to =
    let room = place-room p.upper i (omega (arith, ones, up.within)) in
    let least : high ≤ place_of_one p.upper i - i = low.above i from (omega (arith, up.within)) in
    let most : place_of_one p.upper i - i < high + 1 = up.below i to in
    omega (arith, room.0, least, most)

-- the first such place lies inside
pub start_inside : (p : Parts) (high start : ℕ) → ones_of p.upper ≡ p.count → AreBelow p high start → start < p.count → high + start < length p.upper
start_inside p high start ones low more =
    let room = place-room p.upper start (omega (arith, ones)) in
    let one = place-one p.upper start (omega (arith, ones)) in
    let least : high ≤ place_of_one p.upper start - start = low.above start (omega arith) more in
    omega (arith, room.0, one.0.0, least)

pub in_order : (p : Parts) (high start end : ℕ) → AreBelow p high start → AreBelow p (high + 1) end → start ≤ end
in_order p high start end low up =
    elim (cases_lt end start) [
      | inl lt ↦
          let more : high + 1 ≤ place_of_one p.upper end - end = up.above end (omega arith) (omega (arith, low.within)) in
          let less : place_of_one p.upper end - end < high = low.below end lt in
          absurd (omega (arith, more, less))
      | inr le ↦ le
    ]

-- and so does the end of such places
pub end_inside : (p : Parts) (high start end : ℕ) → ones_of p.upper ≡ p.count → AreBelow p high start → AreBelow p (high + 1) end → start < p.count → high + end ≤ length p.upper
end_inside p high start end ones low up more =
    let order = in_order p high start end low up in
    elim (cases_lt start end) [
      | inl lt ↦
          let at : high + (end - 1) ≡ place_of_one p.upper (end - 1) = places_at p high start end (end - 1) ones low up (omega arith) (omega arith) in
          let one = place-one p.upper (end - 1) (omega (arith, ones, up.within)) in
          omega (arith, at, one.0.0)
      | inr le ↦ omega (arith, start_inside p high start ones low more)
    ]

-- an item and its upper part
pub item-below : (p : Parts) (i at : ℕ) → IsSound p → i < p.count → high_at p i < at / 2 ^ p.width → item_at p i < at
item-below p i at sound lt less =
    let part : item_at p i / 2 ^ p.width ≡ place_of_one p.upper i - i = (item-parts p i sound.lower lt).0 in
    let small : place_of_one p.upper i - i < at / 2 ^ p.width = less in
    elim (cases_lt (item_at p i) at) [
      | inl below ↦ below
      | inr le ↦ absurd (omega (arith, part, small, shr_mono p.width le))
    ]

pub item-above : (p : Parts) (i at : ℕ) → IsSound p → i < p.count → at / 2 ^ p.width + 1 ≤ high_at p i → at ≤ item_at p i
item-above p i at sound lt more =
    let part : item_at p i / 2 ^ p.width ≡ place_of_one p.upper i - i = (item-parts p i sound.lower lt).0 in
    let large : at / 2 ^ p.width + 1 ≤ place_of_one p.upper i - i = more in
    elim (cases_lt (item_at p i) at) [
      | inl below ↦ let le : item_at p i ≤ at = omega arith in absurd (omega (arith, part, large, shr_mono p.width le))
      | inr le ↦ le
    ]

-- the items do not descend
pub item-order : (p : Parts) (i j : ℕ) → IsListed p → i ≤ j → j < p.count → item_at p i ≤ item_at p j
item-order p i j listed le lt =
    omega (arith, listed.ascends i j 0 le (omega (arith, length-items_of p)), get_or-items_of p i (omega arith), get_or-items_of p j lt)

-- ---- what is found in the first bits

pub near_one : (bits : List Bool) (most from p : ℕ) → from ≤ p → IsOneAt (take most bits) p → ones_of (take p (take most bits)) ≡ ones_of (take from (take most bits)) → IsOneAt bits p × (ones_of (take p bits) ≡ ones_of (take from bits))
near_one bits most from p le one same =
    let lt : p < most = omega (arith, one.0, length-take most bits) in (
      (omega (arith, one.0, length-take most bits), sym (get_or-take most bits p false lt) ∙ one.1),
      ap ones_of (sym (take-take p most bits (omega arith))) ∙ same ∙ ap ones_of (take-take from most bits (omega arith)),
    )

pub near_zero : (bits : List Bool) (most from p : ℕ) → from ≤ p → IsZeroAt (take most bits) p → p + ones_of (take from (take most bits)) ≡ from + ones_of (take p (take most bits)) + 0 → IsZeroAt bits p × (p + ones_of (take from bits) ≡ from + ones_of (take p bits))
near_zero bits most from p le none same =
    let lt : p < most = omega (arith, none.0, length-take most bits) in (
      (omega (arith, none.0, length-take most bits), sym (get_or-take most bits p false lt) ∙ none.1),
      omega (arith, same, ap ones_of (take-take p most bits (omega arith)), ap ones_of (take-take from most bits (omega arith))),
    )
