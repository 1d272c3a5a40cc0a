-- From what is wrong to what is read.
use Rattle.std.proofs.Common.{◌≡◌, ℕ, ◌^◌, ◌<◌, ◌==◌, Bool, true, false, cond, if◌then◌else◌, eqb, List, length, take, drop, Option, Some, None, refl, sym, arith, eq-eqb}
use Rattle.std.specs.Option.{option_or, option_map}
use Rattle.std.specs.Int.{w64, from_be_bytes}
use Rattle.std.proofs.lemmas.Bool.{le-ltb, ne_eqb, eqb-true}
use Rattle.std.proofs.lemmas.List.{length-take, length-drop}
use Rattle.bit_store.specs.Bits.{bits_of, ones_of}
use Rattle.bit_store.proofs.Texts.{IsBytes, length-bits_of, IsBytes-take, IsBytes-drop}
use Rattle.elias_fano.specs.declared.parts.Parts.{Parts}
use Rattle.elias_fano.specs.declared.error.EfError.{EfError}
use Rattle.elias_fano.specs.declared.error.EfError.TheVariants.{Unused, Count, Descends, Last}
use Rattle.elias_fano.specs.Spelling.{last_of}
use Rattle.elias_fano.specs.Reading.{items_of, first_descent, item_fault, fault_in, unused_one, count_in, last_in, width_in, lower_len_in, upper_len_in, upper_start_in, asked_in, parts_in, IsListed}
use Rattle.elias_fano.proofs.Places.{item-small}
use Rattle.elias_fano.proofs.Faults.{ascends-none, ascending}

pub fault-count : (last found : ℕ) (p : Parts) → (ones_of p.upper ≡ p.count → ⊥) → found ≡ ones_of p.upper → Some (Count p.count found) ≡ item_fault last p
fault-count last found p ne is = sym (rw (ne_eqb (ones_of p.upper) p.count ne, ← is) refl)

pub fault-ended : (last before : ℕ) (fall : Option ℕ) (p : Parts) → ones_of p.upper ≡ p.count → fall ≡ first_descent 0 0 (items_of p) → before ≡ last_of (items_of p)
    → option_or (option_map (λ i. Descends i) fall) (if before == last then None else Some (Last last before)) ≡ item_fault last p
fault-ended last before fall p ones e is = sym (rw (eq-eqb (ones_of p.upper) p.count ones, ← e, ← is) refl)

pub fault-none : (last before : ℕ) (p : Parts) → ones_of p.upper ≡ p.count → first_descent 0 0 (items_of p) ≡ None → before ≡ last_of (items_of p) → before ≡ last → None ≡ item_fault last p
fault-none last before p ones e is eq =
    sym (rw (eq-eqb (ones_of p.upper) p.count ones, e, ← is, eq-eqb before last eq) refl)

split_none : (b c : Bool) (d : Option ℕ) (x y : EfError) → cond b (option_or (option_map (λ i. Descends i) d) (cond c None (Some x))) (Some y) ≡ None → (b ≡ true) × (d ≡ None) × (c ≡ true)
split_none true true None x y e = (refl, refl, refl)
split_none true true (Some d) x y e = absurd cc
split_none true false None x y e = absurd cc
split_none true false (Some d) x y e = absurd cc
split_none false c d x y e = absurd cc

-- nothing is wrong with the items
pub none-fault : (last : ℕ) (p : Parts) → item_fault last p ≡ None → (ones_of p.upper ≡ p.count) × (first_descent 0 0 (items_of p) ≡ None) × (last_of (items_of p) ≡ last)
none-fault last p e =
    let s = split_none (eqb (ones_of p.upper) p.count) (eqb (last_of (items_of p)) last) (first_descent 0 0 (items_of p)) (Last last (last_of (items_of p))) (Count p.count (ones_of p.upper)) e in
    (eqb-true _ _ s.0, s.1, eqb-true _ _ s.2)

-- what is wrong behind a header that asks as many bytes as there are
pub fault-late : (bytes : List ℕ) → 0 < count_in bytes → length bytes ≡ asked_in bytes → fault_in bytes ≡ option_or (option_map (λ bit. Unused bit) (unused_one bytes)) (item_fault (last_in bytes) (parts_in bytes))
unfolding fault_in
fault-late bytes some size =
    rw (le-ltb (length bytes) 16 (omega arith), ne_eqb (count_in bytes) 0 (λ e. omega arith), le-ltb (length bytes) (asked_in bytes) (omega arith), le-ltb (asked_in bytes) (length bytes) (omega arith)) refl

pub lower-len : (bytes : List ℕ) → length bytes ≡ asked_in bytes → length (take (lower_len_in bytes) (bits_of (drop 16 bytes))) ≡ lower_len_in bytes
lower-len bytes size = omega (arith, length-take (lower_len_in bytes) (bits_of (drop 16 bytes)), length-bits_of (drop 16 bytes), length-drop 16 bytes, size)

pub upper-len : (bytes : List ℕ) → length bytes ≡ asked_in bytes → length (take (upper_len_in bytes) (bits_of (drop (upper_start_in bytes) bytes))) ≡ upper_len_in bytes
upper-len bytes size = omega (arith, length-take (upper_len_in bytes) (bits_of (drop (upper_start_in bytes) bytes)), length-bits_of (drop (upper_start_in bytes) bytes), length-drop (upper_start_in bytes) bytes, size)

pub word_below : (bytes : List ℕ) → IsBytes bytes → from_be_bytes w64 bytes < 2 ^ 64
word_below bytes fits = omega (arith, fits 0, fits 1, fits 2, fits 3, fits 4, fits 5, fits 6, fits 7)

-- the parts of bytes with nothing wrong
pub listed : (bytes : List ℕ) → IsBytes bytes → length bytes < 2 ^ 60 → length bytes ≡ asked_in bytes → width_in bytes < 64 → item_fault (last_in bytes) (parts_in bytes) ≡ None → IsListed (parts_in bytes)
listed bytes fits short size narrow fine =
    let p = parts_in bytes in
    let none = none-fault (last_in bytes) p fine in
    let low = lower-len bytes size in
    let up = upper-len bytes size in
    let last : last_in bytes < 2 ^ 64 = word_below (take 8 (drop 8 bytes)) (IsBytes-take 8 (drop 8 bytes) (IsBytes-drop 8 bytes fits)) in
    record {
      sound = record {
        lower = low;
        fits = omega (arith, size);
        narrow = narrow;
        room = omega (arith, up, size);
        ones = none.0;
        small = λ i lt. item-small p (last_in bytes) i low up none.0 narrow last lt;
      };
      ascends = ascending 0 (items_of p) (ascends-none 0 0 (items_of p) none.1);
    }
