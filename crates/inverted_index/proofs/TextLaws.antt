-- The texts of lists: how long they are, and what is read in them.
use Rattle.std.proofs.Common.{◌≡◌, ℕ, zero, suc, ◌+◌, ◌-◌, ◌*◌, ◌/◌, ◌^◌, ◌<◌, ◌≤◌, Bool, true, false, nat_le, nat_lt, cond, List, ◌++◌, length, get_or, refl, sym, ap, ◌∙◌, arith}
use Rattle.std.specs.Prelude.{min, ◌&&◌, nat_eq, All}
use Rattle.std.specs.Int.{w64, to_be_bytes}
use Rattle.std.specs.Cmp.{first_so, second_so}
use Rattle.std.specs.Cmp.Lexicographic.{pointwise, bytes_decides}
use Rattle.std.proofs.Math.Nat.{pow-succ'}
use Rattle.std.proofs.lemmas.Nat.{pow_pos, div_below}
use Rattle.std.proofs.lemmas.Bool.{and_from, and_right, lt-ltb, ltb-true, cases_Bool, cond_both, le-ltb, ltb-false, leb-true, leb-false}
use Rattle.std.proofs.lemmas.List.{length-append}
use Rattle.std.proofs.lemmas.List.Elements.{All-weaker}
use Rattle.bit_store.specs.Bits.{bytes_for, text_of}
use Rattle.bit_store.proofs.Texts.{length-bytes_from}
use Rattle.elias_fano.specs.Spelling.{IsListable, spelling, halvings, low_width, last_of, lower_bits, upper_bits, upper_len}
use Rattle.elias_fano.proofs.Widths.{short_upper}
use Rattle.elias_fano.proofs.Spelled.{length-upper}
use Rattle.elias_fano.proofs.Lower.{fields-lower, length-fields}
use Rattle.elias_fano.proofs.ReadBack.{told}
use Rattle.word_file.specs.declared.tag.Tag.{Tag}
use Rattle.inverted_index.specs.Climbing.{climbs}
use Rattle.inverted_index.specs.EfFile.{IsInside, AreNumbers, IsTextOf, numbers_in}
use Rattle.inverted_index.specs.EfRules.{end_of, are_numbers, is_text}
use Rattle.inverted_index.proofs.Climbs.{IsBetween, climbs-between, climbs-increasing, climbs-from, nondecreasing}

-- ---- how long a text is

halvings-most : (most n : ℕ) → halvings most n ≤ most
unfolding halvings
halvings-most zero n = omega arith
halvings-most (suc most) n =
    cond_both (nat_lt n 2) 0 (1 + halvings most (n / 2)) (λ (k : ℕ). k ≤ suc most) (λ e. omega arith) (λ e. let rest = halvings-most most (n / 2) in omega arith)

halvings-high : (most n : ℕ) → n < 2 ^ most → n < 2 * 2 ^ halvings most n
unfolding halvings
halvings-high zero n lt = omega arith
halvings-high (suc most) n lt =
    cond_both (nat_lt n 2) 0 (1 + halvings most (n / 2)) (λ (k : ℕ). n < 2 * 2 ^ k)
    (λ e. let low = ltb-true n 2 e in omega arith)
    (λ e.
    let p = pow-succ' 2 most in
    let rest = halvings-high most (n / 2) (omega (arith, p)) in
    let q : 2 ^ (1 + halvings most (n / 2)) ≡ 2 * 2 ^ halvings most (n / 2) = more (halvings most (n / 2)) in
    omega (arith, rest, q))
  where
    more : (k : ℕ) → 2 ^ (1 + k) ≡ 2 * 2 ^ k
    more k = let e : 1 + k ≡ suc k = omega arith in ap (λ (j : ℕ). 2 ^ j) e ∙ pow-succ' 2 k

-- the low parts have at most 64 bits, and the upper parts at most twice as many bits as there are items
record IsNarrow (count last l : ℕ) : Type 0 where
  low : l ≤ 64
  high : last / 2 ^ l ≤ 2 * count

narrow : (count last : ℕ) → 0 < count → last < 2 ^ 64 → IsNarrow count last (low_width count last)
narrow count last some small =
    cond_both (nat_le last count) 0 (halvings 64 (last / count)) (IsNarrow count last)
    (λ e. let le = leb-true last count e in record { low = omega arith; high = omega arith })
    (λ e. record {
      low = halvings-most 64 (last / count);
      high = short_upper count last (halvings 64 (last / count)) some (halvings-high 64 (last / count) (div_small some));
    })
  where
    div_small : 0 < count → last / count < 2 ^ 64
    div_small some = div_below last count (2 ^ 64) some (grow count some)
      where
        grow : (count : ℕ) → 0 < count → last < 2 ^ 64 * count
        grow count some = omega arith

length-text_of : (bits : List Bool) → length (text_of bits) ≡ bytes_for (length bits)
length-text_of bits = length-bytes_from (bytes_for (length bits)) bits

length-lower : (l : ℕ) (items : List ℕ) → length (lower_bits l items) ≡ length items * l
length-lower l items = ap length (sym (fields-lower l items)) ∙ length-fields l items

pub length-spelling : (items : List ℕ) → IsListable items → length items < 2 ^ 23 → length (spelling items) < 2 ^ 32
unfolding spelling
length-spelling items can few =
    let l : ℕ = low_width (length items) (last_of items) in
    let n = narrow (length items) (last_of items) can.some can.small in
    let low = lower_bits l items in
    let up = upper_bits l items in
    let rest = text_of low ++ text_of up in
    let wide : length items * l ≤ length items * 64 = times_le (length items) l n.low in
    omega (
      arith,
      length-append (to_be_bytes w64 (length items)) (to_be_bytes w64 (last_of items) ++ rest),
      length-append (to_be_bytes w64 (last_of items)) rest,
      length-append (text_of low) (text_of up),
      length-text_of low,
      length-text_of up,
      length-lower l items,
      length-upper l items,
      n.high,
      wide,
    )
  where
    times_le : (a l : ℕ) → l ≤ 64 → a * l ≤ a * 64
    times_le a l h = grind arith

-- ---- numbers and their text

pub listable : (tag : Tag) (items : List ℕ) → AreNumbers tag items → length items < 2 ^ 64 → IsListable items
listable tag items are few = record {
  some = are.some;
  few = few;
  small = (are.inside (length items - 1) 0 (let some = are.some in omega arith)).small;
  ascends = nondecreasing items are.ascend;
}

pub text_of_numbers : (tag : Tag) (items : List ℕ) → AreNumbers tag items → length items < 2 ^ 23 → IsTextOf (spelling items) items
text_of_numbers tag items are few =
    let can = listable tag items are (omega arith) in
    record { short = length-spelling items can few; listable = can; spelled = refl }

pub numbers_in-spelling : (items : List ℕ) → IsListable items → numbers_in (spelling items) ≡ items
numbers_in-spelling items can = (told items (spelling items) can refl).again

-- ---- the test

pub are_numbers-true : (tag : Tag) (items : List ℕ) → are_numbers tag items ≡ true → AreNumbers tag items
are_numbers-true tag items e =
    let climb = second_so (nat_lt 0 (length items)) (climbs (tag.from * tag.step) (end_of tag) items) e in
    let between = climbs-between (tag.from * tag.step) (end_of tag) items climb in
    record {
      some = ltb-true 0 (length items) (first_so (nat_lt 0 (length items)) (climbs (tag.from * tag.step) (end_of tag) items) e);
      ascend = climbs-increasing (tag.from * tag.step) (end_of tag) items climb;
      inside = λ i z below. let at = between i z below in inside (get_or items i z) at.0 at.1;
    }
  where
    inside : (n : ℕ) → tag.from * tag.step ≤ n → n < min (tag.to * tag.step) (2 ^ 64) → IsInside tag n
    inside n low high = record { small = omega arith; from = low; below = omega arith }

pub are_numbers-from : (tag : Tag) (items : List ℕ) → AreNumbers tag items → are_numbers tag items ≡ true
are_numbers-from tag items are =
    and_from (nat_lt 0 (length items)) (climbs (tag.from * tag.step) (end_of tag) items) (lt-ltb 0 (length items) are.some)
    (climbs-from (tag.from * tag.step) (end_of tag) items (λ i z below. let at = are.inside i z below in (at.from, under (get_or items i z) at)) are.ascend)
  where
    under : (n : ℕ) → IsInside tag n → n < min (tag.to * tag.step) (2 ^ 64)
    under n at = let a = at.small in let b = at.below in omega arith

pub record IsText (tag : Tag) (text : List ℕ) : Type 0 where
  pub spelled : text ≡ spelling (numbers_in text)
  pub numbers : AreNumbers tag (numbers_in text)

pub is_text-true : (tag : Tag) (text : List ℕ) → is_text tag text ≡ true → IsText tag text
unfolding is_text
is_text-true tag text e =
    let same = pointwise nat_eq text (spelling (numbers_in text)) in
    record {
      spelled = (bytes_decides text (spelling (numbers_in text))).0 (first_so same (are_numbers tag (numbers_in text)) e);
      numbers = are_numbers-true tag (numbers_in text) (second_so same (are_numbers tag (numbers_in text)) e);
    }

pub is_text-from : (tag : Tag) (text : List ℕ) → IsText tag text → is_text tag text ≡ true
unfolding is_text
is_text-from tag text t =
    and_from (pointwise nat_eq text (spelling (numbers_in text))) (are_numbers tag (numbers_in text))
    ((bytes_decides text (spelling (numbers_in text))).1 t.spelled)
    (are_numbers-from tag (numbers_in text) t.numbers)

-- the text of numbers passes
pub is_text-spelling : (tag : Tag) (items : List ℕ) → AreNumbers tag items → length items < 2 ^ 64 → is_text tag (spelling items) ≡ true
is_text-spelling tag items are few =
    let again = numbers_in-spelling items (listable tag items are few) in
    is_text-from tag (spelling items)
    (record { spelled = ap spelling (sym again); numbers = rw again are })

-- ---- what is read in a word

pub read_is : (text list : List ℕ) → IsListable list → text ≡ spelling list → list ≡ numbers_in text
read_is text list can e = sym (told list text can e).again

pub text_passes : (tag : Tag) (text list : List ℕ) → IsListable list → text ≡ spelling list → climbs (tag.from * tag.step) (end_of tag) list ≡ true → is_text tag text ≡ true
unfolding is_text
text_passes tag text list can e climb =
    let is = read_is text list can e in
    and_from (pointwise nat_eq text (spelling (numbers_in text))) (are_numbers tag (numbers_in text))
    ((bytes_decides text (spelling (numbers_in text))).1 (e ∙ ap spelling is))
    (ap (are_numbers tag) (sym is) ∙ and_from (nat_lt 0 (length list)) (climbs (tag.from * tag.step) (end_of tag) list) (lt-ltb 0 (length list) can.some) climb)

pub text_fails : (tag : Tag) (text list : List ℕ) → IsListable list → text ≡ spelling list → climbs (tag.from * tag.step) (end_of tag) list ≡ false → is_text tag text ≡ false
unfolding is_text
text_fails tag text list can e climb =
    let is = read_is text list can e in
    let numbers = climbs (tag.from * tag.step) (end_of tag) (numbers_in text) in
    and_right (pointwise nat_eq text (spelling (numbers_in text))) (nat_lt 0 (length (numbers_in text)) && numbers)
    (and_right (nat_lt 0 (length (numbers_in text))) numbers (ap (climbs (tag.from * tag.step) (end_of tag)) (sym is) ∙ climb))

-- a text has a bit for each item
few_in_text : (items text : List ℕ) → text ≡ spelling items → length text < 2 ^ 32 → length items < 2 ^ 64
unfolding spelling
few_in_text items text e short =
    let l : ℕ = low_width (length items) (last_of items) in
    let low = lower_bits l items in
    let up = upper_bits l items in
    omega (
      arith,
      ap length e,
      length-append (to_be_bytes w64 (length items)) (to_be_bytes w64 (last_of items) ++ (text_of low ++ text_of up)),
      length-append (to_be_bytes w64 (last_of items)) (text_of low ++ text_of up),
      length-append (text_of low) (text_of up),
      length-text_of up,
      length-upper l items,
    )

-- a word that is no text of a list isn't one of numbers
pub no_text : (tag : Tag) (text : List ℕ) → length text < 2 ^ 32 → ((items : List ℕ) → IsListable items → text ≡ spelling items → ⊥) → is_text tag text ≡ false
no_text tag text short none = by_test (is_text tag text) refl
  where
    by_test : (t : Bool) → is_text tag text ≡ t → t ≡ false
    by_test false e = refl
    by_test true e =
        let t = is_text-true tag text e in
        absurd (none (numbers_in text) (listable tag (numbers_in text) t.numbers (few_in_text (numbers_in text) text t.spelled short)) t.spelled)
