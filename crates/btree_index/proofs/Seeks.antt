-- Going down the levels.
use Rattle.std.proofs.Common.{◌≡◌, ℕ, zero, suc, ◌+◌, ◌*◌, ◌^◌, ◌<◌, ◌≤◌, leb, List, [], ◌∷◌, length, map, get_or, drop, sym, ap, subst, ◌∙◌, arith, inl, inr, ◌⊎◌}
use Rattle.std.specs.List.{range_with_len}
use Rattle.std.specs.Prelude.{slice_index}
use Rattle.std.specs.Int.{w64, from_be_bytes}
use Rattle.std.proofs.lemmas.Bool.{cases_lt, cases_Bool, leb-true}
use Rattle.std.proofs.lemmas.List.{length-append, drop_at, drop-drop}
use Rattle.std.proofs.lemmas.List.FromFn.{length-map-range_with_len, get_or-map-range_with_len}
use Rattle.std.proofs.Math.Nat.{mul-le-mul_right}
use Rattle.file_numbers.specs.Lists.{number_bytes, AreNumbers}
use Rattle.btree_index.specs.Levels.{entries, level, levels, top_from, levels_below, header, spelling}
use Rattle.word_file.specs.Paired.{key_count, key_offset, key_offsets}
use Rattle.btree_index.specs.Keys.{IsLevel}
use Rattle.file_numbers.proofs.Listed.{length-number_bytes, number_at}
use Rattle.btree_index.proofs.Spellings.{entry_of, entry_past, stride_some, levels_suc}

pub length-key_offsets : (words : List (List ℕ)) → length (key_offsets words) ≡ key_count words
length-key_offsets words = length-map-range_with_len (key_offset words) 0 (key_count words)

pub entry_in : (k n j : ℕ) → k * 16 ^ j < n → k < entries n j
entry_in k n j lt =
    elim (cases_lt k (entries n j)) [
      | inl below ↦ below
      | inr past ↦ absurd (omega (arith, entry_past k n j past))
    ]

pub entries_few : (n j : ℕ) → entries n j ≤ n
entries_few n j =
    elim (cases_lt n (entries n j)) [
      | inl lt ↦ let one : 1 * n ≤ 16 ^ j * n = mul-le-mul_right n (stride_some j) in absurd (omega (arith, entry_of n n j lt, one))
      | inr le ↦ le
    ]

-- ---- a level as bytes

fits_at : (offsets : List ℕ) (i : ℕ) → AreNumbers offsets → get_or offsets i 0 < 2 ^ 64
fits_at [] i fits = omega arith
fits_at (x ∷ xs) zero fits = fits.0
fits_at (x ∷ xs) (suc i) fits = fits_at xs i fits.1

pub all_fit : (f : ℕ → ℕ) (a n : ℕ) → ((k : ℕ) → f k < 2 ^ 64) → AreNumbers (map f (range_with_len a n))
all_fit f a zero fits = tt
all_fit f a (suc n) fits = (fits a, all_fit f (a + 1) n fits)

level_fits : (offsets : List ℕ) (j : ℕ) → AreNumbers offsets → AreNumbers (level offsets j)
unfolding level
level_fits offsets j fits = all_fit (λ k. slice_index offsets (k * 16 ^ j)) 0 (entries (length offsets) j) (λ k. fits_at offsets (k * 16 ^ j) fits)

pub length-level : (offsets : List ℕ) (j : ℕ) → length (level offsets j) ≡ entries (length offsets) j
unfolding level
length-level offsets j = length-map-range_with_len (λ k. slice_index offsets (k * 16 ^ j)) 0 (entries (length offsets) j)

pub level_reads : (words : List (List ℕ)) (j k : ℕ) → k < entries (key_count words) j → get_or (level (key_offsets words) j) k 0 ≡ key_offset words (k * 16 ^ j)
unfolding level
level_reads words j k lt =
    let len = length-key_offsets words in
    let more : k < entries (length (key_offsets words)) j = rw len lt in
    get_or-map-range_with_len (λ i. slice_index (key_offsets words) (i * 16 ^ j)) 0 (entries (length (key_offsets words)) j) k k 0 more (omega arith)
    ∙ get_or-map-range_with_len (key_offset words) 0 (key_count words) (k * 16 ^ j) (k * 16 ^ j) 0 (entry_of k (key_count words) j lt) (omega arith)

pub is_level : (words : List (List ℕ)) (part : List ℕ) (j : ℕ) → AreNumbers (key_offsets words) → part ≡ levels_below (key_offsets words) (suc j) → IsLevel words j part
unfolding levels_below
is_level words part j fits is =
    let offsets = key_offsets words in
    let here = level offsets j in
    let rest = levels_below offsets j in
    let len : length here ≡ entries (key_count words) j = length-level offsets j ∙ ap (λ (n : ℕ). entries n j) (length-key_offsets words) in
    record {
      long = omega (arith, ap length is, length-append (number_bytes here) rest, length-number_bytes here, len);
      reads = λ k lt.
          ap (λ (b : List ℕ). from_be_bytes w64 (drop (8 * k) b)) is
          ∙ (number_at k here rest (level_fits offsets j fits) (omega (arith, len)) ∙ level_reads words j k lt);
    }

pub next_part : (words : List (List ℕ)) (bytes : List ℕ) (start j : ℕ) → drop start bytes ≡ levels_below (key_offsets words) (suc j) → drop (start + 8 * entries (key_count words) j) bytes ≡ levels_below (key_offsets words) j
unfolding levels_below
next_part words bytes start j is =
    let offsets = key_offsets words in
    let here = level offsets j in
    let len : length (number_bytes here) ≡ 8 * entries (key_count words) j = length-number_bytes here ∙ ap (λ (n : ℕ). 8 * n) (length-level offsets j ∙ ap (λ (n : ℕ). entries n j) (length-key_offsets words)) in
    sym (drop-drop (8 * entries (key_count words) j) start bytes) ∙ ap (drop (8 * entries (key_count words) j)) is ∙ drop_at (number_bytes here) (levels_below offsets j) (8 * entries (key_count words) j) len

pub first_part : (words : List (List ℕ)) (bytes : List ℕ) → bytes ≡ spelling (key_offsets words) → drop 16 bytes ≡ levels_below (key_offsets words) (levels (key_count words))
unfolding spelling header
first_part words bytes is =
    let offsets = key_offsets words in
    ap (drop 16) is ∙ ap (λ (n : ℕ). levels_below offsets (levels n)) (length-key_offsets words)

-- ---- the highest level

top_from_few : (more j n : ℕ) → (entries n (top_from more j n) ≤ 16) ⊎ (top_from more j n ≡ j + more)
unfolding top_from
top_from_few zero j n = inr (omega arith)
top_from_few (suc more) j n =
    elim (cases_Bool (leb (entries n j) 16)) [
      | inl few ↦ inl (rw few (leb-true (entries n j) 16 few))
      | inr many ↦
          rw many
          (elim (top_from_few more (j + 1) n) [
            | inl few ↦ inl few
            | inr last ↦ inr (omega (arith, last))
          ])
    ]

pub top_few : (n j : ℕ) → n < 2 ^ 64 → levels n ≡ suc j → n ≤ 16 * 16 ^ j
top_few zero j small is = omega arith
top_few (suc m) j small is =
    let n = suc m in
    let top : top_from 15 0 n ≡ j = omega (arith, levels_suc m) in
    elim (top_from_few 15 0 n) [
      | inl few ↦ subst (λ (i : ℕ). n ≤ 16 * 16 ^ i) top (entry_past 16 n (top_from 15 0 n) few)
      | inr last ↦ let at : 15 ≡ j = omega arith in subst (λ (i : ℕ). n ≤ 16 * 16 ^ i) at (omega arith)
    ]
