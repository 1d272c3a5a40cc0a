-- The levels of a word file, followed through bytes.
use Rattle.std.proofs.Common.{◌≡◌, ℕ, zero, suc, ◌+◌, ◌-◌, ◌*◌, ◌^◌, ◌<◌, ◌≤◌, ltb, List, [], ◌∷◌, ◌++◌, length, map, get_or, take, drop, Option, Some, None, refl, sym, ap, subst, ◌∙◌, append_assoc, arith, inl, inr}
use Rattle.std.specs.List.{range_with_len, flat_map}
use Rattle.std.specs.Int.{w32, w64, to_be_bytes}
use Rattle.std.proofs.lemmas.Bool.{cases_lt, ltb-false, lt-ltb, le-ltb}
use Rattle.std.proofs.lemmas.List.{append-nil, take-append-drop, take_at, drop_at, drop-drop, take_all, length-drop, length-take-le}
use Rattle.std.proofs.lemmas.List.Concat.{flat_map-append}
use Rattle.std.proofs.lemmas.List.FromFn.{fill_by_all, map-range_with_len_more, take-map-range_with_len, get_or-map-range_with_len}
use Rattle.word_file.specs.Difference.{first_difference}
use Rattle.word_file.specs.Spelling.{offset_at, offset_of, IsPlace}
use Rattle.word_file.proofs.Places.{placed}
use Rattle.word_file.specs.Paired.{IsPaired, key_count, key_offset, key_offsets}
use Rattle.file_numbers.specs.Lists.{number_bytes}
use Rattle.btree_index.specs.Levels.{entries, level, levels, levels_below, header, spelling}
use Rattle.word_file.specs.Agreement.{GoesOn, PartsAt}
use Rattle.word_file.proofs.Agreements.{goes_nowhere, goes_both, goes_far, parts_in_first, parts_in_second}
use Rattle.word_file.proofs.Gathers.{none_past}
use Rattle.file_numbers.proofs.Listed.{number_bytes-push, length-number_bytes}
use Rattle.btree_index.proofs.Spellings.{entry_of, level_zero}
use Rattle.btree_index.proofs.Seeks.{length-key_offsets, length-level, level_reads, entry_in}

-- the first offsets of level j
abbrev pub first_entries : List (List ℕ) → ℕ → ℕ → List ℕ
first_entries words j k = map (λ (i : ℕ). key_offset words (i * 16 ^ j)) (range_with_len 0 k)

-- which are all where there are as many
level_is : (words : List (List ℕ)) (j : ℕ) → level (key_offsets words) j ≡ first_entries words j (entries (key_count words) j)
level_is words j =
    let n = entries (key_count words) j in
    let len : length (level (key_offsets words) j) ≡ n = length-level (key_offsets words) j ∙ ap (λ (m : ℕ). entries m j) (length-key_offsets words) in
    fill_by_all (λ (i : ℕ). key_offset words (i * 16 ^ j)) (level (key_offsets words) j) n 0 len (λ k lt. level_reads words j k lt)

one_more : (words : List (List ℕ)) (j k : ℕ) → number_bytes (first_entries words j (k + 1)) ≡ number_bytes (first_entries words j k) ++ to_be_bytes w64 (key_offset words (k * 16 ^ j))
one_more words j k =
    let f : ℕ → ℕ = λ i. key_offset words (i * 16 ^ j) in
    ap number_bytes (map-range_with_len_more f 0 k k (omega arith)) ∙ number_bytes-push (first_entries words j k) (f k)

-- the level begins with them
level_begins : (words : List (List ℕ)) (j k : ℕ) → k ≤ entries (key_count words) j → (rest : List ℕ) × (number_bytes (level (key_offsets words) j) ≡ number_bytes (first_entries words j k) ++ rest)
unfolding number_bytes
level_begins words j k le =
    let f : ℕ → ℕ = λ i. key_offset words (i * 16 ^ j) in
    let all = first_entries words j (entries (key_count words) j) in
    let front : take k all ≡ first_entries words j k = take-map-range_with_len f 0 (entries (key_count words) j) k le in
    let split : level (key_offsets words) j ≡ first_entries words j k ++ drop k all = level_is words j ∙ sym (take-append-drop k all) ∙ ap (λ (x : List ℕ). x ++ drop k all) front in
    (number_bytes (drop k all), ap number_bytes split ∙ flat_map-append (to_be_bytes w64) (first_entries words j k) (drop k all))

-- so many entries were found at their places, and the next is that of this key
pub record IsFollowed (words : List (List ℕ)) (bytes : List ℕ) (j at : ℕ) (next : Option ℕ) (end : ℕ) : Type 0 where
  pub found : ℕ
  pub next_is : next ≡ offset_of words (2 * (found * 16 ^ j))
  pub few : found ≤ entries (key_count words) j
  pub goes_on : GoesOn bytes (number_bytes (first_entries words j found)) at end

pub begins : (words : List (List ℕ)) (bytes : List ℕ) (j at : ℕ) (next : Option ℕ) → at ≤ length bytes → next ≡ offset_of words 0 → IsFollowed words bytes j at next at
unfolding number_bytes
begins words bytes j at next within is = record {
  found = 0;
  next_is = is ∙ ap (offset_of words) (omega arith);
  few = omega arith;
  goes_on = goes_nowhere bytes at within;
}

pub here : {words : List (List ℕ)} {bytes : List ℕ} {j at : ℕ} {next : Option ℕ} {end key : ℕ} (f : IsFollowed words bytes j at next end) → next ≡ Some key → IsPlace words key (2 * (f.found * 16 ^ j))
here {words} {bytes} {j} {at} {next} {end} {key} f e = placed (Some key) words (2 * (f.found * 16 ^ j)) (sym e ∙ f.next_is)

entry_here : {words : List (List ℕ)} {bytes : List ℕ} {j at : ℕ} {next : Option ℕ} {end key : ℕ} → IsPaired words → (f : IsFollowed words bytes j at next end) → next ≡ Some key → f.found < entries (key_count words) j
entry_here {words} {bytes} {j} paired f e = let place = here f e in entry_in f.found (key_count words) j (omega (arith, place.within, paired))

field_here : {words : List (List ℕ)} {bytes : List ℕ} {j at : ℕ} {next : Option ℕ} {end key : ℕ} (f : IsFollowed words bytes j at next end) → next ≡ Some key
    → number_bytes (first_entries words j (f.found + 1)) ≡ number_bytes (first_entries words j f.found) ++ to_be_bytes w64 key
field_here {words} {bytes} {j} f e = let place = here f e in one_more words j f.found ∙ ap (λ (k : ℕ). number_bytes (first_entries words j f.found) ++ to_be_bytes w64 k) (sym place.offset)

pub goes_on : {words : List (List ℕ)} {bytes : List ℕ} {j at : ℕ} {next : Option ℕ} {end : ℕ} (key after : ℕ) (field : List ℕ) (then_ : Option ℕ) → IsPaired words → next ≡ Some key → field ≡ to_be_bytes w64 key → GoesOn bytes field end after
    → ((i : ℕ) → IsPlace words key i → then_ ≡ offset_of words (i + 2 * 16 ^ j)) → IsFollowed words bytes j at next end → IsFollowed words bytes j at then_ after
goes_on {words} {bytes} {j} {at} {next} {end} key after field then_ paired e field-is go step f =
    let place = here f e in
    let next-place : 2 * (f.found * 16 ^ j) + 2 * 16 ^ j ≡ 2 * ((f.found + 1) * 16 ^ j) = omega arith in
    let one : GoesOn bytes (to_be_bytes w64 key) end after = subst (λ (x : List ℕ). GoesOn bytes x end after) field-is go in
    record {
      found = f.found + 1;
      next_is = step (2 * (f.found * 16 ^ j)) place ∙ ap (offset_of words) next-place;
      few = omega (arith, entry_here paired f e);
      goes_on = subst (λ (x : List ℕ). GoesOn bytes x at after) (sym (field_here f e)) (goes_both f.goes_on one);
    }

pub parts : {words : List (List ℕ)} {bytes : List ℕ} {j at : ℕ} {next : Option ℕ} {end : ℕ} (key place : ℕ) (field : List ℕ) → IsPaired words → next ≡ Some key → field ≡ to_be_bytes w64 key → PartsAt bytes field end place
    → IsFollowed words bytes j at next end → PartsAt bytes (number_bytes (level (key_offsets words) j)) at place
parts {words} {bytes} {j} {at} {next} {end} key place field paired e field-is apart f =
    let one : PartsAt bytes (to_be_bytes w64 key) end place = subst (λ (x : List ℕ). PartsAt bytes x end place) field-is apart in
    let so_far = parts_in_second bytes (number_bytes (first_entries words j f.found)) (to_be_bytes w64 key) at end place f.goes_on one in
    let split = level_begins words j (f.found + 1) (omega (arith, entry_here paired f e)) in
    let regrouped : number_bytes (level (key_offsets words) j) ≡ (number_bytes (first_entries words j f.found) ++ to_be_bytes w64 key) ++ split.0 = split.1 ∙ ap (λ (x : List ℕ). x ++ split.0) (field_here f e) in
    subst (λ (x : List ℕ). PartsAt bytes x at place) (sym regrouped) (parts_in_first bytes (number_bytes (first_entries words j f.found) ++ to_be_bytes w64 key) split.0 at place so_far)

pub ends : {words : List (List ℕ)} {bytes : List ℕ} {j at : ℕ} {next : Option ℕ} {end : ℕ} → IsPaired words → next ≡ None → IsFollowed words bytes j at next end → GoesOn bytes (number_bytes (level (key_offsets words) j)) at end
ends {words} {bytes} {j} {at} {next} {end} paired e f =
    let n = entries (key_count words) j in
    let ended = none_past (ltb (2 * (f.found * 16 ^ j)) (length words)) (offset_at words (2 * (f.found * 16 ^ j))) (sym e ∙ f.next_is) in
    let past : length words ≤ 2 * (f.found * 16 ^ j) = ltb-false _ _ ended in
    let all : f.found ≡ n =
    elim (cases_lt f.found n) [
      | inl lt ↦ absurd (omega (arith, entry_of f.found (key_count words) j lt, past, paired))
      | inr ge ↦ omega (arith, f.few)
    ]
    in
    subst (λ (x : List ℕ). GoesOn bytes (number_bytes x) at end) (sym (level_is words j)) (subst (λ (k : ℕ). GoesOn bytes (number_bytes (first_entries words j k)) at end) all f.goes_on)

-- ---- a level that is read from the lowest

entry_bytes : (p : ℕ) (offsets : List ℕ) → p < length offsets → take 8 (drop (8 * p) (number_bytes offsets)) ≡ to_be_bytes w64 (get_or offsets p 0)
unfolding number_bytes
entry_bytes p [] lt = absurd (omega arith)
entry_bytes zero (x ∷ xs) lt = take_at (to_be_bytes w64 x) (flat_map (to_be_bytes w64) xs) 8 refl
entry_bytes (suc p) (x ∷ xs) lt =
    let eight : 8 * suc p ≡ 8 + 8 * p = omega arith in
    let past : drop (8 * suc p) (number_bytes (x ∷ xs)) ≡ drop (8 * p) (number_bytes xs) = rw (eight, ← drop-drop (8 * p) 8 (number_bytes (x ∷ xs))) refl in
    ap (take 8) past ∙ entry_bytes p xs (omega arith)

-- the entry stands in the bytes
pub entry_stands : (words : List (List ℕ)) (bytes : List ℕ) (lowest j k : ℕ) → drop lowest bytes ≡ number_bytes (key_offsets words) → k < entries (key_count words) j → lowest + 8 * (k * 16 ^ j) + 8 ≤ length bytes
entry_stands words bytes lowest j k is lt =
    omega (arith, entry_of k (key_count words) j lt, ap length is, length-drop lowest bytes, length-number_bytes (key_offsets words), length-key_offsets words)

entry_read : (words : List (List ℕ)) (bytes : List ℕ) (lowest j k : ℕ) → drop lowest bytes ≡ number_bytes (key_offsets words) → k < entries (key_count words) j
    → take 8 (drop (lowest + 8 * (k * 16 ^ j)) bytes) ≡ to_be_bytes w64 (key_offset words (k * 16 ^ j))
entry_read words bytes lowest j k is lt =
    let p = k * 16 ^ j in
    let there : p < key_count words = entry_of k (key_count words) j lt in
    let inside : p < length (key_offsets words) = omega (arith, there, length-key_offsets words) in
    ap (take 8) (sym (drop-drop (8 * p) lowest bytes) ∙ ap (drop (8 * p)) is) ∙ entry_bytes p (key_offsets words) inside
    ∙ ap (to_be_bytes w64) (get_or-map-range_with_len (key_offset words) 0 (key_count words) p p 0 there (omega arith))

pub entry_field : (words : List (List ℕ)) (bytes : List ℕ) (lowest j k s : ℕ) → drop lowest bytes ≡ number_bytes (key_offsets words) → k < entries (key_count words) j → s ≡ 16 ^ j
    → take (lowest + 8 * (k * s) + 8 - (lowest + 8 * (k * s))) (drop (lowest + 8 * (k * s)) bytes) ≡ to_be_bytes w64 (key_offset words (k * 16 ^ j))
entry_field words bytes lowest j k s is lt s-is =
    let eight : lowest + 8 * (k * s) + 8 - (lowest + 8 * (k * s)) ≡ 8 = omega arith in
    rw (eight, s-is) (entry_read words bytes lowest j k is lt)

pub reading_begins : (words : List (List ℕ)) (bytes : List ℕ) (j at : ℕ) → at ≤ length bytes → GoesOn bytes (number_bytes (first_entries words j 0)) at at
unfolding number_bytes
reading_begins words bytes j at within = goes_nowhere bytes at within

pub reading_goes_on : (words : List (List ℕ)) (bytes : List ℕ) (j at k end after : ℕ) (field : List ℕ) → field ≡ to_be_bytes w64 (key_offset words (k * 16 ^ j)) → GoesOn bytes (number_bytes (first_entries words j k)) at end → GoesOn bytes field end after
    → GoesOn bytes (number_bytes (first_entries words j (k + 1))) at after
reading_goes_on words bytes j at k end after field is so_far go =
    let one : GoesOn bytes (to_be_bytes w64 (key_offset words (k * 16 ^ j))) end after = subst (λ (x : List ℕ). GoesOn bytes x end after) is go in
    subst (λ (x : List ℕ). GoesOn bytes x at after) (sym (one_more words j k)) (goes_both so_far one)

pub reading_parts : (words : List (List ℕ)) (bytes : List ℕ) (j at k end place : ℕ) (field : List ℕ) → field ≡ to_be_bytes w64 (key_offset words (k * 16 ^ j)) → k < entries (key_count words) j → GoesOn bytes (number_bytes (first_entries words j k)) at end
    → PartsAt bytes field end place → PartsAt bytes (number_bytes (level (key_offsets words) j)) at place
reading_parts words bytes j at k end place field is lt so_far apart =
    let front = number_bytes (first_entries words j k) in
    let next = to_be_bytes w64 (key_offset words (k * 16 ^ j)) in
    let one : PartsAt bytes next end place = subst (λ (x : List ℕ). PartsAt bytes x end place) is apart in
    let split = level_begins words j (k + 1) (omega arith) in
    let regrouped : number_bytes (level (key_offsets words) j) ≡ (front ++ next) ++ split.0 = split.1 ∙ ap (λ (x : List ℕ). x ++ split.0) (one_more words j k) in
    subst (λ (x : List ℕ). PartsAt bytes x at place) (sym regrouped) (parts_in_first bytes (front ++ next) split.0 at place (parts_in_second bytes front next at end place so_far one))

pub reading_ends : (words : List (List ℕ)) (bytes : List ℕ) (j at k end : ℕ) → k ≡ entries (key_count words) j → GoesOn bytes (number_bytes (first_entries words j k)) at end → GoesOn bytes (number_bytes (level (key_offsets words) j)) at end
reading_ends words bytes j at k end all so_far =
    subst (λ (x : List ℕ). GoesOn bytes (number_bytes x) at end) (sym (level_is words j)) (subst (λ (m : ℕ). GoesOn bytes (number_bytes (first_entries words j m)) at end) all so_far)

-- what the bytes end with
pub lowest_is : (words : List (List ℕ)) (bytes : List ℕ) (from end : ℕ) → from + 8 * key_count words ≡ length bytes → GoesOn bytes (number_bytes (level (key_offsets words) 0)) from end → drop from bytes ≡ number_bytes (key_offsets words)
lowest_is words bytes from end last go =
    let text = number_bytes (key_offsets words) in
    let all : GoesOn bytes text from end = subst (λ (x : List ℕ). GoesOn bytes (number_bytes x) from end) (level_zero (key_offsets words)) go in
    let far = goes_far (omega arith) all in
    let whole : bytes ≡ take from bytes ++ text = sym (take_all end bytes (omega (arith, far, length-number_bytes (key_offsets words), length-key_offsets words))) ∙ all.agrees in
    ap (drop from) whole ∙ drop_at (take from bytes) text from (length-take-le from bytes (omega arith))

-- ---- level under level

header_of : (n : ℕ) (one two three : List ℕ) → one ≡ to_be_bytes w32 0x4147_4231 → two ≡ to_be_bytes w32 (levels n) → three ≡ to_be_bytes w64 n → header n ≡ one ++ (two ++ three)
unfolding header
header_of n one two three a b c = rw (a, b, c) refl

pub header_goes_on : (bytes : List ℕ) (n : ℕ) (one two three : List ℕ) (a b end : ℕ) → one ≡ to_be_bytes w32 0x4147_4231 → two ≡ to_be_bytes w32 (levels n) → three ≡ to_be_bytes w64 n → GoesOn bytes one 0 a → GoesOn bytes two a b → GoesOn bytes three b end
    → GoesOn bytes (header n) 0 end
header_goes_on bytes n one two three a b end e f g x y z = subst (λ (t : List ℕ). GoesOn bytes t 0 end) (sym (header_of n one two three e f g)) (goes_both x (goes_both y z))

pub header_parts_1 : (bytes : List ℕ) (n : ℕ) (one : List ℕ) (place : ℕ) → one ≡ to_be_bytes w32 0x4147_4231 → PartsAt bytes one 0 place → PartsAt bytes (header n) 0 place
header_parts_1 bytes n one place e x =
    let two = to_be_bytes w32 (levels n) in
    let three = to_be_bytes w64 n in
    subst (λ (t : List ℕ). PartsAt bytes t 0 place) (sym (header_of n one two three e refl refl)) (parts_in_first bytes one (two ++ three) 0 place x)

pub header_parts_2 : (bytes : List ℕ) (n : ℕ) (one two : List ℕ) (a place : ℕ) → one ≡ to_be_bytes w32 0x4147_4231 → two ≡ to_be_bytes w32 (levels n) → GoesOn bytes one 0 a → PartsAt bytes two a place → PartsAt bytes (header n) 0 place
header_parts_2 bytes n one two a place e f x y =
    let three = to_be_bytes w64 n in
    subst (λ (t : List ℕ). PartsAt bytes t 0 place) (sym (header_of n one two three e f refl)) (parts_in_second bytes one (two ++ three) 0 a place x (parts_in_first bytes two three a place y))

pub header_parts_3 : (bytes : List ℕ) (n : ℕ) (one two three : List ℕ) (a b place : ℕ) → one ≡ to_be_bytes w32 0x4147_4231 → two ≡ to_be_bytes w32 (levels n) → three ≡ to_be_bytes w64 n → GoesOn bytes one 0 a → GoesOn bytes two a b
    → PartsAt bytes three b place → PartsAt bytes (header n) 0 place
header_parts_3 bytes n one two three a b place e f g x y z =
    subst (λ (t : List ℕ). PartsAt bytes t 0 place) (sym (header_of n one two three e f g)) (parts_in_second bytes one (two ++ three) 0 a place x (parts_in_second bytes two three a b place y z))

-- what of the text is still to be followed
pub record IsLeft (bytes text rest : List ℕ) (end : ℕ) : Type 0 where
  pub within : end ≤ length bytes
  pub parts : text ≡ take end bytes ++ rest

pub after_header : (words : List (List ℕ)) (bytes : List ℕ) (n top end : ℕ) → n ≡ key_count words → top ≡ levels n → GoesOn bytes (header n) 0 end → IsLeft bytes (spelling (key_offsets words)) (levels_below (key_offsets words) top) end
unfolding spelling
after_header words bytes n top end n-is top-is go =
    let len : length (key_offsets words) ≡ n = length-key_offsets words ∙ sym n-is in
    record {
      within = go.within;
      parts = ap (λ (m : ℕ). header m ++ levels_below (key_offsets words) (levels m)) len ∙ ap (λ (k : ℕ). header n ++ levels_below (key_offsets words) k) (sym top-is)
          ∙ ap (λ (x : List ℕ). x ++ levels_below (key_offsets words) top) (sym go.agrees);
    }

pub header_parts : (words : List (List ℕ)) (bytes : List ℕ) (n place : ℕ) → n ≡ key_count words → PartsAt bytes (header n) 0 place → first_difference bytes (spelling (key_offsets words)) ≡ Some place
unfolding spelling
header_parts words bytes n place n-is apart =
    let len : length (key_offsets words) ≡ n = length-key_offsets words ∙ sym n-is in
    ap (λ (m : ℕ). first_difference bytes (header m ++ levels_below (key_offsets words) (levels m))) len ∙ apart (levels_below (key_offsets words) (levels n))

below_is : (offsets : List ℕ) (j i : ℕ) → 0 < j → i ≡ j - 1 → levels_below offsets j ≡ number_bytes (level offsets i) ++ levels_below offsets i
unfolding levels_below
below_is offsets j i some i-is = let j-is : j ≡ suc i = omega arith in ap (levels_below offsets) j-is

pub after_level : {bytes text : List ℕ} {end : ℕ} (offsets : List ℕ) (j i after : ℕ) → 0 < j → i ≡ j - 1 → GoesOn bytes (number_bytes (level offsets i)) end after → IsLeft bytes text (levels_below offsets j) end → IsLeft bytes text (levels_below offsets i) after
after_level {bytes} {text} {end} offsets j i after some i-is go l = record {
  within = go.within;
  parts = l.parts ∙ ap (λ (x : List ℕ). take end bytes ++ x) (below_is offsets j i some i-is) ∙ sym (append_assoc (take end bytes) (number_bytes (level offsets i)) (levels_below offsets i))
      ∙ ap (λ (x : List ℕ). x ++ levels_below offsets i) (sym go.agrees);
}

pub level_parts : {bytes text : List ℕ} {end : ℕ} (offsets : List ℕ) (j i place : ℕ) → 0 < j → i ≡ j - 1 → PartsAt bytes (number_bytes (level offsets i)) end place → IsLeft bytes text (levels_below offsets j) end → first_difference bytes text ≡ Some place
level_parts {bytes} {text} {end} offsets j i place some i-is apart l =
    ap (first_difference bytes) (l.parts ∙ ap (λ (x : List ℕ). take end bytes ++ x) (below_is offsets j i some i-is)) ∙ apart (levels_below offsets i)

pub after_all : {bytes text : List ℕ} {end : ℕ} (offsets : List ℕ) (j : ℕ) → j ≤ 0 → IsLeft bytes text (levels_below offsets j) end → GoesOn bytes text 0 end
unfolding levels_below
after_all {bytes} {text} {end} offsets j none l =
    let zero-is : j ≡ 0 = omega arith in
    record { within = l.within; agrees = sym (l.parts ∙ ap (λ (k : ℕ). take end bytes ++ levels_below offsets k) zero-is ∙ append-nil (take end bytes)) }

-- ---- keys on

-- the key after is two words on
pub one_on : (words : List (List ℕ)) (at next after : ℕ) (k : ℕ) (found : Option ℕ) → ((i : ℕ) → IsPlace words at i → IsPlace words next (i + 2 * k)) → ((i : ℕ) → IsPlace words next i → found ≡ offset_of words (i + 2)) → found ≡ Some after
    → (i : ℕ) → IsPlace words at i → IsPlace words after (i + 2 * (k + 1))
one_on words at next after k found so_far step e i place =
    let same : i + 2 * k + 2 ≡ i + 2 * (k + 1) = omega arith in
    placed (Some after) words (i + 2 * (k + 1)) (sym e ∙ step (i + 2 * k) (so_far i place) ∙ ap (offset_of words) same)

-- past the last key there is none
pub none_on : (words : List (List ℕ)) (at next k keys : ℕ) (found : Option ℕ) → k < keys → ((i : ℕ) → IsPlace words at i → IsPlace words next (i + 2 * k)) → ((i : ℕ) → IsPlace words next i → found ≡ offset_of words (i + 2)) → found ≡ None
    → (i : ℕ) → IsPlace words at i → None ≡ offset_of words (i + 2 * keys)
none_on words at next k keys found lt so_far step e i place =
    let ended = none_past (ltb (i + 2 * k + 2) (length words)) (offset_at words (i + 2 * k + 2)) (sym e ∙ step (i + 2 * k) (so_far i place)) in
    rw (le-ltb (i + 2 * keys) (length words) (omega (arith, ltb-false _ _ ended))) refl

pub some_on : (words : List (List ℕ)) (at next k keys : ℕ) → k ≡ keys → ((i : ℕ) → IsPlace words at i → IsPlace words next (i + 2 * k)) → (i : ℕ) → IsPlace words at i → Some next ≡ offset_of words (i + 2 * keys)
some_on words at next k keys k-is so_far i place =
    let there : IsPlace words next (i + 2 * keys) = subst (λ (m : ℕ). IsPlace words next (i + 2 * m)) k-is (so_far i place) in
    rw (lt-ltb (i + 2 * keys) (length words) there.within, ← there.offset) refl
