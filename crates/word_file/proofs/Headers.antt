-- The header and the whole file: what is read is spelled so, and what is spelled so is read.
use Rattle.std.proofs.Common.{◌≡◌, ℕ, ◌+◌, ◌^◌, ◌<◌, ◌≤◌, Bool, true, false, cond, eqb, ltb, List, [], ◌∷◌, ◌++◌, length, get_or, drop, Result, Ok, Err, refl, sym, ap, ◌∙◌, append_assoc, arith}
use Rattle.std.specs.Int.{w16, w32, w64, from_be_bytes, to_be_bytes}
use Rattle.std.proofs.lemmas.Bool.{eqb-true, eq-eqb, ltb-false, le-ltb}
use Rattle.std.proofs.lemmas.List.{append-nil, length-append, drop_at, drop_more, nil_from_length}
use Rattle.word_file.specs.declared.tag.Tag.{Tag}
use Rattle.word_file.specs.declared.error.WordError.{WordError}
use Rattle.word_file.specs.declared.error.WordError.TheVariants.{Short, Magic, Count}
use Rattle.word_file.specs.Spelling.{TaggedWords, Fits, IsTag, header, body, spelling, end_of}
use Rattle.word_file.specs.Reading.{Cut, tag_in, count_in, whole_words, words_in, counted, agreed, checked_count, tagged, file_in, checked, IsHeld}
use Rattle.file_numbers.proofs.Numbers.{AreBytes, AreBytes-drop, wide16, wide32, wide64, number_takes}
use Rattle.word_file.proofs.Bodies.{whole_words_are, whole_words_parts, words_in_are, no_word-nil}

-- ---- the header

pub length-header : (t : Tag) (count : ℕ) → length (header t count) ≡ 40
unfolding header
length-header t count = refl

pub magic-header : (t : Tag) (count : ℕ) (rest : List ℕ) → from_be_bytes w32 (header t count ++ rest) ≡ 0x4147_5731
unfolding header
magic-header t count rest = refl

pub count_in-header : (t : Tag) (count : ℕ) (rest : List ℕ) → count < 2 ^ 64 → count_in (header t count ++ rest) ≡ count
unfolding header
count_in-header t count rest lt = wide64.again count rest lt

abbrev with_numbers : Tag → ℕ → ℕ → ℕ → ℕ → Tag
with_numbers t version step from to = record { entity = t.entity; kind = t.kind; version = version; step = step; from = from; to = to }

same_tag : (t : Tag) (version step from to : ℕ) → version ≡ t.version → step ≡ t.step → from ≡ t.from → to ≡ t.to → with_numbers t version step from to ≡ t
same_tag t version step from to a b c d = rw (a, b, c, d) refl

pub tag_in-header : (t : Tag) (count : ℕ) (rest : List ℕ) → IsTag t → tag_in (header t count ++ rest) ≡ t
unfolding header tag_in
tag_in-header t count rest fits =
    let to = to_be_bytes w64 count ++ rest in
    same_tag t _ _ _ _
    (wide16.again t.version (to_be_bytes w64 t.step ++ (to_be_bytes w64 t.from ++ (to_be_bytes w64 t.to ++ to))) fits.version)
    (wide64.again t.step (to_be_bytes w64 t.from ++ (to_be_bytes w64 t.to ++ to)) fits.step)
    (wide64.again t.from (to_be_bytes w64 t.to ++ to) fits.from)
    (wide64.again t.to to fits.to)

two_cells : (k : ℕ) (bytes : List ℕ) → k + 2 ≤ length bytes → drop k bytes ≡ get_or bytes k 0 ∷ get_or bytes (k + 1) 0 ∷ [] ++ drop (k + 2) bytes
two_cells k bytes le =
    let next : k + 1 + 1 ≡ k + 2 = omega arith in
    rw (drop_more bytes k 0 (omega arith), drop_more bytes (k + 1) 0 (omega arith), next) refl

-- parts that stand one after another
joined : (b0 b1 b2 b3 b4 b5 b6 b7 p0 p1 p2 p3 p4 p5 p6 : List ℕ) → b0 ≡ p0 ++ b1 → b1 ≡ p1 ++ b2 → b2 ≡ p2 ++ b3 → b3 ≡ p3 ++ b4 → b4 ≡ p4 ++ b5 → b5 ≡ p5 ++ b6 → b6 ≡ p6 ++ b7
    → b0 ≡ p0 ++ p1 ++ p2 ++ p3 ++ p4 ++ p5 ++ p6 ++ b7
joined b0 b1 b2 b3 b4 b5 b6 b7 p0 p1 p2 p3 p4 p5 p6 e0 e1 e2 e3 e4 e5 e6 = e0 ∙ rw (e1, e2, e3, e4, e5, e6) (simp append_assoc)

pub header_takes : (bytes : List ℕ) → AreBytes bytes → 40 ≤ length bytes → from_be_bytes w32 bytes ≡ 0x4147_5731 → bytes ≡ header (tag_in bytes) (count_in bytes) ++ drop 40 bytes
unfolding header tag_in
header_takes bytes fits le magic =
    let first : bytes ≡ to_be_bytes w32 0x4147_5731 ++ drop 4 bytes = number_takes w32 (2 ^ 32) wide32 0 bytes fits (omega arith) ∙ ap (λ (n : ℕ). to_be_bytes w32 n ++ drop 4 bytes) magic in
    joined bytes (drop 4 bytes) (drop 6 bytes) (drop 8 bytes) (drop 16 bytes) (drop 24 bytes) (drop 32 bytes) (drop 40 bytes) (to_be_bytes w32 0x4147_5731)
    (get_or bytes 4 0 ∷ get_or bytes 5 0 ∷ []) (to_be_bytes w16 (from_be_bytes w16 (drop 6 bytes))) (to_be_bytes w64 (from_be_bytes w64 (drop 8 bytes)))
    (to_be_bytes w64 (from_be_bytes w64 (drop 16 bytes))) (to_be_bytes w64 (from_be_bytes w64 (drop 24 bytes))) (to_be_bytes w64 (count_in bytes)) first
    (two_cells 4 bytes (omega arith))
    (number_takes w16 (2 ^ 16) wide16 6 bytes fits (omega arith))
    (number_takes w64 (2 ^ 64) wide64 8 bytes fits (omega arith))
    (number_takes w64 (2 ^ 64) wide64 16 bytes fits (omega arith))
    (number_takes w64 (2 ^ 64) wide64 24 bytes fits (omega arith))
    (number_takes w64 (2 ^ 64) wide64 32 bytes fits (omega arith))

IsTag-tag_in : (bytes : List ℕ) → AreBytes bytes → IsTag (tag_in bytes)
unfolding tag_in
IsTag-tag_in bytes fits = record {
  entity = fits 4;
  kind = fits 5;
  version = wide16.below (drop 6 bytes) (AreBytes-drop 6 bytes fits);
  step = wide64.below (drop 8 bytes) (AreBytes-drop 8 bytes fits);
  from = wide64.below (drop 16 bytes) (AreBytes-drop 16 bytes fits);
  to = wide64.below (drop 24 bytes) (AreBytes-drop 24 bytes fits);
}

-- ---- the whole file

-- a test that was passed
passed : {A : Type 0} (b : Bool) (e : WordError) (r : Result A WordError) (x : A) → cond b (Err e) r ≡ Ok x → (b ≡ false) × (r ≡ Ok x)
passed true e r x h = absurd cc
passed false e r x h = (refl, h)

met : {A : Type 0} (b : Bool) (e : WordError) (r : Result A WordError) (x : A) → cond b r (Err e) ≡ Ok x → (b ≡ true) × (r ≡ Ok x)
met true e r x h = (refl, h)
met false e r x h = absurd cc

abbrev given : ℕ → Result ℕ WordError
given n = Ok n

given_is : (m n : ℕ) → given m ≡ given n → m ≡ n
given_is m n e = cc

agreed_ok : (said : ℕ) (r : Result ℕ WordError) (n : ℕ) → agreed said r ≡ Ok n → (r ≡ Ok n) × (said ≡ n)
agreed_ok said (Err e) n h = absurd cc
agreed_ok said (Ok found) n h =
    let m = met (eqb said found) (Count said found) (Ok found) n h in
    (m.1, eqb-true _ _ m.0 ∙ given_is found n m.1)

counted_ok : (c : Cut) (n : ℕ) → counted c ≡ Ok n → (c.rest ≡ []) × (length c.words ≡ n)
counted_ok c n h =
    let p = passed (ltb 0 (length c.rest)) (Short (end_of c.words)) (Ok (length c.words)) n h in
    (nil_from_length c.rest (omega (arith, ltb-false _ _ p.0)), given_is (length c.words) n p.1)

-- bytes that are not refused are held
pub held_from_count : (bytes : List ℕ) (n : ℕ) → AreBytes bytes → checked_count bytes ≡ Ok n → IsHeld (tag_in bytes) n bytes
unfolding checked_count words_in spelling
held_from_count bytes n fits h =
    let c = whole_words (drop 40 bytes) in
    let long = passed (ltb (length bytes) 40) (Short (length bytes)) _ n h in
    let magic = met (eqb (from_be_bytes w32 bytes) 0x4147_5731) Magic _ n long.1 in
    let count = agreed_ok (count_in bytes) (counted c) n magic.1 in
    let ended = counted_ok c n count.0 in
    let parts = whole_words_parts (drop 40 bytes) (AreBytes-drop 40 bytes fits) in
    let begun = header_takes bytes fits (ltb-false _ _ long.0) (eqb-true _ _ magic.0) in
    let words : drop 40 bytes ≡ body c.words = parts.parts ∙ ap (λ (r : List ℕ). body c.words ++ r) ended.0 ∙ append-nil (body c.words) in
    let said : count_in bytes ≡ length c.words = count.1 ∙ sym ended.1 in
    record {
      fits = record { tag = IsTag-tag_in bytes fits; count = omega (arith, said, wide64.below (drop 32 bytes) (AreBytes-drop 32 bytes fits)); words = parts.short };
      spelled = begun ∙ ap (λ (k : ℕ). header (tag_in bytes) k ++ drop 40 bytes) said ∙ ap (λ (x : List ℕ). header (tag_in bytes) (length c.words) ++ x) words;
      counted = sym ended.1;
    }

-- what is spelled so is read so
pub count_again : (f : TaggedWords) → Fits f → checked_count (spelling f) ≡ Ok (length f.words)
unfolding checked_count spelling
count_again f fits =
    let head = header f.tag (length f.words) in
    let bytes = head ++ body f.words in
    let long : ltb (length bytes) 40 ≡ false = le-ltb _ _ (omega (arith, length-append head (body f.words), length-header f.tag (length f.words))) in
    let magic : eqb (from_be_bytes w32 bytes) 0x4147_5731 ≡ true = eq-eqb _ _ (magic-header f.tag (length f.words) (body f.words)) in
    let parts : drop 40 bytes ≡ body f.words ++ [] = drop_at head (body f.words) 40 (length-header f.tag (length f.words)) ∙ sym (append-nil (body f.words)) in
    let cut = whole_words_are (drop 40 bytes) f.words [] parts fits.words no_word-nil in
    let said = count_in-header f.tag (length f.words) (body f.words) fits.count in
    let same : eqb (length f.words) (length f.words) ≡ true = eq-eqb _ _ refl in
    rw (long, magic, cut, said, same) refl

pub words_again : (f : TaggedWords) → Fits f → words_in (spelling f) ≡ f.words
unfolding spelling
words_again f fits = words_in_are (header f.tag (length f.words)) f.words (length-header f.tag (length f.words)) fits.words

pub tag_again : (f : TaggedWords) → Fits f → tag_in (spelling f) ≡ f.tag
unfolding spelling
tag_again f fits = tag_in-header f.tag (length f.words) (body f.words) fits.tag

pub again : (f : TaggedWords) → Fits f → checked (spelling f) ≡ Ok f
unfolding checked
again f fits = rw (count_again f fits, tag_again f fits, words_again f fits) refl

abbrev read : TaggedWords → Result TaggedWords WordError
read f = Ok f

read_is : (f g : TaggedWords) → read f ≡ read g → f ≡ g
read_is f g e = cc

pub one_spelling : (f g : TaggedWords) → Fits f → Fits g → spelling f ≡ spelling g → f ≡ g
one_spelling f g p q e = read_is f g (sym (again f p) ∙ ap checked e ∙ again g q)

-- ---- as a reader answers

pub refused : (bytes : List ℕ) (e : WordError) → Err e ≡ checked_count bytes → Err e ≡ checked bytes
unfolding checked
refused bytes e h = ap (file_in bytes) h

pub accepted : (bytes : List ℕ) (n : ℕ) → Ok n ≡ checked_count bytes → Ok (tagged (tag_in bytes) (words_in bytes)) ≡ checked bytes
unfolding checked
accepted bytes n h = ap (file_in bytes) h

pub spelling_long : (f : TaggedWords) → 40 ≤ length (spelling f)
unfolding spelling
spelling_long f = omega (arith, length-append (header f.tag (length f.words)) (body f.words), length-header f.tag (length f.words))

pub read_again : (bytes : List ℕ) (r : Result TaggedWords WordError) → r ≡ checked bytes → (f : TaggedWords) → Fits f → bytes ≡ spelling f → r ≡ Ok f
read_again bytes r h f fits e = h ∙ ap checked e ∙ again f fits

pub held_long : {tag : Tag} {count : ℕ} {bytes : List ℕ} → IsHeld tag count bytes → 40 ≤ length bytes
held_long {tag} {count} {bytes} h = omega (arith, ap length h.spelled, spelling_long (tagged tag (words_in bytes)))
