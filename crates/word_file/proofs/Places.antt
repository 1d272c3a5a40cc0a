-- What is read at a place.
use Rattle.std.proofs.Common.{◌≡◌, ℕ, zero, suc, ◌+◌, ◌^◌, ◌<◌, ◌≤◌, List, [], ◌∷◌, ◌++◌, length, get_or, take, drop, Some, None, refl, sym, ap, subst, ◌∙◌, arith, inl, inr, Option, ltb}
use Rattle.std.specs.Prelude.{IfSome}
use Rattle.std.proofs.lemmas.Bool.{cond_both, ltb-true, cases_lt, leb-true, lt-ltb, le-ltb}
use Rattle.std.proofs.lemmas.List.{length-append, length-drop}
use Rattle.word_file.specs.declared.tag.Tag.{Tag}
use Rattle.word_file.specs.Spelling.{TaggedWords, header, body, word_bytes, spelling, AreShort, end_of, offset_at, offset_of, IsPlace}
use Rattle.word_file.specs.Reading.{said_length, words_in, tagged, IsHeld}
use Rattle.word_file.proofs.Bodies.{IsFront, front_word, body_at, offset_at_more, offset_at_all, offset_at_none, offset_at_rises}
use Rattle.word_file.proofs.Headers.{length-header}

short_at : (words : List (List ℕ)) (i : ℕ) → i < length words → AreShort words → length (get_or words i []) < 2 ^ 32
short_at [] i lt short = omega arith
short_at (word ∷ words) zero lt short = short.0
short_at (word ∷ words) (suc i) lt short = short_at words i (omega arith) short.1

-- the word at the offset, as its bytes say it
pub record IsRead (bytes word : List ℕ) (at : ℕ) : Type 0 where
  pub within : at + (4 + said_length (drop at bytes)) ≤ length bytes
  pub said : said_length (drop at bytes) ≡ length word
  pub word_is : take (said_length (drop at bytes)) (drop 4 (drop at bytes)) ≡ word

read_at : (tag : Tag) (words : List (List ℕ)) (at i : ℕ) → AreShort words → IsPlace words at i → IsRead (spelling (tagged tag words)) (get_or words i []) at
unfolding spelling
read_at tag words at i short p =
    let head = header tag (length words) in
    let bytes = head ++ body words in
    let word = get_or words i [] in
    let rest = body (drop (i + 1) words) in
    let stands : drop at bytes ≡ word_bytes word ++ rest = ap (λ (k : ℕ). drop k bytes) p.offset ∙ body_at head words i (length-header tag (length words)) p.within in
    let front = subst (λ (x : List ℕ). IsFront word rest x) (sym stands) (front_word word rest (short_at words i p.within short)) in
    record {
      within = omega (arith, leb-true _ _ front.whole, length-drop at bytes);
      said = front.said;
      word_is = front.word;
    }

pub held_read : {tag : Tag} {count : ℕ} {bytes : List ℕ} (v : TaggedWords) → IsHeld tag count bytes → tagged tag (words_in bytes) ≡ v → (at i : ℕ) → IsPlace v.words at i → IsRead bytes (get_or v.words i []) at
held_read {tag} {count} {bytes} v h is =
    subst (λ (w : TaggedWords). (at i : ℕ) → IsPlace w.words at i → IsRead bytes (get_or w.words i []) at) is
    (λ at i p. subst (λ (b : List ℕ). IsRead b (get_or (words_in bytes) i []) at) (sym h.spelled) (read_at tag (words_in bytes) at i h.fits.words p))

pub held_end : {tag : Tag} {count : ℕ} {bytes : List ℕ} (v : TaggedWords) → IsHeld tag count bytes → tagged tag (words_in bytes) ≡ v → length bytes ≡ end_of v.words
unfolding spelling end_of
held_end {tag} {count} {bytes} v h is =
    let words = words_in bytes in
    let len : length bytes ≡ 40 + length (body words) = omega (arith, ap length h.spelled, length-append (header tag (length words)) (body words), length-header tag (length words)) in
    len ∙ ap (λ (w : TaggedWords). 40 + length (body w.words)) is

pub held_count : {tag : Tag} {count : ℕ} {bytes : List ℕ} (v : TaggedWords) → IsHeld tag count bytes → tagged tag (words_in bytes) ≡ v → count ≡ length v.words
held_count v h is = h.counted ∙ ap (λ (w : TaggedWords). length w.words) is

-- where the word after it starts
pub held_next : {tag : Tag} {count : ℕ} {bytes : List ℕ} (v : TaggedWords) → IsHeld tag count bytes → tagged tag (words_in bytes) ≡ v → (at i : ℕ) → IsPlace v.words at i
    → at + (4 + said_length (drop at bytes)) ≡ offset_at v.words (i + 1)
held_next v h is at i p = omega (arith, (held_read v h is at i p).said, p.offset, offset_at_more v.words i p.within)

pub next_some : (words : List (List ℕ)) (i e len : ℕ) → i < length words → e ≡ offset_at words (i + 1) → len ≡ end_of words → e < len → Some e ≡ offset_of words (i + 1)
next_some words i e len within e-is len-is lt =
    let all = offset_at_all words in
    let more : i + 1 < length words =
    elim (cases_lt (i + 1) (length words)) [
      | inl below ↦ below
      | inr past ↦ let last : i + 1 ≡ length words = omega arith in absurd (omega (arith, ap (offset_at words) last))
    ]
    in
    rw (lt-ltb (i + 1) (length words) more, ← e-is) refl

pub next_none : (words : List (List ℕ)) (i e len : ℕ) → e ≡ offset_at words (i + 1) → len ≡ end_of words → len ≤ e → None ≡ offset_of words (i + 1)
next_none words i e len e-is len-is le =
    let all = offset_at_all words in
    let done : length words ≤ i + 1 =
    elim (cases_lt (i + 1) (length words)) [
      | inl below ↦ absurd (omega (arith, offset_at_rises words (i + 1) (length words) below (omega arith)))
      | inr past ↦ past
    ]
    in
    rw (le-ltb (i + 1) (length words) done) refl

pub first_some : (words : List (List ℕ)) → 0 < length words → Some 40 ≡ offset_of words 0
first_some words lt = rw (lt-ltb 0 (length words) lt, offset_at_none words) refl

-- an offset that is given is that of its place
pub place_of_some : (words : List (List ℕ)) (i : ℕ) → IfSome (offset_of words i) (λ at. IsPlace words at i)
place_of_some words i =
    cond_both (ltb i (length words)) (Some (offset_at words i)) None (λ (o : Option ℕ). IfSome o (λ at. IsPlace words at i))
    (λ e. record { within = ltb-true _ _ e; offset = refl })
    (λ e. tt)

pub placed : (o : Option ℕ) (words : List (List ℕ)) (i : ℕ) → o ≡ offset_of words i → IfSome o (λ at. IsPlace words at i)
placed o words i e = subst (λ (p : Option ℕ). IfSome p (λ at. IsPlace words at i)) (sym e) (place_of_some words i)
