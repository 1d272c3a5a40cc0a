-- A file while it is written.
use Rattle.std.proofs.Common.{◌≡◌, ℕ, ◌+◌, ◌*◌, ◌^◌, ◌<◌, ◌≤◌, List, [], ◌∷◌, ◌++◌, length, take, drop, refl, sym, ap, ◌∙◌, append_assoc, arith}
use Rattle.std.specs.Int.{w64, to_be_bytes}
use Rattle.std.proofs.lemmas.List.{append-nil, length-append, take_at, length_push}
use Rattle.word_file.specs.declared.tag.Tag.{Tag}
use Rattle.word_file.specs.Spelling.{TaggedWords, IsTag, header, body, word_bytes, spelling, end_of, offset_at, IsPlace}
use Rattle.word_file.specs.Reading.{words_in, tagged, IsHeld, IsBegun}
use Rattle.word_file.proofs.Bodies.{body-nil, body_push, length-body, words_in_are}
use Rattle.word_file.proofs.Headers.{length-header}
use Rattle.word_file.proofs.Walks.{AreShort_push}

-- no words yet
pub none_in : (tag : Tag) (bytes : List ℕ) → bytes ≡ header tag 0 → words_in bytes ≡ []
none_in tag bytes is =
    let with_body : bytes ≡ header tag 0 ++ body [] = is ∙ sym (append-nil (header tag 0)) ∙ rw body-nil refl in
    ap words_in with_body ∙ words_in_are (header tag 0) [] (length-header tag 0) tt

pub begun_none : (tag : Tag) (bytes : List ℕ) → IsTag tag → bytes ≡ header tag 0 → IsBegun tag 0 bytes
begun_none tag bytes fits is =
    let none = none_in tag bytes is in
    record {
      tag_fits = fits;
      short = rw none tt;
      spelled = is ∙ rw (none, body-nil) (sym (append-nil (header tag 0)));
      counted = rw none refl;
    }

pub begun_end : {tag : Tag} {count : ℕ} {bytes : List ℕ} → IsBegun tag count bytes → length bytes ≡ end_of (words_in bytes)
unfolding end_of
begun_end {tag} {count} {bytes} h = omega (arith, ap length h.spelled, length-append (header tag 0) (body (words_in bytes)), length-header tag 0)

pub begun_few : {tag : Tag} {count : ℕ} {bytes : List ℕ} → IsBegun tag count bytes → 4 * count + 40 ≤ length bytes
unfolding end_of
begun_few {tag} {count} {bytes} h = omega (arith, begun_end h, length-body (words_in bytes), h.counted)

-- one word more
spelled_more : {tag : Tag} {count : ℕ} {bytes : List ℕ} → IsBegun tag count bytes → (new word : List ℕ) → new ≡ bytes ++ word_bytes word → new ≡ header tag 0 ++ body (words_in bytes ++ word ∷ [])
spelled_more {tag} {count} {bytes} h new word is =
    is ∙ ap (λ (x : List ℕ). x ++ word_bytes word) h.spelled ∙ append_assoc (header tag 0) (body (words_in bytes)) (word_bytes word)
    ∙ ap (λ (x : List ℕ). header tag 0 ++ x) (sym (body_push (words_in bytes) word))

pub words_more : {tag : Tag} {count : ℕ} {bytes : List ℕ} → IsBegun tag count bytes → (new word : List ℕ) → length word < 2 ^ 32 → new ≡ bytes ++ word_bytes word → words_in new ≡ words_in bytes ++ word ∷ []
words_more {tag} {count} {bytes} h new word short is =
    let words = words_in bytes in
    ap words_in (spelled_more h new word is) ∙ words_in_are (header tag 0) (words ++ word ∷ []) (length-header tag 0) (AreShort_push words word h.short short)

pub begun_more : {tag : Tag} {count : ℕ} {bytes : List ℕ} → IsBegun tag count bytes → (new word : List ℕ) → length word < 2 ^ 32 → new ≡ bytes ++ word_bytes word → IsBegun tag (count + 1) new
begun_more {tag} {count} {bytes} h new word short is =
    let words = words_in bytes in
    let more = words_more h new word short is in
    record {
      tag_fits = h.tag_fits;
      short = rw more (AreShort_push words word h.short short);
      spelled = rw more (spelled_more h new word is);
      counted = rw more (omega (arith, h.counted, length_push words word));
    }

-- the place of the new word
pub place_more : (words : List (List ℕ)) (word : List ℕ) (at : ℕ) → at ≡ end_of words → IsPlace (words ++ word ∷ []) at (length words)
unfolding offset_at
place_more words word at is = record {
  within = omega (arith, length_push words word);
  offset = is ∙ ap end_of (sym (take_at words (word ∷ []) (length words) refl));
}

-- the same of what is seen
pub seen_more : {tag : Tag} {count : ℕ} {bytes : List ℕ} (v : TaggedWords) → IsBegun tag count bytes → tagged tag (words_in bytes) ≡ v → (new word : List ℕ) → length word < 2 ^ 32 → new ≡ bytes ++ word_bytes word
    → tagged tag (words_in new) ≡ tagged v.tag (v.words ++ word ∷ [])
seen_more {tag} v h seen new word short is = ap (tagged tag) (words_more h new word short is) ∙ ap (λ (w : TaggedWords). tagged w.tag (w.words ++ word ∷ [])) seen

pub seen_end : {tag : Tag} {count : ℕ} {bytes : List ℕ} (v : TaggedWords) → IsBegun tag count bytes → tagged tag (words_in bytes) ≡ v → length bytes ≡ end_of v.words
seen_end v h seen = begun_end h ∙ ap (λ (w : TaggedWords). end_of w.words) seen

pub seen_place : {tag : Tag} {count : ℕ} {bytes : List ℕ} (v : TaggedWords) → IsBegun tag count bytes → tagged tag (words_in bytes) ≡ v → (new word : List ℕ) → length word < 2 ^ 32 → new ≡ bytes ++ word_bytes word
    → (at : ℕ) → at ≡ length bytes → IsPlace (words_in new) at (length v.words)
seen_place v h seen new word short is at at-is =
    let words : words_in new ≡ v.words ++ word ∷ [] = ap (λ (w : TaggedWords). w.words) (seen_more v h seen new word short is) in
    rw words (place_more v.words word at (at-is ∙ seen_end v h seen))

-- the number of words is written over the header's
recount : (tag : Tag) (count : ℕ) (rest : List ℕ) → take 32 (header tag 0 ++ rest) ++ (to_be_bytes w64 count ++ drop 40 (header tag 0 ++ rest)) ≡ header tag count ++ rest
unfolding header
recount tag count rest = refl

abbrev pub counted_over : ℕ → List ℕ → List ℕ
counted_over count bytes = take 32 bytes ++ (to_be_bytes w64 count ++ drop 40 bytes)

spelled_over : {tag : Tag} {count : ℕ} {bytes : List ℕ} → IsBegun tag count bytes → counted_over count bytes ≡ header tag count ++ body (words_in bytes)
spelled_over {tag} {count} {bytes} h = ap (counted_over count) h.spelled ∙ recount tag count (body (words_in bytes))

pub words_over : {tag : Tag} {count : ℕ} {bytes : List ℕ} → IsBegun tag count bytes → words_in (counted_over count bytes) ≡ words_in bytes
words_over {tag} {count} {bytes} h = ap words_in (spelled_over h) ∙ words_in_are (header tag count) (words_in bytes) (length-header tag count) h.short

pub held_from_begun : {tag : Tag} {count : ℕ} {bytes : List ℕ} → IsBegun tag count bytes → count < 2 ^ 64 → IsHeld tag count (counted_over count bytes)
unfolding spelling
held_from_begun {tag} {count} {bytes} h lt =
    let words = words_over h in
    record {
      fits = record { tag = h.tag_fits; count = omega (arith, h.counted, ap length words); words = rw words h.short };
      spelled = spelled_over h ∙ rw (words, ← h.counted) refl;
      counted = rw words h.counted;
    }
