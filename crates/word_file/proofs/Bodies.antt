-- Words one after another, cut apart and put together, and where each stands.
use Rattle.std.proofs.Common.{◌≡◌, ℕ, zero, suc, ◌+◌, ◌*◌, ◌^◌, ◌<◌, ◌≤◌, true, false, List, [], ◌∷◌, ◌++◌, length, get_or, take, drop, refl, sym, ap, ◌∙◌, append_assoc, arith, inl, inr}
use Rattle.std.specs.Int.{w32, to_be_bytes}
use Rattle.std.proofs.lemmas.Bool.{cases_lt, cond_both, leb-true, le-leb, lt-leb}
use Rattle.std.proofs.lemmas.List.{append-nil, length-append, length-drop, take_at, drop_at, drop-drop, take-append-drop, take-take, take_more, take_all, drop_more, length-take}
use Rattle.std.proofs.lemmas.List.Concat.{flat_map-append}
use Rattle.word_file.specs.Spelling.{word_bytes, body, AreShort, end_of, offset_at, IsPlace}
use Rattle.word_file.specs.Reading.{Cut, cut, whole_words, words_in, with_word, has_word, said_length}
use Rattle.file_numbers.proofs.Numbers.{AreBytes, AreBytes-drop, wide32, number_takes}

-- ---- lengths

pub length-word_bytes : (word : List ℕ) → length (word_bytes word) ≡ 4 + length word
unfolding word_bytes
length-word_bytes word = omega arith

pub body-cons : (word : List ℕ) (words : List (List ℕ)) → body (word ∷ words) ≡ word_bytes word ++ body words
unfolding body
body-cons word words = refl

pub body-nil : body [] ≡ []
unfolding body
body-nil = refl

pub body-append : (xs ys : List (List ℕ)) → body (xs ++ ys) ≡ body xs ++ body ys
unfolding body
body-append xs ys = flat_map-append word_bytes xs ys

pub body_push : (words : List (List ℕ)) (word : List ℕ) → body (words ++ word ∷ []) ≡ body words ++ word_bytes word
body_push words word = body-append words (word ∷ []) ∙ ap (λ (x : List ℕ). body words ++ x) (body-cons word [] ∙ rw body-nil (append-nil (word_bytes word)))

pub length-body : (words : List (List ℕ)) → 4 * length words ≤ length (body words)
length-body [] = omega arith
length-body (word ∷ words) = rw body-cons (omega (arith, length-body words, length-word_bytes word, length-append (word_bytes word) (body words)))

-- ---- cutting

-- a word at the front is whole, and it is read as it is
pub record IsFront (front others bytes : List ℕ) : Type 0 where
  pub whole : has_word bytes ≡ true
  pub said : said_length bytes ≡ length front
  pub word : take (said_length bytes) (drop 4 bytes) ≡ front
  pub rest : drop (4 + said_length bytes) bytes ≡ others

pub front_word : (word rest : List ℕ) → length word < 2 ^ 32 → IsFront word rest (word_bytes word ++ rest)
unfolding word_bytes
front_word word rest short =
    let said : said_length (word_bytes word ++ rest) ≡ length word = wide32.again (length word) (word ++ rest) short in
    record {
      whole = le-leb _ _ (omega (arith, said, length-append (word_bytes word) rest, length-word_bytes word));
      said = said;
      word = rw said (take_at word rest (length word) refl);
      rest = rw said (drop_at (word_bytes word) rest (4 + length word) (length-word_bytes word));
    }

-- nothing is no word
pub no_word-nil : has_word [] ≡ false
no_word-nil = lt-leb (4 + said_length []) 0 (omega arith)

abbrev pub the_cut : List (List ℕ) → List ℕ → Cut
the_cut words rest = record { words = words; rest = rest }

cut_is : (n : ℕ) (words : List (List ℕ)) (rest : List ℕ) → AreShort words → has_word rest ≡ false → length (body words ++ rest) ≤ n → cut n (body words ++ rest) ≡ the_cut words rest
unfolding cut
cut_is zero [] rest short ended le = rw body-nil refl
cut_is (suc n) [] rest short ended le = rw (body-nil, ended) refl
cut_is zero (word ∷ words) rest short ended le = absurd (omega (arith, length-append (body (word ∷ words)) rest, length-body (word ∷ words)))
cut_is (suc n) (word ∷ words) rest short ended le =
    let regrouped : body (word ∷ words) ++ rest ≡ word_bytes word ++ (body words ++ rest) = ap (λ (x : List ℕ). x ++ rest) (body-cons word words) ∙ append_assoc (word_bytes word) (body words) rest in
    let front = front_word word (body words ++ rest) short.0 in
    let fewer : length (body words ++ rest) ≤ n = omega (arith, ap length regrouped, length-append (word_bytes word) (body words ++ rest), length-word_bytes word) in
    ap (cut (suc n)) regrouped ∙ rw (front.whole, front.word, front.rest, cut_is n words rest short.1 ended fewer) refl

-- the whole words are those after which no whole word stands
pub whole_words_are : (bytes : List ℕ) (words : List (List ℕ)) (rest : List ℕ) → bytes ≡ body words ++ rest → AreShort words → has_word rest ≡ false → whole_words bytes ≡ the_cut words rest
unfolding whole_words
whole_words_are bytes words rest parts short ended =
    ap whole_words parts ∙ cut_is (length (body words ++ rest)) words rest short ended (omega arith)

pub words_in_are : (header : List ℕ) (words : List (List ℕ)) → length header ≡ 40 → AreShort words → words_in (header ++ body words) ≡ words
unfolding words_in
words_in_are header words len short =
    let rest : drop 40 (header ++ body words) ≡ body words ++ [] = drop_at header (body words) 40 len ∙ sym (append-nil (body words)) in
    ap (λ (c : Cut). c.words) (whole_words_are (drop 40 (header ++ body words)) words [] rest short no_word-nil)

-- ---- what is cut was there

join : (bytes front tail word after : List ℕ) → bytes ≡ front ++ tail → tail ≡ word ++ after → bytes ≡ (front ++ word) ++ after
join bytes front tail word after a b = a ∙ ap (λ (x : List ℕ). front ++ x) b ∙ sym (append_assoc front word after)

-- a whole word at the front, apart from what follows it
pub record IsFirst (bytes : List ℕ) (said : ℕ) : Type 0 where
  pub parts : bytes ≡ word_bytes (take said (drop 4 bytes)) ++ drop (4 + said) bytes
  pub len : length (take said (drop 4 bytes)) ≡ said
  pub short : length (take said (drop 4 bytes)) < 2 ^ 32
  pub within : 4 + said ≤ length bytes

pub first_word : (bytes : List ℕ) → AreBytes bytes → has_word bytes ≡ true → IsFirst bytes (said_length bytes)
unfolding word_bytes
first_word bytes fits e =
    let said = said_length bytes in
    let word = take said (drop 4 bytes) in
    let after = drop (4 + said) bytes in
    let whole : 4 + said ≤ length bytes = leb-true _ _ e in
    let len : length word ≡ said = omega (arith, length-take said (drop 4 bytes), length-drop 4 bytes) in
    let first : bytes ≡ to_be_bytes w32 (length word) ++ drop 4 bytes = rw len (number_takes w32 (2 ^ 32) wide32 0 bytes fits (omega arith)) in
    let second : drop 4 bytes ≡ word ++ after = rw (← drop-drop said 4 bytes) (sym (take-append-drop said (drop 4 bytes))) in
    record {
      parts = join bytes (to_be_bytes w32 (length word)) (drop 4 bytes) word after first second;
      len = len;
      short = omega (arith, wide32.below bytes fits);
      within = whole;
    }

-- the words are the bytes before the rest
pub record IsCut (bytes : List ℕ) (c : Cut) : Type 0 where
  pub parts : bytes ≡ body c.words ++ c.rest
  pub short : AreShort c.words

cut_parts : (n : ℕ) (bytes : List ℕ) → AreBytes bytes → IsCut bytes (cut n bytes)
unfolding cut
cut_parts zero bytes fits = record { parts = rw body-nil refl; short = tt }
cut_parts (suc n) bytes fits =
    let said = said_length bytes in
    let word = take said (drop 4 bytes) in
    let after = drop (4 + said) bytes in
    let c = cut n after in
    cond_both (has_word bytes) (with_word word c) (the_cut [] bytes) (λ (x : Cut). IsCut bytes x)
    (λ e.
    let f = first_word bytes fits e in
    let ih = cut_parts n after (AreBytes-drop (4 + said) bytes fits) in
    record {
      parts = f.parts ∙ ap (λ (x : List ℕ). word_bytes word ++ x) ih.parts ∙ rw body-cons (sym (append_assoc (word_bytes word) (body c.words) c.rest));
      short = (f.short, ih.short);
    })
    (λ e. record { parts = rw body-nil refl; short = tt })

pub whole_words_parts : (bytes : List ℕ) → AreBytes bytes → IsCut bytes (whole_words bytes)
unfolding whole_words
whole_words_parts bytes fits = cut_parts (length bytes) bytes fits

-- ---- places

pub end_of_push : (words : List (List ℕ)) (word : List ℕ) → end_of (words ++ word ∷ []) ≡ end_of words + (4 + length word)
unfolding end_of
end_of_push words word = rw body_push (omega (arith, length-append (body words) (word_bytes word), length-word_bytes word))

pub offset_at_more : (words : List (List ℕ)) (i : ℕ) → i < length words → offset_at words (i + 1) ≡ offset_at words i + (4 + length (get_or words i []))
unfolding offset_at
offset_at_more words i lt = ap end_of (take_more words i [] lt) ∙ end_of_push (take i words) (get_or words i [])

pub offset_at_all : (words : List (List ℕ)) → offset_at words (length words) ≡ end_of words
unfolding offset_at
offset_at_all words = ap end_of (take_all (length words) words (omega arith))

pub offset_at_none : (words : List (List ℕ)) → offset_at words 0 ≡ 40
unfolding offset_at end_of
offset_at_none words = rw body-nil refl

end_of_prefix : (xs ys : List (List ℕ)) → end_of xs ≤ end_of (xs ++ ys)
unfolding end_of
end_of_prefix xs ys = rw body-append (omega (arith, length-append (body xs) (body ys)))

pub offset_at_mono : (words : List (List ℕ)) (i j : ℕ) → i ≤ j → offset_at words i ≤ offset_at words j
unfolding offset_at
offset_at_mono words i j le =
    let split : take i words ++ drop i (take j words) ≡ take j words = rw (← take-take i j words le) (take-append-drop i (take j words)) in
    rw (← split) (end_of_prefix (take i words) (drop i (take j words)))

pub offset_at_rises : (words : List (List ℕ)) (i j : ℕ) → i < j → j ≤ length words → offset_at words i < offset_at words j
offset_at_rises words i j lt le = omega (arith, offset_at_more words i (omega arith), offset_at_mono words (i + 1) j (omega arith))

-- the offset tells the place
pub place_is : (words : List (List ℕ)) (at i j : ℕ) → IsPlace words at i → IsPlace words at j → i ≡ j
place_is words at i j p q =
    elim (cases_lt i j) [
      | inl lt ↦ absurd (omega (arith, offset_at_rises words i j lt (omega (arith, q.within)), p.offset, q.offset))
      | inr le ↦ elim (cases_lt j i) [
        | inl lt ↦ absurd (omega (arith, offset_at_rises words j i lt (omega (arith, p.within)), p.offset, q.offset))
        | inr ge ↦ omega arith
      ]
    ]

-- what stands at a place
pub body_at : (header : List ℕ) (words : List (List ℕ)) (i : ℕ) → length header ≡ 40 → i < length words
    → drop (offset_at words i) (header ++ body words) ≡ word_bytes (get_or words i []) ++ body (drop (i + 1) words)
unfolding offset_at end_of
body_at header words i len lt =
    let word = get_or words i [] in
    let rest = word_bytes word ++ body (drop (i + 1) words) in
    let tail : body (drop i words) ≡ rest = ap body (drop_more words i [] lt) ∙ body-cons word (drop (i + 1) words) in
    let split : body words ≡ body (take i words) ++ rest = ap body (sym (take-append-drop i words)) ∙ body-append (take i words) (drop i words) ∙ ap (λ (x : List ℕ). body (take i words) ++ x) tail in
    let whole : header ++ body words ≡ (header ++ body (take i words)) ++ rest = ap (λ (x : List ℕ). header ++ x) split ∙ sym (append_assoc header (body (take i words)) rest) in
    ap (drop (40 + length (body (take i words)))) whole ∙ drop_at (header ++ body (take i words)) rest (40 + length (body (take i words))) (omega (arith, length-append header (body (take i words))))
