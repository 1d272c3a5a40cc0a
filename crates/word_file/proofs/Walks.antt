-- Going over the words of a file.
use Rattle.std.proofs.Common.{◌≡◌, ℕ, ◌+◌, ◌^◌, ◌<◌, ◌≤◌, Bool, true, false, cond, Some, None, List, [], ◌∷◌, ◌++◌, length, take, drop, Ok, Err, refl, sym, ap, ◌∙◌, append_assoc, arith}
use Rattle.std.proofs.lemmas.Bool.{lt-ltb}
use Rattle.std.proofs.lemmas.List.{length-drop, drop-drop, drop_all, length_push}
use Rattle.word_file.specs.declared.error.WordError.TheVariants.{Short}
use Rattle.word_file.specs.Spelling.{body, AreShort, end_of}
use Rattle.word_file.specs.Reading.{whole_words, counted, has_word, said_length}
use Rattle.file_numbers.proofs.Numbers.{AreBytes, AreBytes-drop}
use Rattle.word_file.proofs.Bodies.{body_push, body-nil, end_of_push, whole_words_are, no_word-nil, first_word}

-- the words from the header to here
pub record IsWalked (bytes : List ℕ) (at found : ℕ) : Type 0 where
  pub words : List (List ℕ)
  pub parts : drop 40 bytes ≡ body words ++ drop at bytes
  pub short : AreShort words
  pub at_is : at ≡ end_of words
  pub found_is : found ≡ length words
  pub within : at ≤ length bytes
  pub fewer : found ≤ at

pub begins : (bytes : List ℕ) → 40 ≤ length bytes → IsWalked bytes 40 0
unfolding end_of
begins bytes le = record {
  words = [];
  parts = rw body-nil refl;
  short = tt;
  at_is = rw body-nil refl;
  found_is = refl;
  within = le;
  fewer = omega arith;
}

pub AreShort_push : (words : List (List ℕ)) (word : List ℕ) → AreShort words → length word < 2 ^ 32 → AreShort (words ++ word ∷ [])
AreShort_push [] word short lt = (lt, tt)
AreShort_push (first ∷ words) word short lt = (short.0, AreShort_push words word short.1 lt)

pub goes_on : (bytes : List ℕ) (at found : ℕ) → AreBytes bytes → has_word (drop at bytes) ≡ true → IsWalked bytes at found → IsWalked bytes (at + (4 + said_length (drop at bytes))) (found + 1)
goes_on bytes at found fits whole w =
    let here = drop at bytes in
    let said = said_length here in
    let word = take said (drop 4 here) in
    let fits_here = AreBytes-drop at bytes fits in
    let f = first_word here fits_here whole in
    let after : drop (4 + said) here ≡ drop (at + (4 + said)) bytes = drop-drop (4 + said) at bytes in
    record {
      words = w.words ++ word ∷ [];
      parts = w.parts ∙ ap (λ (x : List ℕ). body w.words ++ x) f.parts ∙ sym (append_assoc (body w.words) _ (drop (4 + said) here)) ∙ rw (after, body_push) refl;
      short = AreShort_push w.words word w.short f.short;
      at_is = rw end_of_push (omega (arith, w.at_is, f.len));
      found_is = omega (arith, w.found_is, length_push w.words word);
      within = omega (arith, f.within, length-drop at bytes, w.within);
      fewer = omega (arith, w.fewer);
    }

pub stops : (bytes : List ℕ) (at found : ℕ) → at < length bytes → has_word (drop at bytes) ≡ false → IsWalked bytes at found → counted (whole_words (drop 40 bytes)) ≡ Err (Short at)
stops bytes at found lt ended w =
    let left : 0 < length (drop at bytes) = omega (arith, length-drop at bytes) in
    rw (whole_words_are (drop 40 bytes) w.words (drop at bytes) w.parts w.short ended, lt-ltb 0 (length (drop at bytes)) left, ← w.at_is) refl

pub ends : (bytes : List ℕ) (at found : ℕ) → length bytes ≤ at → IsWalked bytes at found → counted (whole_words (drop 40 bytes)) ≡ Ok found
ends bytes at found le w =
    let parts : drop 40 bytes ≡ body w.words ++ [] = w.parts ∙ rw drop_all refl in
    rw (whole_words_are (drop 40 bytes) w.words [] parts w.short no_word-nil, ← w.found_is) refl

-- which way a test went
pub none_cond : {A : Type 0} (b : Bool) (x : A) → None ≡ cond b (Some x) None → b ≡ false
none_cond true x e = absurd cc
none_cond false x e = refl
