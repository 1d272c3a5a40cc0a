-- Where some of the first pairs start.
use Rattle.std.proofs.Common.{◌≡◌, ℕ, ◌+◌, ◌*◌, ◌<◌, ◌≤◌, List, [], ◌∷◌, ◌++◌, length, get_or, inl, inr, sym, ap, ◌∙◌, arith, subst, Option, Some}
use Rattle.std.specs.Prelude.{slice_index}
use Rattle.std.proofs.Math.Seq.{get_or-append_seam}
use Rattle.std.proofs.lemmas.Bool.Decides.{eqb_tells}
use Rattle.std.proofs.lemmas.List.{length-append, get_or_append_left}
use Rattle.word_file.specs.Spelling.{IsPlace, offset_of}
use Rattle.word_file.specs.Paired.{IsPaired, key_count}
use Rattle.word_file.proofs.Places.{placed}
use Rattle.hashed_words.specs.Hashed.{StartsPair, ArePairs}

-- the next pair starts there, and the ones that are told are pairs
pub record IsBegun (words : List (List ℕ)) (starts : List ℕ) (next : Option ℕ) (place : ℕ) : Type 0 where
  pub at_is : next ≡ offset_of words (2 * place)
  pub within : place ≤ key_count words
  pub pairs : ArePairs words starts

pub begun_here : (words : List (List ℕ)) (starts : List ℕ) (next : Option ℕ) (place at : ℕ) → IsBegun words starts next place → next ≡ Some at → IsPlace words at (2 * place)
begun_here words starts next place at b e = placed (Some at) words (2 * place) (sym e ∙ b.at_is)

-- one pair more is told
pub told_more : (words : List (List ℕ)) (starts new : List ℕ) (next : Option ℕ) (place at : ℕ) → IsPaired words → IsBegun words starts next place → next ≡ Some at → new ≡ starts ++ at ∷ [] → ArePairs words new
told_more words starts new next place at paired b e is = λ i lt.
    let here = begun_here words starts next place at b e in
    let long : length new ≡ length starts + 1 = ap length is ∙ length-append starts (at ∷ []) in
    elim (eqb_tells i (length starts)) [
      | inl same ↦
          let told : slice_index new i ≡ at = ap (λ j. get_or new j 0) same.1 ∙ ap (λ (l : List ℕ). get_or l (length starts) 0) is ∙ get_or-append_seam starts at [] 0 in
          subst (λ o. StartsPair words o) (sym told) (place, record { within = omega (arith, here.within, paired); offset = here.offset })
      | inr apart ↦
          let less : i < length starts = omega (arith, lt, long, apart.1) in
          let told : slice_index new i ≡ slice_index starts i = ap (λ (l : List ℕ). get_or l i 0) is ∙ get_or_append_left starts (at ∷ []) 0 i less in
          subst (λ o. StartsPair words o) (sym told) (b.pairs i less)
    ]

-- the same with the pair behind
pub begun_more : (words : List (List ℕ)) (starts new : List ℕ) (next after : Option ℕ) (place at : ℕ) → IsPaired words → IsBegun words starts next place → next ≡ Some at → ArePairs words new
    → ((i : ℕ) → IsPlace words at i → after ≡ offset_of words (i + 2)) → IsBegun words new after (place + 1)
begun_more words starts new next after place at paired b e pairs after-is =
    let here = begun_here words starts next place at b e in
    let twice : 2 * place + 2 ≡ 2 * (place + 1) = omega arith in
    record {
      at_is = after-is (2 * place) here ∙ ap (offset_of words) twice;
      within = omega (arith, here.within, paired);
      pairs = pairs;
    }
