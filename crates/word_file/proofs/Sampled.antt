-- The words of the sample.
use Rattle.std.proofs.Common.{◌≡◌, ℕ, zero, suc, ◌+◌, ◌*◌, List, [], ◌∷◌, ◌++◌, length, refl, sym, ap, ◌∙◌, append_assoc, arith}
use Rattle.std.specs.Int.{w16, to_be_bytes}
use Rattle.std.proofs.lemmas.List.{length-append}
use Rattle.word_file.specs.Sample.{odd_words}
use Rattle.word_file.specs.Paired.{IsPaired}

-- one pair more
pub odd_more : (words one two : List (List ℕ)) (key : List ℕ) (n : ℕ) → words ≡ odd_words n → key ≡ to_be_bytes w16 (2 * n + 1) → one ≡ words ++ key ∷ [] → two ≡ one ++ [] ∷ [] → two ≡ odd_words (n + 1)
unfolding odd_words
odd_more words one two key n so_far key-is one-is two-is =
    let more : n + 1 ≡ suc n = omega arith in
    two-is ∙ ap (λ (w : List (List ℕ)). w ++ [] ∷ []) one-is ∙ append_assoc words (key ∷ []) ([] ∷ [])
    ∙ ap (λ (w : List (List ℕ)). w ++ key ∷ [] ∷ []) so_far ∙ ap (λ (k : List ℕ). odd_words n ++ k ∷ [] ∷ []) key-is ∙ sym (ap odd_words more)

length-odd_words : (n : ℕ) → length (odd_words n) ≡ 2 * n
unfolding odd_words
length-odd_words zero = refl
length-odd_words (suc n) = omega (arith, length-append (odd_words n) (to_be_bytes w16 (2 * n + 1) ∷ [] ∷ []), length-odd_words n)

pub odd_paired : (words : List (List ℕ)) (n : ℕ) → words ≡ odd_words n → IsPaired words
odd_paired words n is = let len : length words ≡ 2 * n = ap length is ∙ length-odd_words n in omega (arith, len)

pub odd_none : (words : List (List ℕ)) → words ≡ [] → words ≡ odd_words 0
unfolding odd_words
odd_none words is = is
