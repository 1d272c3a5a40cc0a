-- Inputs that are passed one after the other.
use Rattle.std.proofs.Common.{◌≡◌, ◌≢◌, ℕ, zero, suc, ◌+◌, ◌<◌, ◌≤◌, ◌==◌, Bool, true, false, List, [], ◌∷◌, ◌++◌, length, get_or, take, take_all, refl, arith, sym, ◌∙◌, ap, subst, below_more, get_or-set_other, get_or-set_same}
use Rattle.std.specs.Prelude.{slice_set}
use Rattle.agg_model.specs.declared.contents.Pair.{Pair}
use Rattle.merge_files.specs.Walks.{behind_word, word_before, left_behind, words_given}

module _ (turn : ℕ) where
  -- each input by its place, and all of them
  pub left-from : (ms : List ℕ) (inputs now : List (List Pair)) → length ms ≡ length inputs → length now ≡ length inputs
      → ((j : ℕ) → j < length inputs → get_or now j [] ≡ behind_word (get_or ms j 0 == turn) (get_or inputs j [])) → now ≡ left_behind turn ms inputs
  left-from [] [] [] same long passed = refl
  left-from [] [] (q ∷ now) same long passed = absurd (omega arith)
  left-from [] (p ∷ inputs) now same long passed = absurd (omega arith)
  left-from (m ∷ ms) [] now same long passed = absurd (omega arith)
  left-from (m ∷ ms) (p ∷ inputs) [] same long passed = absurd (omega arith)
  left-from (m ∷ ms) (p ∷ inputs) (q ∷ now) same long passed =
      λ i. passed 0 (omega arith) i ∷ left-from ms inputs now (omega arith) (omega arith) (λ j below. passed (suc j) (omega arith)) i

  before-more : (b : Bool) (ps : List Pair) (xs ys : List (List ℕ)) → word_before b ps (xs ++ ys) ≡ word_before b ps xs ++ ys
  before-more true [] xs ys = refl
  before-more true (p ∷ ps) xs ys = refl
  before-more false ps xs ys = refl

  given-suc : (n : ℕ) (ms : List ℕ) (inputs : List (List Pair)) → n < length ms → n < length inputs
      → words_given turn (take (suc n) ms) (take (suc n) inputs) ≡ words_given turn (take n ms) (take n inputs) ++ word_before (get_or ms n 0 == turn) (get_or inputs n []) []
  given-suc n [] inputs short below = absurd (omega arith)
  given-suc n (m ∷ ms) [] short below = absurd (omega arith)
  given-suc zero (m ∷ ms) (ps ∷ inputs) short below = refl
  given-suc (suc n) (m ∷ ms) (ps ∷ inputs) short below =
      ap (word_before (m == turn) ps) (given-suc n ms inputs (omega arith) (omega arith))
      ∙ before-more (m == turn) ps (words_given turn (take n ms) (take n inputs)) (word_before (get_or ms n 0 == turn) (get_or inputs n []) [])

  pub given-more : (n : ℕ) (ms : List ℕ) (inputs : List (List Pair)) → n < length ms → n < length inputs
      → words_given turn (take (n + 1) ms) (take (n + 1) inputs) ≡ words_given turn (take n ms) (take n inputs) ++ word_before (get_or ms n 0 == turn) (get_or inputs n []) []
  given-more n ms inputs short below =
      let more : n + 1 ≡ suc n = omega arith in
      (λ i. words_given turn (take (more i) ms) (take (more i) inputs)) ∙ given-suc n ms inputs short below

  pub given-all : (n : ℕ) (ms : List ℕ) (inputs : List (List Pair)) → length ms ≡ length inputs → length inputs ≤ n
      → words_given turn (take n ms) (take n inputs) ≡ words_given turn ms inputs
  given-all n ms inputs same over =
      λ i. words_given turn (take_all n ms (omega (arith, same, over)) i) (take_all n inputs over i)

  module _ (ms : List ℕ) (inputs before now : List (List Pair)) (n : ℕ)
      (passed : (j : ℕ) → j < n → get_or before j [] ≡ behind_word (get_or ms j 0 == turn) (get_or inputs j []))
      (rest : (j : ℕ) → n ≤ j → get_or before j [] ≡ get_or inputs j [])
      (kept : (j : ℕ) → j ≢ n → get_or now j [] ≡ get_or before j [])
      (here : get_or now n [] ≡ behind_word (get_or ms n 0 == turn) (get_or inputs n [])) where
    pub passed-more : (j : ℕ) → j < n + 1 → get_or now j [] ≡ behind_word (get_or ms j 0 == turn) (get_or inputs j [])
    passed-more =
        below_more (λ j. get_or now j [] ≡ behind_word (get_or ms j 0 == turn) (get_or inputs j [])) n
        (λ j below. kept j (λ is. omega (arith, is)) ∙ passed j below) here

    pub rest-more : (j : ℕ) → n + 1 ≤ j → get_or now j [] ≡ get_or inputs j []
    rest-more j over = kept j (λ is. omega (arith, is)) ∙ rest j (omega arith)
