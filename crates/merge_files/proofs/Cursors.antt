-- A place between the pairs of a file's words.
use Rattle.std.proofs.Common.{◌≡◌, ℕ, ◌+◌, ◌*◌, ◌<◌, ◌≤◌, ◌^◌, Bool, true, false, cond, List, [], ◌∷◌, length, get_or, drop, drop-drop, Option, Some, None, refl, arith, sym, ◌∙◌, ap, subst}
use Rattle.std.specs.Prelude.{nat_lt, IfSome}
use Rattle.std.proofs.lemmas.List.{drop_all}
use Rattle.agg_model.specs.declared.contents.Pair.{Pair}
use Rattle.domain_core.specs.KvFile.{pairs_in, words_of, key_at}
use Rattle.domain_core.proofs.Words.{length-words_of, key-words_of, value-words_of, key_at-get_or}
use Rattle.word_file.specs.Spelling.{IsPlace, offset_at, offset_of}
use Rattle.word_file.specs.Paired as paired
use Rattle.word_file.proofs.Places.{placed}
use Rattle.hashed_words.specs.Hashed.{value_at, IsPairAt}
use Rattle.merge_files.specs.Cursors.{IsCursor, BeginsWith}
use Rattle.merge_files.proofs.Words.{drop_at}

none-by : (t : Bool) (n : ℕ) → None ≡ cond t (Some n) None → t ≡ false
none-by true n is = cc
none-by false n is = refl

drop-more : {A : Type 0} (n m : ℕ) (xs : List A) → m ≡ n + 1 → drop 1 (drop n xs) ≡ drop m xs
drop-more n m xs is = drop-drop 1 n xs ∙ ap (λ k. drop k xs) (sym is)

module _ (words : List (List ℕ)) (at : Option ℕ) (place : ℕ) (is : IsCursor words at place) where
  ps : List Pair
  ps = pairs_in words

  pub counted : length words ≡ 2 * length (pairs_in words)
  counted = ap length is.paired ∙ length-words_of (pairs_in words)

  pub are-paired : paired.IsPaired words
  are-paired = omega (arith, counted)

  pub starts : (a : ℕ) → at ≡ Some a → IsPlace words a (2 * place)
  starts a some = subst (λ o. IfSome o (λ b. IsPlace words b (2 * place))) some (placed at words (2 * place) is.offset)

  pub pair-there : (a : ℕ) → at ≡ Some a → IsPairAt words a place
  pair-there a some =
      let here = starts a some in
      record { within = omega (arith, here.within, counted); offset = here.offset }

  pub ended : at ≡ None → length (pairs_in words) ≤ place
  ended none =
      let over : nat_lt (2 * place) (length words) ≡ false = none-by (nat_lt (2 * place) (length words)) (offset_at words (2 * place)) (sym none ∙ is.offset) in
      grind (arith, counted)

  module _ (here : place < length (pairs_in words)) where
    key-here : (d : Pair) → paired.key_at words place ≡ (get_or (pairs_in words) place d).key
    key-here d =
        ap (λ ws. get_or ws (2 * place) []) is.paired
        ∙ key-words_of (pairs_in words) place (2 * place) refl
        ∙ key_at-get_or (pairs_in words) place d here

    value-here : (d : Pair) → value_at words place ≡ (get_or (pairs_in words) place d).value
    value-here d =
        ap (λ ws. get_or ws (2 * place + 1) []) is.paired ∙ value-words_of (pairs_in words) place (2 * place + 1) d refl here

  pub begins : (a : ℕ) (now : List Pair) (key value : List ℕ) → at ≡ Some a → drop place (pairs_in words) ≡ now
      → key ≡ paired.key_at words place → value ≡ value_at words place → BeginsWith now key value
  begins a now key value some seen keys values =
      let here : place < length (pairs_in words) = omega (arith, (starts a some).within, counted) in
      let p : Pair = record { key = key; value = value } in
      let found : p ≡ get_or (pairs_in words) place p = λ i. record { key = (keys ∙ key-here here p) i; value = (values ∙ value-here here p) i } in
      sym seen ∙ drop_at (pairs_in words) place p here found
      ∙ (λ i. p ∷ (sym (drop-more place (place + 1) (pairs_in words) refl) ∙ ap (drop 1) seen) i)

  pub at-end : (now : List Pair) → at ≡ None → drop place (pairs_in words) ≡ now → now ≡ []
  at-end now none seen = sym seen ∙ drop_all place (pairs_in words) (ended none)

  pub passed : (a : ℕ) (next : Option ℕ) → at ≡ Some a → ((i : ℕ) → IsPlace words a i → next ≡ offset_of words (i + 2)) → IsCursor words next (place + 1)
  passed a next some after =
      let here = starts a some in
      let further : 2 * place + 2 ≡ 2 * (place + 1) = omega arith in
      record {
        paired = is.paired;
        few = is.few;
        within = omega (arith, here.within, counted);
        offset = after (2 * place) here ∙ ap (offset_of words) further;
      }

  pub dropped : (now : List Pair) → drop place (pairs_in words) ≡ now → drop (place + 1) (pairs_in words) ≡ drop 1 now
  dropped now seen = sym (drop-more place (place + 1) (pairs_in words) refl) ∙ ap (drop 1) seen
