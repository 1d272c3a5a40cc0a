-- The words that a walk has passed.
use Rattle.std.proofs.Common.{◌≡◌, ℕ, suc, ◌+◌, ◌*◌, ◌≤◌, Bool, true, false, cond, List, [], ◌∷◌, length, get_or, drop, Option, Some, None, refl, sym, ap, ◌∙◌, arith, ltb, drop-cons, add-one, ltb-false}
use Rattle.std.proofs.lemmas.List.{length-append}
use Rattle.std.specs.Option.{option_map}
use Rattle.word_file.specs.Spelling.{TaggedWords, IsPlace, spelling, body, header, end_of, offset_at, offset_of}
use Rattle.word_file.proofs.Headers.{length-header}
use Rattle.word_file.proofs.Bodies.{offset_at_all}
use Rattle.word_file.proofs.Places.{placed}
use Rattle.word_file.proofs.Gathers.{none_past}
use Rattle.hashed_words.specs.Rules.{Rules, bad_from, bad_place, behind_value}

-- the words before this place stand, and those from it on decide
pub record IsPassed (rules : Rules) (words : List (List ℕ)) (last : Option (List ℕ)) (counted place : ℕ) (next : Option ℕ) : Type 0 where
  pub within : place ≤ length words
  pub next_is : next ≡ offset_of words place
  pub same : bad_from rules last counted place (drop place words) ≡ bad_place rules words

-- ---- one pair

pub bad_from-key : (rules : Rules) (last : Option (List ℕ)) (counted place : ℕ) (key : List ℕ) (ws : List (List ℕ)) → rules.key_stands last key ≡ false → bad_from rules last counted place (key ∷ ws) ≡ Some place
bad_from-key rules last counted place key [] fails = ap (λ t. cond t (Some (place + 1)) (Some place)) fails
bad_from-key rules last counted place key (value ∷ ws) fails =
    ap (λ t. cond t (behind_value (place + 1) (λ sum. bad_from rules (Some key) sum (place + 2) ws) (rules.count_value counted value)) (Some place)) fails

pub bad_from-lone : (rules : Rules) (last : Option (List ℕ)) (counted place : ℕ) (key : List ℕ) → rules.key_stands last key ≡ true → bad_from rules last counted place (key ∷ []) ≡ Some (place + 1)
bad_from-lone rules last counted place key yes_ = ap (λ t. cond t (Some (place + 1)) (Some place)) yes_

pub bad_from-pair : (rules : Rules) (last : Option (List ℕ)) (counted place : ℕ) (key value : List ℕ) (ws : List (List ℕ)) (o : Option ℕ) → rules.key_stands last key ≡ true → rules.count_value counted value ≡ o
    → bad_from rules last counted place (key ∷ value ∷ ws) ≡ behind_value (place + 1) (λ sum. bad_from rules (Some key) sum (place + 2) ws) o
bad_from-pair rules last counted place key value ws o stands is =
    ap (λ t. cond t (behind_value (place + 1) (λ sum. bad_from rules (Some key) sum (place + 2) ws) (rules.count_value counted value)) (Some place)) stands
    ∙ ap (behind_value (place + 1) (λ sum. bad_from rules (Some key) sum (place + 2) ws)) is

pub length-spelling : (f : TaggedWords) → length (spelling f) ≡ end_of f.words
unfolding spelling end_of
length-spelling f = omega (arith, length-append (header f.tag (length f.words)) (body f.words), length-header f.tag (length f.words))

module _ (rules : Rules) (f : TaggedWords) (last : Option (List ℕ)) (counted place : ℕ) (next : Option ℕ) (p : IsPassed rules f.words last counted place next) (at : ℕ) (there : next ≡ Some at) where
  pub here : IsPlace f.words at place
  here = placed (Some at) f.words place (sym there ∙ p.next_is)

  rest_is : drop place f.words ≡ get_or f.words place [] ∷ drop (place + 1) f.words
  rest_is = let within = here.within in drop-cons f.words place [] within ∙ ap (λ n. get_or f.words place [] ∷ drop n f.words) (sym (add-one place))

  from_here : bad_place rules f.words ≡ bad_from rules last counted place (get_or f.words place [] ∷ drop (place + 1) f.words)
  from_here = sym p.same ∙ ap (bad_from rules last counted place) rest_is

  pub key_fails : rules.key_stands last (get_or f.words place []) ≡ false → Some at ≡ option_map (offset_at f.words) (bad_place rules f.words)
  key_fails fails =
      ap (λ n. Some n) here.offset
      ∙ ap (option_map (offset_at f.words)) (sym (from_here ∙ bad_from-key rules last counted place (get_or f.words place []) (drop (place + 1) f.words) fails))

  module _ (stands : rules.key_stands last (get_or f.words place []) ≡ true) (after : Option ℕ) (after_is : after ≡ offset_of f.words (place + 1)) where
    ends : None ≡ after → place + 1 ≡ length f.words
    ends e =
        let past = none_past (ltb (place + 1) (length f.words)) (offset_at f.words (place + 1)) (e ∙ after_is) in
        omega (arith, here.within, ltb-false _ _ past)

    pub value_lacks : after ≡ None → Some (length (spelling f)) ≡ option_map (offset_at f.words) (bad_place rules f.words)
    value_lacks e =
        let last_word : place + 1 ≡ length f.words = ends (sym e) in
        let nothing : drop (place + 1) f.words ≡ [] = ap (λ n. drop n f.words) last_word ∙ drop_all f.words in
        ap (λ n. Some n) (length-spelling f ∙ sym (offset_at_all f.words) ∙ ap (offset_at f.words) (sym last_word))
        ∙ ap (option_map (offset_at f.words)) (sym (from_here ∙ ap (λ ws. bad_from rules last counted place (get_or f.words place [] ∷ ws)) nothing ∙ bad_from-lone rules last counted place (get_or f.words place []) stands))
      where
        drop_all : (xs : List (List ℕ)) → drop (length xs) xs ≡ []
        drop_all [] = refl
        drop_all (x ∷ xs) = drop_all xs

    module _ (behind : ℕ) (is : after ≡ Some behind) where
      pub value_here : IsPlace f.words behind (place + 1)
      value_here = placed (Some behind) f.words (place + 1) (sym is ∙ after_is)

      two_are : drop (place + 1) f.words ≡ get_or f.words (place + 1) [] ∷ drop (place + 2) f.words
      two_are =
          let within = value_here.within in
          let two : suc (place + 1) ≡ place + 2 = omega arith in
          drop-cons f.words (place + 1) [] within ∙ ap (λ n. get_or f.words (place + 1) [] ∷ drop n f.words) two

      pair_is : (o : Option ℕ) → rules.count_value counted (get_or f.words (place + 1) []) ≡ o → bad_place rules f.words ≡ behind_value (place + 1) (λ sum. bad_from rules (Some (get_or f.words place [])) sum (place + 2) (drop (place + 2) f.words)) o
      pair_is o e =
          from_here
          ∙ ap (λ ws. bad_from rules last counted place (get_or f.words place [] ∷ ws)) two_are
          ∙ bad_from-pair rules last counted place (get_or f.words place []) (get_or f.words (place + 1) []) (drop (place + 2) f.words) o stands e

      pub value_fails : rules.count_value counted (get_or f.words (place + 1) []) ≡ None → Some behind ≡ option_map (offset_at f.words) (bad_place rules f.words)
      value_fails e = ap (λ n. Some n) value_here.offset ∙ ap (option_map (offset_at f.words)) (sym (pair_is None e))

      pub goes_on : (sum : ℕ) (beyond : Option ℕ) → rules.count_value counted (get_or f.words (place + 1) []) ≡ Some sum → beyond ≡ offset_of f.words (place + 1 + 1) → IsPassed rules f.words (Some (get_or f.words place [])) sum (place + 2) beyond
      goes_on sum beyond e beyond_is =
          let two : place + 1 + 1 ≡ place + 2 = omega arith in
          record {
            within = omega (arith, value_here.within);
            next_is = beyond_is ∙ ap (offset_of f.words) two;
            same = sym (pair_is (Some sum) e);
          }

pub begins : (rules : Rules) (words : List (List ℕ)) (next : Option ℕ) → next ≡ offset_of words 0 → IsPassed rules words None 0 0 next
begins rules words next is = record { within = omega arith; next_is = is; same = refl }

pub all_stand : (rules : Rules) (words : List (List ℕ)) (last : Option (List ℕ)) (counted place : ℕ) (next : Option ℕ) → IsPassed rules words last counted place next → next ≡ None → None ≡ option_map (offset_at words) (bad_place rules words)
all_stand rules words last counted place next p e =
    let past = none_past (ltb place (length words)) (offset_at words place) (sym e ∙ p.next_is) in
    let end : place ≡ length words = omega (arith, p.within, ltb-false _ _ past) in
    ap (option_map (offset_at words)) (sym (ap (bad_from rules last counted place) (ap (λ n. drop n words) end ∙ drop_all words)) ∙ p.same)
  where
    drop_all : (xs : List (List ℕ)) → drop (length xs) xs ≡ []
    drop_all [] = refl
    drop_all (x ∷ xs) = drop_all xs

-- ---- what is known where all words stand

abbrev HasHalf : ℕ → Type 0
HasHalf len = (n : ℕ) × (len ≡ 2 * n)

pub stand_paired : (rules : Rules) (last : Option (List ℕ)) (counted place : ℕ) (words : List (List ℕ)) → bad_from rules last counted place words ≡ None → HasHalf (length words)
stand_paired rules last counted place [] e = (0, refl)
stand_paired rules last counted place (key ∷ []) e = by_test (rules.key_stands last key) refl
  where
    by_test : (t : Bool) → rules.key_stands last key ≡ t → HasHalf 1
    by_test true t = let never : Some (place + 1) ≡ None = sym (bad_from-lone rules last counted place key t) ∙ e in absurd cc
    by_test false t = let never : Some place ≡ None = sym (bad_from-key rules last counted place key [] t) ∙ e in absurd cc
stand_paired rules last counted place (key ∷ value ∷ words) e =
    by_test (λ sum h. stand_paired rules (Some key) sum (place + 2) words h) (rules.key_stands last key) refl
  where
    by_count : ((sum : ℕ) → bad_from rules (Some key) sum (place + 2) words ≡ None → HasHalf (length words)) → (o : Option ℕ) → rules.key_stands last key ≡ true → rules.count_value counted value ≡ o → HasHalf (suc (suc (length words)))
    by_count more None t c = let never : Some (place + 1) ≡ None = sym (bad_from-pair rules last counted place key value words None t c) ∙ e in absurd cc
    by_count more (Some sum) t c =
        let half = more sum (sym (bad_from-pair rules last counted place key value words (Some sum) t c) ∙ e) in
        let len = half.1 in (half.0 + 1, omega arith)

    by_test : ((sum : ℕ) → bad_from rules (Some key) sum (place + 2) words ≡ None → HasHalf (length words)) → (t : Bool) → rules.key_stands last key ≡ t → HasHalf (suc (suc (length words)))
    by_test more true t = by_count more (rules.count_value counted value) t refl
    by_test more false t = let never : Some place ≡ None = sym (bad_from-key rules last counted place key (value ∷ words) t) ∙ e in absurd cc
