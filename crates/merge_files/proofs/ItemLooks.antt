-- The order of a walk's items, and what a look for a key word finds among them.
use Rattle.std.proofs.Common.{◌≡◌, ℕ, zero, suc, ◌+◌, ◌-◌, ◌<◌, ◌≤◌, Bool, true, false, cond, List, [], ◌∷◌, map, length, get_or, Option, Some, None, refl, arith, sym, ◌∙◌, ap, subst}
use Rattle.std.specs.Prelude.{All, nat_eq, is_some}
use Rattle.std.specs.List.{cons_option, filter_map}
use Rattle.std.specs.Option.{option_or}
use Rattle.std.specs.Cmp.Lexicographic.{pointwise, bytes_decides}
use Rattle.std.specs.declared.cmp.Ordering.{Ordering}
use Rattle.std.specs.declared.cmp.Ordering.TheVariants.{Less, Equal, Greater}
use Rattle.std.proofs.lemmas.List.Elements.{All-head, All-tail}
use Rattle.agg_model.specs.declared.entity.FileKind.{FileKind}
use Rattle.agg_model.specs.declared.contents.Pair.{Pair}
use Rattle.agg_model.specs.Pairs.{pair_keys, word_in, newest_word}
use Rattle.merge_files.specs.KeptPairs.{newest_of, newest_pair}
use Rattle.merge_files.specs.Walks.{Item, word_order, IsAhead, AreBehind, WordsRise, IsKeyWord, placed, with_word, with_keys, all_keys, words_with, item_with, items_left}
use Rattle.merge_files.proofs.WordOrder.{ahead-turned, behind-ahead}
use Rattle.merge_files.proofs.LeastWords.{with_word-behind}
use Rattle.merge_files.proofs.Choices.{word-same}

module _ (kind : FileKind) where
  -- ---- the key words rise

  placed-rise : (r : Ordering) (w v : List ℕ) (vs : List (List ℕ)) → word_order kind w v ≡ r → AreBehind kind v vs → WordsRise kind vs → WordsRise kind (with_word kind w vs)
      → WordsRise kind (placed r w v vs (with_word kind w vs))
  placed-rise Less w v vs is behind rise more = ((is, behind-ahead kind w v vs is behind), (behind, rise))
  placed-rise Equal w v vs is behind rise more = (behind, rise)
  placed-rise Greater w v vs is behind rise more = (with_word-behind kind v w vs (ahead-turned kind w v is) behind, more)

  with_word-rise : (w : List ℕ) (vs : List (List ℕ)) → WordsRise kind vs → WordsRise kind (with_word kind w vs)
  with_word-rise w [] rise = (tt, tt)
  with_word-rise w (v ∷ vs) rise = placed-rise (word_order kind w v) w v vs refl rise.0 rise.1 (with_word-rise w vs rise.1)

  with_keys-rise : (ps : List Pair) (vs : List (List ℕ)) → WordsRise kind vs → WordsRise kind (with_keys kind ps vs)
  with_keys-rise [] vs rise = rise
  with_keys-rise (p ∷ ps) vs rise = with_word-rise p.key (with_keys kind ps vs) (with_keys-rise ps vs rise)

  pub all_keys-rise : (inputs : List (List Pair)) → WordsRise kind (all_keys kind inputs)
  all_keys-rise [] = tt
  all_keys-rise (ps ∷ inputs) = with_keys-rise ps (all_keys kind inputs) (all_keys-rise inputs)

  -- ---- they are those of the inputs

  abbrev pub AreGood : List (List ℕ) → Type 0
  AreGood [] = Unit {0}
  AreGood (w ∷ ws) = IsKeyWord kind w × AreGood ws

  abbrev pub InputsGood : List (List Pair) → Type 0
  InputsGood [] = Unit {0}
  InputsGood (ps ∷ inputs) = AreGood (pair_keys ps) × InputsGood inputs

  placed-good : (r : Ordering) (w v : List ℕ) (vs more : List (List ℕ)) → IsKeyWord kind w → IsKeyWord kind v → AreGood vs → AreGood more → AreGood (placed r w v vs more)
  placed-good Less w v vs more one other rest others = (one, (other, rest))
  placed-good Equal w v vs more one other rest others = (other, rest)
  placed-good Greater w v vs more one other rest others = (other, others)

  with_word-good : (w : List ℕ) (vs : List (List ℕ)) → IsKeyWord kind w → AreGood vs → AreGood (with_word kind w vs)
  with_word-good w [] one rest = (one, tt)
  with_word-good w (v ∷ vs) one rest =
      placed-good (word_order kind w v) w v vs (with_word kind w vs) one rest.0 rest.1 (with_word-good w vs one rest.1)

  with_keys-good : (ps : List Pair) (vs : List (List ℕ)) → AreGood (pair_keys ps) → AreGood vs → AreGood (with_keys kind ps vs)
  with_keys-good [] vs good rest = rest
  with_keys-good (p ∷ ps) vs good rest = with_word-good p.key (with_keys kind ps vs) good.0 (with_keys-good ps vs good.1 rest)

  pub all_keys-good : (inputs : List (List Pair)) → InputsGood inputs → AreGood (all_keys kind inputs)
  all_keys-good [] good = tt
  all_keys-good (ps ∷ inputs) good = with_keys-good ps (all_keys kind inputs) good.0 (all_keys-good inputs good.1)

  -- ---- a look among them, by a test that one key word passes at most

  module _ (test : List ℕ → Bool) where
    abbrev pub has : List (List ℕ) → Bool
    has [] = false
    has (w ∷ ws) = cond (test w) true (has ws)

    -- the value of the first pair that passes, and the word that is made of the first item that does
    abbrev pub word_by : List Pair → Option (List ℕ)
    word_by [] = None
    word_by (p ∷ ps) = cond (test p.key) (Some p.value) (word_by ps)

    abbrev pub words_by : List (List Pair) → List (List ℕ)
    words_by inputs = filter_map word_by inputs

    abbrev pub item_by : (List (List ℕ) → List ℕ) → List Item → Option (List ℕ)
    item_by made [] = None
    item_by made (i ∷ items) = cond (test i.key) (Some (made i.words)) (item_by made items)

    swapped : (a b c : Bool) → cond b true (cond a true c) ≡ cond a true (cond b true c)
    swapped true true c = refl
    swapped true false c = refl
    swapped false true c = refl
    swapped false false c = refl

    once : (a c : Bool) → cond a true c ≡ cond a true (cond a true c)
    once true c = refl
    once false c = refl

    placed-has : (r : Ordering) (w v : List ℕ) (vs : List (List ℕ)) → word_order kind w v ≡ r → IsKeyWord kind w → IsKeyWord kind v
        → has (with_word kind w vs) ≡ cond (test w) true (has vs)
        → has (placed r w v vs (with_word kind w vs)) ≡ cond (test w) true (cond (test v) true (has vs))
    placed-has Less w v vs is one other more = refl
    placed-has Equal w v vs is one other more =
        let same = word-same kind w v one other is in
        once (test v) (has vs) ∙ (λ i. cond (test (sym same i)) true (cond (test v) true (has vs)))
    placed-has Greater w v vs is one other more = ap (cond (test v) true) more ∙ swapped (test w) (test v) (has vs)

    with_word-has : (w : List ℕ) (vs : List (List ℕ)) → IsKeyWord kind w → AreGood vs → has (with_word kind w vs) ≡ cond (test w) true (has vs)
    with_word-has w [] one good = refl
    with_word-has w (v ∷ vs) one good = placed-has (word_order kind w v) w v vs refl one good.0 (with_word-has w vs one good.1)

    keys-by : (t : Bool) (p : Pair) (o : Option (List ℕ)) (c : Bool) → cond t true (cond (is_some o) true c) ≡ cond (is_some (cond t (Some p.value) o)) true c
    keys-by true p o c = refl
    keys-by false p o c = refl

    with_keys-has : (ps : List Pair) (vs : List (List ℕ)) → AreGood (pair_keys ps) → AreGood vs → has (with_keys kind ps vs) ≡ cond (is_some (word_by ps)) true (has vs)
    with_keys-has [] vs good rest = refl
    with_keys-has (p ∷ ps) vs good rest =
        with_word-has p.key (with_keys kind ps vs) good.0 (with_keys-good ps vs good.1 rest)
        ∙ ap (cond (test p.key) true) (with_keys-has ps vs good.1 rest) ∙ keys-by (test p.key) p (word_by ps) (has vs)

    abbrev pub are_some : List (List ℕ) → Bool
    are_some [] = false
    are_some (w ∷ ws) = true

    some-by : (o : Option (List ℕ)) (ws : List (List ℕ)) (c : Bool) → c ≡ are_some ws → cond (is_some o) true c ≡ are_some (cons_option o ws)
    some-by None ws c is = is
    some-by (Some w) ws c is = refl

    all_keys-has : (inputs : List (List Pair)) → InputsGood inputs → has (all_keys kind inputs) ≡ are_some (words_by inputs)
    all_keys-has [] good = refl
    all_keys-has (ps ∷ inputs) good =
        with_keys-has ps (all_keys kind inputs) good.0 (all_keys-good inputs good.1)
        ∙ some-by (word_by ps) (words_by inputs) (has (all_keys kind inputs)) (all_keys-has inputs good.1)

    module _ (one : (w v : List ℕ) → IsKeyWord kind w → IsKeyWord kind v → test w ≡ true → test v ≡ true → w ≡ v)
        (made : List (List ℕ) → List ℕ) where
      -- a pair passes where it is of the key word that passes
      test-by : (w : List ℕ) (good : IsKeyWord kind w) (passes : test w ≡ true) (v : List ℕ) → IsKeyWord kind v → (t u : Bool) → test v ≡ t → pointwise nat_eq v w ≡ u → t ≡ u
      test-by w good passes v other true true is at = refl
      test-by w good passes v other true false is at = sym ((bytes_decides v w).1 (one v w other good is passes)) ∙ at
      test-by w good passes v other false true is at = sym is ∙ ap test ((bytes_decides v w).0 at) ∙ passes
      test-by w good passes v other false false is at = refl

      pair-same : (w : List ℕ) (good : IsKeyWord kind w) (passes : test w ≡ true) (ps : List Pair) → AreGood (pair_keys ps) → word_by ps ≡ word_in ps w
      pair-same w good passes [] keys = refl
      pair-same w good passes (p ∷ ps) keys =
          λ i. cond (test-by w good passes p.key keys.0 (test p.key) (pointwise nat_eq p.key w) refl refl i) (Some p.value) (pair-same w good passes ps keys.1 i)

      words-same : (w : List ℕ) (good : IsKeyWord kind w) (passes : test w ≡ true) (inputs : List (List Pair)) → InputsGood inputs → words_by inputs ≡ words_with inputs w
      words-same w good passes [] keys = refl
      words-same w good passes (ps ∷ inputs) keys =
          λ i. cons_option (pair-same w good passes ps keys.0 i) (words-same w good passes inputs keys.1 i)

      module _ (inputs : List (List Pair)) (good : InputsGood inputs) where
        made-by : (t : Bool) (w : List ℕ) (c : Bool) (o : Option (List ℕ)) → IsKeyWord kind w → test w ≡ t → o ≡ cond c (Some (made (words_by inputs))) None
            → cond t (Some (made (words_with inputs w))) o ≡ cond (cond t true c) (Some (made (words_by inputs))) None
        made-by true w c o key is rest = ap (λ ws. Some (made ws)) (sym (words-same w key is inputs good))
        made-by false w c o key is rest = rest

        items-look : (ws : List (List ℕ)) → AreGood ws → item_by made (map (item_with kind inputs) ws) ≡ cond (has ws) (Some (made (words_by inputs))) None
        items-look [] keys = refl
        items-look (w ∷ ws) keys =
            made-by (test w) w (has ws) (item_by made (map (item_with kind inputs) ws)) keys.0 refl (items-look ws keys.1)

        -- what is found among the items is made of what is found in the inputs
        pub items-found : item_by made (items_left kind inputs) ≡ cond (are_some (words_by inputs)) (Some (made (words_by inputs))) None
        items-found =
            items-look (all_keys kind inputs) (all_keys-good inputs good)
            ∙ ap (λ b. cond b (Some (made (words_by inputs))) None) (all_keys-has inputs good)

  pub items-keys : (inputs : List (List Pair)) (ws : List (List ℕ)) → pair_keys (map newest_pair (map (item_with kind inputs) ws)) ≡ ws
  items-keys inputs [] = refl
  items-keys inputs (w ∷ ws) = λ i. w ∷ items-keys inputs ws i

-- ---- the newest word of a key

module _ (kind : FileKind) (k : List ℕ) where
  abbrev is_it : List ℕ → Bool
  is_it w = pointwise nat_eq w k

  one-key : (w v : List ℕ) → IsKeyWord kind w → IsKeyWord kind v → is_it w ≡ true → is_it v ≡ true → w ≡ v
  one-key w v one other is at = (bytes_decides w k).0 is ∙ sym ((bytes_decides v k).0 at)

  abbrev last_word : List (List ℕ) → Option (List ℕ)
  last_word [] = None
  last_word (w ∷ ws) = option_or (last_word ws) (Some w)

  last-by : (o p : Option (List ℕ)) (ws : List (List ℕ)) → p ≡ last_word ws → option_or p o ≡ last_word (cons_option o ws)
  last-by None None ws is = is
  last-by None (Some w) ws is = is
  last-by (Some v) p ws is = ap (λ q. option_or q (Some v)) is

  word-same-by : (ps : List Pair) → word_by kind is_it ps ≡ word_in ps k
  word-same-by [] = refl
  word-same-by (p ∷ ps) = ap (cond (is_it p.key) (Some p.value)) (word-same-by ps)

  newest-last : (inputs : List (List Pair)) → newest_word inputs k ≡ last_word (words_by kind is_it inputs)
  newest-last [] = refl
  newest-last (ps ∷ inputs) =
      last-by (word_in ps k) (newest_word inputs k) (words_by kind is_it inputs) (newest-last inputs)
      ∙ ap (λ o. last_word (cons_option o (words_by kind is_it inputs))) (sym (word-same-by ps))

  or-more : (w : List ℕ) (o : Option (List ℕ)) (x : List ℕ) → o ≡ Some x → option_or o (Some w) ≡ Some x
  or-more w None x is = cc
  or-more w (Some y) x is = is

  last-is : (w : List ℕ) (ws : List (List ℕ)) → last_word (w ∷ ws) ≡ Some (newest_of (w ∷ ws))
  last-is w [] = refl
  last-is w (v ∷ ws) =
      or-more w (last_word (v ∷ ws)) (newest_of (v ∷ ws)) (last-is v ws)
      ∙ ap Some (ap (λ n. get_or (v ∷ ws) n []) (let e : length (v ∷ ws) - 1 ≡ length ws = omega arith in e)
      ∙ sym (ap (λ n. get_or (w ∷ v ∷ ws) n []) (let e : length (w ∷ v ∷ ws) - 1 ≡ suc (length ws) = omega arith in e)))

  found-by : (ws : List (List ℕ)) → cond (are_some kind is_it ws) (Some (newest_of ws)) None ≡ last_word ws
  found-by [] = refl
  found-by (w ∷ ws) = sym (last-is w ws)

  pairs-found : (items : List Item) → word_in (map newest_pair items) k ≡ item_by kind is_it newest_of items
  pairs-found [] = refl
  pairs-found (i ∷ items) = ap (cond (is_it i.key) (Some (newest_of i.words))) (pairs-found items)

  pub newest-look : (inputs : List (List Pair)) → InputsGood kind inputs → word_in (map newest_pair (items_left kind inputs)) k ≡ newest_word inputs k
  newest-look inputs good =
      pairs-found (items_left kind inputs) ∙ items-found kind is_it one-key newest_of inputs good
      ∙ found-by (words_by kind is_it inputs) ∙ sym (newest-last inputs)
