-- What holds of the words that a walk gives, and of the inputs behind them.
use Rattle.std.proofs.Common.{◌≡◌, ℕ, zero, suc, ◌+◌, ◌<◌, ◌≤◌, ◌==◌, Bool, true, false, cond, List, [], ◌∷◌, ◌++◌, map, length, get_or, drop, take, Option, Some, None, refl, arith, sym, ◌∙◌, ap, subst}
use Rattle.std.specs.Prelude.{All}
use Rattle.std.specs.Borrow.{Bor}
use Rattle.std.proofs.Math.Seq.{take-append_seam}
use Rattle.std.proofs.lemmas.List.{length-map, get_or-map, take-map}
use Rattle.std.proofs.lemmas.List.Elements.{All-nil, All-cons, All-head, All-tail}
use Rattle.agg_model.specs.declared.entity.FileKind.{FileKind}
use Rattle.agg_model.specs.declared.entity.FileKind.TheVariants.{Ef}
use Rattle.agg_model.specs.declared.contents.Pair.{Pair}
use Rattle.agg_model.specs.Pairs.{pair_keys}
use Rattle.merge_files.specs.Walks.{Item, IsText, IsValueWord, IsWordPair, IsInput, Stands, IsLeastWord, HasWords, IsGiven, items_left, behind_word, word_before, left_behind, words_given}
use Rattle.merge_files.proofs.LeastWords.{AllStand, some_marked, all-stand, marked-there, items-left}

module _ (kind : FileKind) where
  -- ---- each input stays in order

  passed-input : (b : Bool) (ps : List Pair) → IsInput kind ps → IsInput kind (behind_word b ps)
  passed-input true [] input = input
  passed-input true (p ∷ ps) input = record { rise = input.rise.1; fit = All-tail (IsWordPair kind) p ps input.fit }
  passed-input false ps input = input

  pub passed-inputs : (turn : ℕ) (ms : List ℕ) (inputs : List (List Pair)) → All (IsInput kind) inputs → All (IsInput kind) (left_behind turn ms inputs)
  passed-inputs turn [] inputs all = all
  passed-inputs turn (m ∷ ms) [] all = all
  passed-inputs turn (m ∷ ms) (ps ∷ inputs) all =
      All-cons (IsInput kind) (behind_word (m == turn) ps) (left_behind turn ms inputs)
      (passed-input (m == turn) ps (All-head (IsInput kind) ps inputs all)) (passed-inputs turn ms inputs (All-tail (IsInput kind) ps inputs all))

  pub length-left : (turn : ℕ) (ms : List ℕ) (inputs : List (List Pair)) → length ms ≡ length inputs → length (left_behind turn ms inputs) ≡ length inputs
  length-left turn [] inputs same = refl
  length-left turn (m ∷ ms) [] same = refl
  length-left turn (m ∷ ms) (ps ∷ inputs) same = ap suc (length-left turn ms inputs (omega arith))

  -- ---- the words

  first-fits : (b : Bool) (ps : List Pair) (words : List (List ℕ)) → IsInput kind ps → All (IsValueWord kind) words → All (IsValueWord kind) (word_before b ps words)
  first-fits true [] words input rest = rest
  first-fits true (p ∷ ps) words input rest =
      All-cons (IsValueWord kind) p.value words (All-head (IsWordPair kind) p ps input.fit).value rest
  first-fits false ps words input rest = rest

  pub words-fit : (turn : ℕ) (ms : List ℕ) (inputs : List (List Pair)) → All (IsInput kind) inputs → All (IsValueWord kind) (words_given turn ms inputs)
  words-fit turn [] inputs all = All-nil (IsValueWord kind)
  words-fit turn (m ∷ ms) [] all = All-nil (IsValueWord kind)
  words-fit turn (m ∷ ms) (ps ∷ inputs) all =
      first-fits (m == turn) ps (words_given turn ms inputs) (All-head (IsInput kind) ps inputs all) (words-fit turn ms inputs (All-tail (IsInput kind) ps inputs all))

  some-by : (word : List ℕ) (b c : Bool) (ps : List Pair) (words : List (List ℕ)) → Stands kind word b ps → (c ≡ true → 0 < length words) → cond b true c ≡ true → 0 < length (word_before b ps words)
  some-by word true c [] words stands more some = absurd stands
  some-by word true c (p ∷ ps) words stands more some = omega arith
  some-by word false c ps words stands more some = more some

  pub some-given : (word : List ℕ) (turn : ℕ) (ms : List ℕ) (inputs : List (List Pair)) → AllStand kind word turn ms inputs → some_marked kind word turn ms ≡ true → 0 < length (words_given turn ms inputs)
  some-given word turn [] inputs stand some = cc
  some-given word turn (m ∷ ms) [] stand some = absurd stand
  some-given word turn (m ∷ ms) (ps ∷ inputs) stand some =
      some-by word (m == turn) (some_marked kind word turn ms) ps (words_given turn ms inputs) stand.0 (some-given word turn ms inputs stand.1) some

  -- ---- the item

  module _ (word : List ℕ) (turn : ℕ) (ms : List ℕ) (inputs : List (List Pair)) (same : length ms ≡ length inputs)
      (least : IsLeastWord kind word turn ms inputs (length inputs)) where
    stand : AllStand kind word turn ms inputs
    stand = all-stand kind word turn ms inputs same least.stands

    marked : some_marked kind word turn ms ≡ true
    marked = let h = least.there.1.0 in marked-there kind word turn ms least.there.0 (omega (arith, h, same)) least.there.1.1

    pub item-given : items_left kind inputs ≡ record { kind = kind; key = word; words = words_given turn ms inputs } ∷ items_left kind (left_behind turn ms inputs)
    item-given = items-left kind word turn ms inputs stand marked

    pub words-some : 0 < length (words_given turn ms inputs)
    words-some = some-given word turn ms inputs stand marked

    pub has-words : (count : ℕ) (words : List (List ℕ)) → All (IsInput kind) inputs → count ≤ length words → take count words ≡ words_given turn ms inputs
        → HasWords kind count words
    has-words count words ordered within are = record {
      within = within;
      item = record {
        some = subst (λ ws. 0 < length ws) (sym are) words-some;
        fit = subst (All (IsValueWord kind)) (sym are) (words-fit turn ms inputs ordered);
      };
    }

    pub is-given : (count : ℕ) (words : List (List ℕ)) → All (IsInput kind) inputs → count ≤ length words → take count words ≡ words_given turn ms inputs
        → IsGiven kind word count words (items_left kind inputs) (items_left kind (left_behind turn ms inputs))
    is-given count words ordered within are = record {
      has = has-words count words ordered within are;
      left = item-given ∙ (λ i. record { kind = kind; key = word; words = sym are i } ∷ items_left kind (left_behind turn ms inputs));
    }

-- what a slice that was lent writes back
pub written : {A : Type 0} (n : ℕ) (xs ys : List A) → n ≡ length xs → take n (xs ++ drop (length xs) ys) ≡ xs
written n xs ys is = ap (λ k. take k (xs ++ drop (length xs) ys)) is ∙ take-append_seam xs (drop (length xs) ys)

-- ---- the words of an item, behind their references

module _ (kind : FileKind) (count : ℕ) (words front : List (Bor (List ℕ))) (is : front ≡ take count words) (has : HasWords kind count (map (λ w. w.now) words)) where
  pub fronted : map (λ w. w.now) front ≡ take count (map (λ w. w.now) words)
  fronted = ap (map (λ w. w.now)) is ∙ sym (take-map (λ (w : Bor (List ℕ)). w.now) count words)

  pub front-some : 0 < length front
  front-some =
      let h = has.item.some in
      let same = ap length fronted in
      omega (arith, h, same, length-map front (λ (w : Bor (List ℕ)). w.now))

  pub front-lists : kind ≡ Ef → All (λ (w : Bor (List ℕ)). IsText w.now) front
  front-lists ef k d below =
      let fit : All (IsValueWord kind) (map (λ w. w.now) front) = subst (All (IsValueWord kind)) (sym fronted) has.item.fit in
      subst IsText (get_or-map (λ (w : Bor (List ℕ)). w.now) front k d d.now below)
      (fit k d.now (omega (arith, below, length-map front (λ (w : Bor (List ℕ)). w.now))) ef)
