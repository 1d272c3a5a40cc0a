-- The least word of inputs, and what is left once it is given.
use Rattle.std.proofs.Common.{◌≡◌, ℕ, zero, suc, ◌+◌, ◌<◌, ◌≤◌, ◌==◌, Bool, true, false, cond, List, [], ◌∷◌, map, length, get_or, eq-eqb, Option, Some, None, refl, arith, sym, ◌∙◌, ap, subst}
use Rattle.std.specs.Prelude.{nat_eq}
use Rattle.std.specs.List.{cons_option}
use Rattle.std.specs.Cmp.Lexicographic.{pointwise, bytes_decides}
use Rattle.std.specs.declared.cmp.Ordering.{Ordering}
use Rattle.std.specs.declared.cmp.Ordering.TheVariants.{Less, Equal, Greater}
use Rattle.agg_model.specs.declared.entity.FileKind.{FileKind}
use Rattle.agg_model.specs.declared.contents.Pair.{Pair}
use Rattle.agg_model.specs.Pairs.{pair_keys, word_in}
use Rattle.merge_files.specs.Walks.{Item, word_order, IsAhead, AreBehind, Stands, placed, with_word, with_keys, all_keys, words_with, item_with, items_left, behind_word, word_before, left_behind, words_given}
use Rattle.merge_files.proofs.WordOrder.{order-itself, behind-greater, ahead-other}

module _ (kind : FileKind) (word : List ℕ) where
  -- ---- words that are put in where this one is the least

  placed-behind : (r : Ordering) (w v : List ℕ) (vs more : List (List ℕ)) → IsAhead kind word w → IsAhead kind word v → AreBehind kind word vs
      → AreBehind kind word more → AreBehind kind word (placed r w v vs more)
  placed-behind Less w v vs more first second rest others = (first, (second, rest))
  placed-behind Equal w v vs more first second rest others = (second, rest)
  placed-behind Greater w v vs more first second rest others = (second, others)

  pub with_word-behind : (w : List ℕ) (vs : List (List ℕ)) → IsAhead kind word w → AreBehind kind word vs → AreBehind kind word (with_word kind w vs)
  with_word-behind w [] first rest = (first, tt)
  with_word-behind w (v ∷ vs) first rest =
      placed-behind (word_order kind w v) w v vs (with_word kind w vs) first rest.0 rest.1 (with_word-behind w vs first rest.1)

  with_keys-behind : (ps : List Pair) (vs : List (List ℕ)) → AreBehind kind word (pair_keys ps) → AreBehind kind word vs → AreBehind kind word (with_keys kind ps vs)
  with_keys-behind [] vs first rest = rest
  with_keys-behind (p ∷ ps) vs first rest = with_word-behind p.key (with_keys kind ps vs) first.0 (with_keys-behind ps vs first.1 rest)

  with_word-over : (w : List ℕ) (vs : List (List ℕ)) → IsAhead kind word w → with_word kind w (word ∷ vs) ≡ word ∷ with_word kind w vs
  with_word-over w vs first = ap (λ r. placed r w word vs (with_word kind w vs)) (behind-greater kind word w first)

  with_keys-over : (ps : List Pair) (vs : List (List ℕ)) → AreBehind kind word (pair_keys ps) → with_keys kind ps (word ∷ vs) ≡ word ∷ with_keys kind ps vs
  with_keys-over [] vs behind = refl
  with_keys-over (p ∷ ps) vs behind = ap (with_word kind p.key) (with_keys-over ps vs behind.1) ∙ with_word-over p.key (with_keys kind ps vs) behind.0

  with_word-first : (vs : List (List ℕ)) → AreBehind kind word vs → with_word kind word vs ≡ word ∷ vs
  with_word-first [] behind = refl
  with_word-first (v ∷ vs) behind = ap (λ r. placed r word v vs (with_word kind word vs)) behind.0

  with_word-there : (vs : List (List ℕ)) → with_word kind word (word ∷ vs) ≡ word ∷ vs
  with_word-there vs = ap (λ r. placed r word word vs (with_word kind word vs)) (order-itself kind word)

  -- ---- all inputs

  module _ (turn : ℕ) where
    abbrev pub AllStand : List ℕ → List (List Pair) → Type 0
    AllStand [] [] = Unit {0}
    AllStand [] (ps ∷ inputs) = ⊥
    AllStand (m ∷ ms) [] = ⊥
    AllStand (m ∷ ms) (ps ∷ inputs) = Stands kind word (m == turn) ps × AllStand ms inputs

    -- some input bears the mark
    abbrev pub some_marked : List ℕ → Bool
    some_marked [] = false
    some_marked (m ∷ ms) = cond (m == turn) true (some_marked ms)

    abbrev pub put_first : Bool → List (List ℕ) → List (List ℕ)
    put_first b words = cond b (word ∷ words) words

    keys-by : (b c : Bool) (ps : List Pair) (words all : List (List ℕ)) → Stands kind word b ps → all ≡ put_first c words → AreBehind kind word words
        → (with_keys kind ps all ≡ put_first (cond b true c) (with_keys kind (behind_word b ps) words)) × AreBehind kind word (with_keys kind (behind_word b ps) words)
    keys-by true true [] words all stands is behind = absurd stands
    keys-by true false [] words all stands is behind = absurd stands
    keys-by true true (p ∷ ps) words all stands is behind = (
      (λ i. with_word kind (stands.0 i) (with_keys kind ps (is i)))
          ∙ ap (with_word kind word) (with_keys-over ps words stands.1)
          ∙ with_word-there (with_keys kind ps words),
      with_keys-behind ps words stands.1 behind,
    )
    keys-by true false (p ∷ ps) words all stands is behind = (
      (λ i. with_word kind (stands.0 i) (with_keys kind ps (is i)))
          ∙ with_word-first (with_keys kind ps words) (with_keys-behind ps words stands.1 behind),
      with_keys-behind ps words stands.1 behind,
    )
    keys-by false true ps words all stands is behind =
        (ap (with_keys kind ps) is ∙ with_keys-over ps words stands, with_keys-behind ps words stands behind)
    keys-by false false ps words all stands is behind = (ap (with_keys kind ps) is, with_keys-behind ps words stands behind)

    pub keys-left : (ms : List ℕ) (inputs : List (List Pair)) → AllStand ms inputs
        → (all_keys kind inputs ≡ put_first (some_marked ms) (all_keys kind (left_behind turn ms inputs))) × AreBehind kind word (all_keys kind (left_behind turn ms inputs))
    keys-left [] [] stand = (refl, tt)
    keys-left [] (ps ∷ inputs) stand = absurd stand
    keys-left (m ∷ ms) [] stand = absurd stand
    keys-left (m ∷ ms) (ps ∷ inputs) stand =
        let rest = keys-left ms inputs stand.1 in
        keys-by (m == turn) (some_marked ms) ps (all_keys kind (left_behind turn ms inputs)) (all_keys kind inputs) stand.0 rest.0 rest.1

    -- ---- the words of one key word

    other-by : (t : Bool) (w v : List ℕ) → pointwise nat_eq w v ≡ t → (w ≡ v → ⊥) → t ≡ false
    other-by true w v is other = absurd (other ((bytes_decides w v).0 is))
    other-by false w v is other = refl

    not-there : (ps : List Pair) → AreBehind kind word (pair_keys ps) → word_in ps word ≡ None
    not-there [] behind = refl
    not-there (p ∷ ps) behind =
        let other = other-by (pointwise nat_eq p.key word) p.key word refl (λ same. ahead-other kind word p.key behind.0 (sym same)) in
        λ i. cond (other i) (Some p.value) (not-there ps behind.1 i)

    given-by : (b : Bool) (ps : List Pair) (rest all : List (List ℕ)) → Stands kind word b ps → all ≡ rest → cons_option (word_in ps word) all ≡ word_before b ps rest
    given-by true [] rest all stands is = absurd stands
    given-by true (p ∷ ps) rest all stands is =
        λ i. cons_option (cond ((bytes_decides p.key word).1 stands.0 i) (Some p.value) (word_in ps word)) (is i)
    given-by false ps rest all stands is = λ i. cons_option (not-there ps stands i) (is i)

    pub words-given : (ms : List ℕ) (inputs : List (List Pair)) → AllStand ms inputs → words_with inputs word ≡ words_given turn ms inputs
    words-given [] [] stand = refl
    words-given [] (ps ∷ inputs) stand = absurd stand
    words-given (m ∷ ms) [] stand = absurd stand
    words-given (m ∷ ms) (ps ∷ inputs) stand =
        given-by (m == turn) ps (words_given turn ms inputs) (words_with inputs word) stand.0 (words-given ms inputs stand.1)

    module _ (v : List ℕ) (ahead : IsAhead kind word v) where
      left-by : (b : Bool) (ps : List Pair) (rest all : List (List ℕ)) → Stands kind word b ps → all ≡ rest
          → cons_option (word_in ps v) all ≡ cons_option (word_in (behind_word b ps) v) rest
      left-by true [] rest all stands is = absurd stands
      left-by true (p ∷ ps) rest all stands is =
          let other = other-by (pointwise nat_eq p.key v) p.key v refl (λ same. ahead-other kind word v ahead (sym stands.0 ∙ same)) in
          λ i. cons_option (cond (other i) (Some p.value) (word_in ps v)) (is i)
      left-by false ps rest all stands is = ap (cons_option (word_in ps v)) is

      pub words-left : (ms : List ℕ) (inputs : List (List Pair)) → AllStand ms inputs → words_with inputs v ≡ words_with (left_behind turn ms inputs) v
      words-left [] [] stand = refl
      words-left [] (ps ∷ inputs) stand = absurd stand
      words-left (m ∷ ms) [] stand = absurd stand
      words-left (m ∷ ms) (ps ∷ inputs) stand =
          left-by (m == turn) ps (words_with (left_behind turn ms inputs) v) (words_with inputs v) stand.0 (words-left ms inputs stand.1)

    -- ---- the items

    items-by : (ms : List ℕ) (inputs : List (List Pair)) → AllStand ms inputs → (words : List (List ℕ)) → AreBehind kind word words
        → map (item_with kind inputs) words ≡ map (item_with kind (left_behind turn ms inputs)) words
    items-by ms inputs stand [] behind = refl
    items-by ms inputs stand (v ∷ vs) behind =
        λ i. record { kind = kind; key = v; words = words-left v behind.0 ms inputs stand i } ∷ items-by ms inputs stand vs behind.1 i

    pub items-left : (ms : List ℕ) (inputs : List (List Pair)) → AllStand ms inputs → some_marked ms ≡ true
        → items_left kind inputs ≡ record { kind = kind; key = word; words = words_given turn ms inputs } ∷ items_left kind (left_behind turn ms inputs)
    items-left ms inputs stand some =
        let left = left_behind turn ms inputs in
        let keys = keys-left ms inputs stand in
        ap (map (item_with kind inputs)) (keys.0 ∙ (λ i. put_first (some i) (all_keys kind left)))
        ∙ (λ i. record { kind = kind; key = word; words = words-given ms inputs stand i } ∷ items-by ms inputs stand (all_keys kind left) keys.1 i)

-- ---- no input has a word

pub nothing-left : (kind : FileKind) (inputs : List (List Pair)) → ((i : ℕ) → i < length inputs → get_or inputs i [] ≡ []) → items_left kind inputs ≡ []
nothing-left kind inputs ended = ap (map (item_with kind inputs)) (no-keys inputs ended)
  where
    no-keys : (inputs : List (List Pair)) → ((i : ℕ) → i < length inputs → get_or inputs i [] ≡ []) → all_keys kind inputs ≡ []
    no-keys [] ended = refl
    no-keys (ps ∷ inputs) ended =
        (λ i. with_keys kind (ended 0 (omega arith) i) (all_keys kind inputs)) ∙ no-keys inputs (λ i below. ended (suc i) (omega arith))

-- ---- from places to lists

module _ (kind : FileKind) (word : List ℕ) (turn : ℕ) where
  pub all-stand : (ms : List ℕ) (inputs : List (List Pair)) → length ms ≡ length inputs
      → ((i : ℕ) → i < length inputs → Stands kind word (get_or ms i 0 == turn) (get_or inputs i [])) → AllStand kind word turn ms inputs
  all-stand [] [] same stands = tt
  all-stand [] (ps ∷ inputs) same stands = absurd (omega arith)
  all-stand (m ∷ ms) [] same stands = absurd (omega arith)
  all-stand (m ∷ ms) (ps ∷ inputs) same stands =
      (stands 0 (omega arith), all-stand ms inputs (omega arith) (λ i below. stands (suc i) (omega arith)))

  pub marked-there : (ms : List ℕ) (i : ℕ) → i < length ms → get_or ms i 0 ≡ turn → some_marked kind word turn ms ≡ true
  marked-there [] i below is = absurd (omega arith)
  marked-there (m ∷ ms) zero below is = λ i. cond (eq-eqb m turn is i) true (some_marked kind word turn ms)
  marked-there (m ∷ ms) (suc i) below is = marked-by (m == turn) (marked-there ms i (omega arith) is)
    where
      marked-by : (b : Bool) → some_marked kind word turn ms ≡ true → cond b true (some_marked kind word turn ms) ≡ true
      marked-by true some = refl
      marked-by false some = some
