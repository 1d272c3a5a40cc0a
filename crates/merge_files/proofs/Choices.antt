-- The least word of the inputs so far, and one input more.
use Rattle.std.proofs.Common.{◌≡◌, ℕ, zero, suc, ◌+◌, ◌<◌, ◌≤◌, ◌==◌, Bool, true, false, cond, List, [], ◌∷◌, map, length, get_or, drop, Option, Some, None, refl, arith, sym, ◌∙◌, ap, subst, eq-eqb, below_more, get_or-set_other, get_or-set_same}
use Rattle.std.specs.Prelude.{All, slice_index, slice_set}
use Rattle.std.proofs.lemmas.Bool.{ne_eqb}
use Rattle.std.proofs.lemmas.List.{get_or_default}
use Rattle.std.proofs.lemmas.List.Elements.{All-head}
use Rattle.std.specs.declared.cmp.Ordering.TheVariants.{Less, Equal, Greater}
use Rattle.agg_model.specs.declared.entity.FileKind.{FileKind}
use Rattle.agg_model.specs.declared.entity.FileKind.TheVariants.{Kv, Bt, Kvi, V, Vi, Ef, Efi}
use Rattle.agg_model.specs.declared.contents.Pair.{Pair}
use Rattle.agg_model.specs.Pairs.{pair_keys}
use Rattle.history_core.specs.Befores.{order_of}
use Rattle.history_core.specs.KeyWord.{key_word, key_in, number_in}
use Rattle.merge_files.specs.Cursors.{BeginsWith}
use Rattle.merge_files.specs.Seen.{HasLower, HasSame, HasNone}
use Rattle.merge_files.specs.Walks.{word_order, IsAhead, AreBehind, WordsRise, IsKeyWord, IsWordPair, IsInput, Stands, IsLeastWord, AreAtEnd, IsLeastOf}
use Rattle.merge_files.proofs.Ascents.{one-place}
use Rattle.merge_files.proofs.WordOrder.{ahead-turned, behind-ahead}

-- two key words of one place are one word
pub word-same : (kind : FileKind) (w v : List ℕ) → IsKeyWord kind w → IsKeyWord kind v → word_order kind w v ≡ Equal → w ≡ v
unfolding word_order
word-same V w v one other is =
    let same = one-place (record { key = key_in w; tx = number_in w; value = [] }) (record { key = key_in v; tx = number_in v; value = [] }) is in
    one.1 ∙ (λ i. key_word (same.0 i) (same.1 i)) ∙ sym other.1
word-same Kv w v one other is = (one-place (record { key = w; tx = 0; value = [] }) (record { key = v; tx = 0; value = [] }) is).0
word-same Bt w v one other is = (one-place (record { key = w; tx = 0; value = [] }) (record { key = v; tx = 0; value = [] }) is).0
word-same Kvi w v one other is = (one-place (record { key = w; tx = 0; value = [] }) (record { key = v; tx = 0; value = [] }) is).0
word-same Vi w v one other is = (one-place (record { key = w; tx = 0; value = [] }) (record { key = v; tx = 0; value = [] }) is).0
word-same Ef w v one other is = (one-place (record { key = w; tx = 0; value = [] }) (record { key = v; tx = 0; value = [] }) is).0
word-same Efi w v one other is = (one-place (record { key = w; tx = 0; value = [] }) (record { key = v; tx = 0; value = [] }) is).0

-- ---- how an input stands to the least word so far

module _ (kind : FileKind) where
  pub none-seen : (least : Option (List ℕ)) (pairs : List Pair) → pairs ≡ [] → HasNone kind least pairs
  none-seen None pairs is = is
  none-seen (Some word) pairs is = subst (λ ps. AreBehind kind word (pair_keys ps)) (sym is) tt

  module _ (pairs : List Pair) (word value : List ℕ) (begins : BeginsWith pairs word value) (input : IsInput kind pairs) where
    rise : AreBehind kind word (pair_keys (drop 1 pairs))
    rise = (subst (λ ps. WordsRise kind (pair_keys ps)) begins input.rise).0

    pub first-is : IsKeyWord kind word
    first-is =
        let p : Pair = record { key = word; value = value } in
        (All-head (IsWordPair kind) p (drop 1 pairs) (subst (All (IsWordPair kind)) begins input.fit)).key

    stands-same : (known : List ℕ) → word ≡ known → Stands kind known true pairs
    stands-same known is =
        subst (Stands kind known true) (sym begins) (is, subst (λ w. AreBehind kind w (pair_keys (drop 1 pairs))) is rise)

    pub first-seen : HasLower kind None pairs word
    first-seen = record { lower = tt; is = first-is; stands = stands-same word refl }

    module _ (known : List ℕ) where
      pub lower-seen : word_order kind word known ≡ Less → HasLower kind (Some known) pairs word
      lower-seen is = record { lower = is; is = first-is; stands = stands-same word refl }

      pub same-seen : IsKeyWord kind known → word_order kind word known ≡ Equal → Stands kind known true pairs
      same-seen other is = stands-same known (word-same kind word known first-is other is)

      pub behind-seen : word_order kind word known ≡ Greater → Stands kind known false pairs
      behind-seen is =
          let ahead = ahead-turned kind word known is in
          subst (Stands kind known false) (sym begins) (ahead, behind-ahead kind known word (pair_keys (drop 1 pairs)) ahead rise)

  -- ---- one input more

  lowered : (word least : List ℕ) (t : Bool) (pairs : List Pair) → IsAhead kind word least → Stands kind least t pairs → Stands kind word false pairs
  lowered word least true [] ahead stands = tt
  lowered word least true (p ∷ ps) ahead stands =
      (subst (IsAhead kind word) (sym stands.0) ahead, behind-ahead kind word least (pair_keys ps) ahead stands.1)
  lowered word least false pairs ahead stands = behind-ahead kind word least (pair_keys pairs) ahead stands

  module _ (turn : ℕ) (marks : List ℕ) (inputs : List (List Pair)) (n : ℕ) (here : n < length marks) where
    -- what holds of the marks before the place holds after a write there
    kept-by : (P : ℕ → ℕ → Type 0) (m : ℕ) → ((i : ℕ) → i < n → P i (slice_index marks i)) → P n m → (i : ℕ) → i < n + 1 → P i (slice_index (slice_set marks n m) i)
    kept-by P m before now =
        below_more (λ i. P i (slice_index (slice_set marks n m) i)) n
        (λ i below. subst (P i) (sym (get_or-set_other marks n i m 0 (λ is. omega (arith, is)))) (before i below))
        (subst (P n) (sym (get_or-set_same marks n m 0 here)) now)

    not-yet : (m : ℕ) → m ≤ turn → (m == turn + 1) ≡ false
    not-yet m below = ne_eqb m (turn + 1) (λ is. omega (arith, is))

    lower-from : (word : List ℕ) → turn ≤ n → ((i : ℕ) → i < n → slice_index marks i ≤ turn) → ((i : ℕ) → i < n → Stands kind word false (get_or inputs i []))
        → Stands kind word true (get_or inputs n []) → IsLeastWord kind word (turn + 1) (slice_set marks n (turn + 1)) inputs (n + 1)
    lower-from word few marked before now = record {
      some = omega arith;
      few = omega arith;
      marked = kept-by (λ i m. m ≤ turn + 1) (turn + 1) (λ i below. let h = marked i below in omega (arith, h)) (omega arith);
      stands = kept-by (λ i m. Stands kind word (m == turn + 1) (get_or inputs i [])) (turn + 1)
          (λ i below. subst (λ t. Stands kind word t (get_or inputs i [])) (sym (not-yet (slice_index marks i) (marked i below))) (before i below))
          (subst (λ t. Stands kind word t (get_or inputs n [])) (sym (eq-eqb (turn + 1) (turn + 1) refl)) now);
      there = (n, (omega arith, get_or-set_same marks n (turn + 1) 0 here));
    }

    pub more-lower : (least : Option (List ℕ)) (word : List ℕ) → IsLeastOf kind least turn marks inputs n → HasLower kind least (get_or inputs n []) word
        → IsLeastOf kind (Some word) (turn + 1) (slice_set marks n (turn + 1)) inputs (n + 1)
    more-lower None word is seen =
        lower-from word (omega (arith, is.0)) (λ i below. let h = is.1.marked i below in omega (arith, h))
        (λ i below. subst (Stands kind word false) (sym (is.1.ended i below)) tt) seen.stands
    more-lower (Some least) word is seen =
        lower-from word is.few is.marked
        (λ i below. lowered word least (slice_index marks i == turn) (get_or inputs i []) seen.lower (is.stands i below)) seen.stands

    pub more-same : (least : Option (List ℕ)) → IsLeastOf kind least turn marks inputs n → HasSame kind least (get_or inputs n [])
        → IsLeastOf kind least turn (slice_set marks n turn) inputs (n + 1)
    more-same None is seen = absurd seen
    more-same (Some least) is seen = record {
      some = is.some;
      few = let h = is.few in omega (arith, h);
      marked = kept-by (λ i m. m ≤ turn) turn is.marked (omega arith);
      stands = kept-by (λ i m. Stands kind least (m == turn) (get_or inputs i [])) turn is.stands
          (subst (λ t. Stands kind least t (get_or inputs n [])) (sym (eq-eqb turn turn refl)) seen);
      there = (n, (omega arith, get_or-set_same marks n turn 0 here));
    }

    pub more-behind : (least : Option (List ℕ)) → IsLeastOf kind least turn marks inputs n → HasNone kind least (get_or inputs n [])
        → IsLeastOf kind least turn (slice_set marks n 0) inputs (n + 1)
    more-behind None is seen = (
      is.0,
      record {
        marked = kept-by (λ i m. m ≤ 0) 0 is.1.marked (omega arith);
        ended = below_more (λ i. get_or inputs i [] ≡ []) n is.1.ended seen;
      },
    )
    more-behind (Some least) is seen =
        let there = is.there in
        record {
          some = is.some;
          few = let h = is.few in omega (arith, h);
          marked = kept-by (λ i m. m ≤ turn) 0 is.marked (omega arith);
          stands = kept-by (λ i m. Stands kind least (m == turn) (get_or inputs i [])) 0 is.stands
              (subst (λ t. Stands kind least t (get_or inputs n [])) (sym (ne_eqb 0 turn (λ e. let h = is.some in omega (arith, e, h)))) seen);
          there = (there.0, (let h = there.1.0 in omega (arith, h), get_or-set_other marks n there.0 0 0 (λ e. let h = there.1.0 in omega (arith, e, h)) ∙ there.1.1));
        }

-- ---- the same, as the loop has it

pub moved : (kind : FileKind) (o p : Option (List ℕ)) (t u : ℕ) (ms ns : List ℕ) (inputs : List (List Pair)) (n : ℕ) → p ≡ o → u ≡ t → ns ≡ ms
    → IsLeastOf kind o t ms inputs n → IsLeastOf kind p u ns inputs n
moved kind o p t u ms ns inputs n word turn marks is =
    subst (λ q. IsLeastOf kind q u ns inputs n) (sym word)
    (subst (λ v. IsLeastOf kind o v ns inputs n) (sym turn) (subst (λ ls. IsLeastOf kind o t ls inputs n) (sym marks) is))

pub input-at : (inputs : List (List Pair)) (i : ℕ) (z : List Pair) → i < length inputs → z ≡ get_or inputs i z → z ≡ get_or inputs i []
input-at inputs i z below is = is ∙ get_or_default inputs i z [] below
