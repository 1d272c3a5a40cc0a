-- Pairs as rows, and the pairs that have a value.
use Rattle.std.proofs.Common.{◌≡◌, ℕ, suc, ◌+◌, ◌-◌, ◌<◌, ◌≤◌, Bool, true, false, cond, List, [], ◌∷◌, ◌++◌, map, drop, length, get_or, Option, Some, None, refl, arith, sym, ◌∙◌, ap, subst, add-one, drop-cons, eqb-true}
use Rattle.std.specs.Prelude.{All, nat_eq, ◌==◌, ◌&&◌, is_some}
use Rattle.std.specs.Option.{option_or}
use Rattle.std.specs.List.{filter}
use Rattle.std.specs.Cmp.Lexicographic.{pointwise, bytes_decides}
use Rattle.std.proofs.lemmas.Bool.{ne_eqb}
use Rattle.std.proofs.lemmas.List.{drop_all}
use Rattle.std.proofs.lemmas.List.Elements.{All-nil, All-cons, All-head, All-tail}
use Rattle.agg_model.specs.declared.contents.Pair.{Pair}
use Rattle.agg_model.specs.declared.contents.Before.{Before}
use Rattle.agg_model.specs.declared.contents.Times.{Times}
use Rattle.agg_model.specs.Pairs.{IsBelow, KeysAscend, pair_keys, word_in, held_value}
use Rattle.content_laws.specs.Looks.{before_in}
use Rattle.history_core.specs.Befores.{IsEarlier}
use Rattle.history_core.proofs.Orders.{not_itself}
use Rattle.content_laws.specs.Parts.{both_numbers, kept_word}
use Rattle.merge_files.specs.KeptPairs.{has_value}
use Rattle.merge_files.proofs.Ascents.{Ascend, pair_row, rows-ascend}

both-true : (t u : Bool) → (t && u) ≡ true → (t ≡ true) × (u ≡ true)
both-true true true is = (refl, refl)
both-true true false is = cc
both-true false u is = cc

-- a row behind another of this place isn't of it
module _ (k : List ℕ) (n : ℕ) where
  abbrev test : Before → Bool
  test b = pointwise nat_eq b.key k && b.tx == n

  apart-by : (a b : Before) (t : Bool) → test a ≡ true → test b ≡ t → IsEarlier a b → t ≡ false
  apart-by a b true one other before =
      let first = both-true (pointwise nat_eq a.key k) (a.tx == n) one in
      let second = both-true (pointwise nat_eq b.key k) (b.tx == n) other in
      let keys : a.key ≡ b.key = (bytes_decides a.key k).0 first.0 ∙ sym ((bytes_decides b.key k).0 second.0) in
      let numbers : a.tx ≡ b.tx = eqb-true a.tx n first.1 ∙ sym (eqb-true b.tx n second.1) in
      absurd (not_itself a.key b.key a.tx b.tx keys numbers before)
  apart-by a b false one other before = refl

  none-behind : (a : Before) (bs : List Before) → test a ≡ true → All (IsEarlier a) bs → before_in bs k n ≡ None
  none-behind a [] is all = refl
  none-behind a (b ∷ bs) is all =
      (λ i. cond (apart-by a b (test b) is refl (All-head (IsEarlier a) b bs all) i) (Some b.value) (none-behind a bs is (All-tail (IsEarlier a) b bs all) i))

and_true : (t : Bool) → (t && true) ≡ t
and_true true = refl
and_true false = refl

pub word-rows : (ps : List Pair) (k : List ℕ) → before_in (map pair_row ps) k 0 ≡ word_in ps k
word-rows [] k = refl
word-rows (p ∷ ps) k = λ i. cond (and_true (pointwise nat_eq p.key k) i) (Some p.value) (word-rows ps k i)

-- ---- the pairs that have a value

all-kept-by : (k : List ℕ) (p : Pair) (kept : List Pair) (t : Bool) → IsBelow k p.key → All (IsBelow k) (pair_keys kept) → All (IsBelow k) (pair_keys (cond t (p ∷ kept) kept))
all-kept-by k p kept true head rest = All-cons (IsBelow k) p.key (pair_keys kept) head rest
all-kept-by k p kept false head rest = rest

all-kept : (k : List ℕ) (ps : List Pair) → All (IsBelow k) (pair_keys ps) → All (IsBelow k) (pair_keys (filter has_value ps))
all-kept k [] all = all
all-kept k (p ∷ ps) all =
    all-kept-by k p (filter has_value ps) (has_value p) (All-head (IsBelow k) p.key (pair_keys ps) all) (all-kept k ps (All-tail (IsBelow k) p.key (pair_keys ps) all))

ascend-by : (p : Pair) (kept : List Pair) (t : Bool) → All (IsBelow p.key) (pair_keys kept) → KeysAscend (pair_keys kept) → KeysAscend (pair_keys (cond t (p ∷ kept) kept))
ascend-by p kept true head up = (head, up)
ascend-by p kept false head up = up

pub kept-ascend : (ps : List Pair) → KeysAscend (pair_keys ps) → KeysAscend (pair_keys (filter has_value ps))
kept-ascend [] up = tt
kept-ascend (p ∷ ps) up = ascend-by p (filter has_value ps) (has_value p) (all-kept p.key ps up.0) (kept-ascend ps up.1)

held-by : (w : List ℕ) → is_some (held_value (Some w)) ≡ true → held_value (Some w) ≡ Some w
held-by [] is = cc
held-by (b ∷ bs) is = refl

lost-by : (w : List ℕ) → is_some (held_value (Some w)) ≡ false → held_value (Some w) ≡ None
lost-by [] is = refl
lost-by (b ∷ bs) is = cc

kept-by : (k : List ℕ) (p : Pair) (ps : List Pair) (t u : Bool) → pointwise nat_eq p.key k ≡ t → has_value p ≡ u → (t ≡ true → word_in ps k ≡ None)
    → word_in (filter has_value ps) k ≡ held_value (word_in ps k)
    → word_in (cond u (p ∷ filter has_value ps) (filter has_value ps)) k ≡ held_value (cond t (Some p.value) (word_in ps k))
kept-by k p ps true true is has none rest =
    ap (λ t. cond t (Some p.value) (word_in (filter has_value ps) k)) is ∙ sym (held-by p.value has)
kept-by k p ps true false is has none rest = rest ∙ ap held_value (none refl) ∙ sym (lost-by p.value has)
kept-by k p ps false true is has none rest = ap (λ t. cond t (Some p.value) (word_in (filter has_value ps) k)) is ∙ rest
kept-by k p ps false false is has none rest = rest

pub kept-word : (ps : List Pair) → KeysAscend (pair_keys ps) → (k : List ℕ) → word_in (filter has_value ps) k ≡ held_value (word_in ps k)
kept-word [] up k = refl
kept-word (p ∷ ps) up k =
    let rows : Ascend (pair_row p ∷ map pair_row ps) = rows-ascend (λ (q : Pair). q.key) (λ (q : Pair). q.value) (p ∷ ps) up in
    kept-by k p ps (pointwise nat_eq p.key k) (has_value p) refl refl
    (λ is. sym (word-rows ps k) ∙ none-behind k 0 (pair_row p) (map pair_row ps) (and_true (pointwise nat_eq p.key k) ∙ is) rows.0)
    (kept-word ps up.1 k)

-- ---- items from a place on

pub drop_at : {Z : Type 0} (items : List Z) (i : ℕ) (z : Z) → i < length items → z ≡ get_or items i z → drop i items ≡ z ∷ drop (i + 1) items
drop_at items i z h is = rw add-one (drop-cons items i z h ∙ ap (λ d. d ∷ drop (suc i) items) (sym is))
