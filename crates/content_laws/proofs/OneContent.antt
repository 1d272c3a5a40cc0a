-- What a file holds is told by its look-ups.
use Rattle.std.specs.Prelude.{◌≡◌, ℕ, suc, ◌==◌, ◌&&◌, nat_eq, Bool, true, false, cond, List, [], ◌∷◌, map, All, Some, refl}
use Rattle.std.proofs.Common.{AllPairs, sym, ◌∙◌, ap, arith, eq-eqb, eqb-true}
use Rattle.std.specs.Ordering.{nat_cmp, ordering_then, is_eq}
use Rattle.std.specs.Cmp.{IsTotalOrder, tied_itself, then_total, on_total, nat_cmp_total}
use Rattle.std.specs.Cmp.Lexicographic.{pointwise, slice_cmp, nat_list_cmp_total, bytes_decides}
use Rattle.std.specs.FinMap.{nat_cmp-IsAntisymmetric, slice_cmp-IsAntisymmetric}
use Rattle.std.specs.declared.cmp.Ordering.{Ordering}
use Rattle.std.specs.declared.cmp.Ordering.TheVariants.{Less, Equal, Greater}
use Rattle.std.proofs.lemmas.List.Elements.{All-head, All-tail, All-cons, All-nil}
use Rattle.agg_model.specs.declared.contents.Pair.{Pair}
use Rattle.agg_model.specs.declared.contents.Before.{Before}
use Rattle.agg_model.specs.declared.contents.Times.{Times}
use Rattle.agg_model.specs.Pairs.{IsBelow, KeysAscend, pair_keys, word_in}
use Rattle.content_laws.specs.Looks.{numbers_in, before_in, IsEarlier}
use Rattle.content_laws.proofs.OneList.{found, Climb, one_list}

key_tied : (k l : List ℕ) → slice_cmp nat_cmp k l ≡ Equal → k ≡ l
key_tied k l is = slice_cmp-IsAntisymmetric nat_cmp-IsAntisymmetric k l is

-- two bytes texts are equal where neither is below the other
same_key-by : (k l : List ℕ) (t : Bool) (r : Ordering) → pointwise nat_eq k l ≡ t → slice_cmp nat_cmp k l ≡ r → t ≡ is_eq r
same_key-by k l true r is at =
    ap is_eq (sym (tied_itself nat_list_cmp_total k)) ∙ ap (λ m. is_eq (slice_cmp nat_cmp k m)) ((bytes_decides k l).0 is) ∙ ap is_eq at
same_key-by k l false Less is at = refl
same_key-by k l false Equal is at = let wrong : true ≡ false = sym ((bytes_decides k l).1 (key_tied k l at)) ∙ is in cc
same_key-by k l false Greater is at = refl

same_key : (k l : List ℕ) → pointwise nat_eq k l ≡ is_eq (slice_cmp nat_cmp k l)
same_key k l = same_key-by k l (pointwise nat_eq k l) (slice_cmp nat_cmp k l) refl refl

All-back : {A : Type 0} (key : A → List ℕ) (P : List ℕ → Type 0) (xs : List A) → All P (map key xs) → All (λ x. P (key x)) xs
All-back key P [] all = All-nil (λ x. P (key x))
All-back key P (x ∷ xs) all =
    All-cons (λ x. P (key x)) x xs (All-head P (key x) (map key xs) all) (All-back key P xs (All-tail P (key x) (map key xs) all))

-- ---- pairs

word-found : (ps : List Pair) (k : List ℕ) → word_in ps k ≡ found (λ (p : Pair). p.key) (λ (p : Pair). p.value) (slice_cmp nat_cmp) ps k
word-found [] k = refl
word-found (p ∷ ps) k = λ i. cond (same_key p.key k i) (Some p.value) (word-found ps k i)

pairs-climb : (ps : List Pair) → KeysAscend (pair_keys ps) → Climb (λ (p : Pair). p.key) (slice_cmp nat_cmp) ps
pairs-climb [] up = tt
pairs-climb (p ∷ ps) up = (All-back (λ (p : Pair). p.key) (IsBelow p.key) ps up.0, pairs-climb ps up.1)

pub one-kv : (ps qs : List Pair) → KeysAscend (pair_keys ps) → KeysAscend (pair_keys qs) → ((k : List ℕ) → word_in ps k ≡ word_in qs k) → ps ≡ qs
one-kv ps qs up to agree =
    one_list (λ (p : Pair). p.key) (λ (p : Pair). p.value) (slice_cmp nat_cmp) nat_list_cmp_total key_tied
    (λ p q keys values i. record { key = keys i; value = values i })
    ps qs (pairs-climb ps up) (pairs-climb qs to) (λ k. sym (word-found ps k) ∙ agree k ∙ word-found qs k)

-- ---- lists of numbers

numbers-found : (ts : List Times) (k : List ℕ) → numbers_in ts k ≡ found (λ (t : Times). t.key) (λ (t : Times). t.items) (slice_cmp nat_cmp) ts k
numbers-found [] k = refl
numbers-found (t ∷ ts) k = λ i. cond (same_key t.key k i) (Some t.items) (numbers-found ts k i)

times-climb : (ts : List Times) → KeysAscend (map (λ t. t.key) ts) → Climb (λ (t : Times). t.key) (slice_cmp nat_cmp) ts
times-climb [] up = tt
times-climb (t ∷ ts) up = (All-back (λ (t : Times). t.key) (IsBelow t.key) ts up.0, times-climb ts up.1)

pub one-ef : (ts us : List Times) → KeysAscend (map (λ t. t.key) ts) → KeysAscend (map (λ t. t.key) us) → ((k : List ℕ) → numbers_in ts k ≡ numbers_in us k) → ts ≡ us
one-ef ts us up to agree =
    one_list (λ (t : Times). t.key) (λ (t : Times). t.items) (slice_cmp nat_cmp) nat_list_cmp_total key_tied
    (λ t u keys items i. record { key = keys i; items = items i })
    ts us (times-climb ts up) (times-climb us to) (λ k. sym (numbers-found ts k) ∙ agree k ∙ numbers-found us k)

-- ---- rows

-- a key and a number
record Spot : Type 0 where
  key : List ℕ
  number : ℕ

abbrev spot_of : Before → Spot
spot_of b = record { key = b.key; number = b.tx }

spot_cmp : Spot → Spot → Ordering
spot_cmp p q = ordering_then (slice_cmp nat_cmp p.key q.key) (nat_cmp p.number q.number)

spot_total : IsTotalOrder spot_cmp
unfolding spot_cmp
spot_total = then_total (on_total (λ (p : Spot). p.key) nat_list_cmp_total) (on_total (λ (p : Spot). p.number) nat_cmp_total)

both-tied : (r s : Ordering) → ordering_then r s ≡ Equal → (r ≡ Equal) × (s ≡ Equal)
both-tied Less s is = cc
both-tied Equal s is = (refl, is)
both-tied Greater s is = cc

spot_tied : (p q : Spot) → spot_cmp p q ≡ Equal → p ≡ q
unfolding spot_cmp
spot_tied p q is =
    let both = both-tied (slice_cmp nat_cmp p.key q.key) (nat_cmp p.number q.number) is in
    λ i. record { key = key_tied p.key q.key both.0 i; number = nat_cmp-IsAntisymmetric p.number q.number both.1 i }

same_spot-by : (r s : Ordering) → is_eq (ordering_then r s) ≡ (is_eq r && is_eq s)
same_spot-by Less s = refl
same_spot-by Equal s = refl
same_spot-by Greater s = refl

same_number-by : (n m : ℕ) (t : Bool) (r : Ordering) → (n == m) ≡ t → nat_cmp n m ≡ r → t ≡ is_eq r
same_number-by n m true r is at =
    ap is_eq (sym (tied_itself nat_cmp_total n)) ∙ ap (λ x. is_eq (nat_cmp n x)) (eqb-true n m is) ∙ ap is_eq at
same_number-by n m false Less is at = refl
same_number-by n m false Equal is at = let wrong : true ≡ false = sym (eq-eqb n m (nat_cmp-IsAntisymmetric n m at)) ∙ is in cc
same_number-by n m false Greater is at = refl

same_spot : (p q : Spot) → (pointwise nat_eq p.key q.key && p.number == q.number) ≡ is_eq (spot_cmp p q)
unfolding spot_cmp
same_spot p q =
    (λ i. same_key p.key q.key i && same_number-by p.number q.number (p.number == q.number) (nat_cmp p.number q.number) refl refl i)
    ∙ sym (same_spot-by (slice_cmp nat_cmp p.key q.key) (nat_cmp p.number q.number))

before-found : (bs : List Before) (k : List ℕ) (n : ℕ) → before_in bs k n ≡ found spot_of (λ (b : Before). b.value) spot_cmp bs (record { key = k; number = n })
before-found [] k n = refl
before-found (b ∷ bs) k n = λ i. cond (same_spot (spot_of b) (record { key = k; number = n }) i) (Some b.value) (before-found bs k n i)

befores-climb : (bs : List Before) → AllPairs IsEarlier bs → Climb spot_of spot_cmp bs
unfolding spot_cmp
befores-climb [] up = tt
befores-climb (b ∷ bs) up = (
  λ i z below. up 0 (suc i) z (omega arith) (omega arith),
  befores-climb bs (λ i j d lt within. up (suc i) (suc j) d (omega arith) (omega arith)),
)

pub one-v : (bs ds : List Before) → AllPairs IsEarlier bs → AllPairs IsEarlier ds → ((k : List ℕ) (n : ℕ) → before_in bs k n ≡ before_in ds k n) → bs ≡ ds
one-v bs ds up to agree =
    one_list spot_of (λ (b : Before). b.value) spot_cmp spot_total spot_tied
    (λ b d spots values i. record { key = (spots i).key; tx = (spots i).number; value = values i })
    bs ds (befores-climb bs up) (befores-climb ds to) (λ p. sym (before-found bs p.key p.number) ∙ agree p.key p.number ∙ before-found ds p.key p.number)
