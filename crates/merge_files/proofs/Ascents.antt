-- Rows in their order.
use Rattle.std.proofs.Common.{AllPairs, ◌≡◌, ℕ, zero, suc, ◌+◌, ◌<◌, List, [], ◌∷◌, ◌++◌, map, drop, length, get_or, refl, arith, sym, ◌∙◌, ap, subst}
use Rattle.std.specs.Prelude.{All}
use Rattle.std.specs.Ordering.{nat_cmp, ordering_then, ordering_reverse}
use Rattle.std.specs.Cmp.{IsTotalOrder, then_total, on_total, nat_cmp_total}
use Rattle.std.specs.Cmp.Lexicographic.{slice_cmp, nat_list_cmp_total}
use Rattle.std.specs.FinMap.{nat_cmp-IsAntisymmetric, slice_cmp-IsAntisymmetric}
use Rattle.std.specs.declared.cmp.Ordering.{Ordering}
use Rattle.std.specs.declared.cmp.Ordering.TheVariants.{Less, Equal, Greater}
use Rattle.std.proofs.lemmas.List.Elements.{All-nil, All-cons, All-head, All-tail, All-push, All-weaker}
use Rattle.std.proofs.lemmas.List.Kept.{AllPairs-cons}
use Rattle.agg_model.specs.declared.contents.Before.{Before}
use Rattle.agg_model.specs.declared.contents.Pair.{Pair}
use Rattle.agg_model.specs.Pairs.{IsBelow, KeysAscend}
use Rattle.history_core.specs.Befores.{order_of, IsEarlier}
use Rattle.history_core.proofs.Orders.{earlier_chain}

-- a pair as a row, whose number is 0
abbrev pub pair_row : Pair → Before
pair_row p = record { key = p.key; tx = 0; value = p.value }

-- each row comes before all later ones, by key and then by number
abbrev pub Ascend : List Before → Type 0
Ascend [] = Unit {0}
Ascend (b ∷ bs) = All (IsEarlier b) bs × Ascend bs

row_order : IsTotalOrder (λ (b c : Before). order_of b.key b.tx c.key c.tx)
unfolding order_of
row_order =
    then_total (on_total (λ (b : Before). b.key) nat_list_cmp_total) (on_total (λ (b : Before). b.tx) nat_cmp_total)

-- of two rows the one or the other is earlier, or they have one place
pub turned : (b c : Before) → order_of b.key b.tx c.key c.tx ≡ Greater → IsEarlier c b
unfolding order_of
turned b c is = row_order.antisymm c b ∙ ap ordering_reverse is

both-tied : (r s : Ordering) → ordering_then r s ≡ Equal → (r ≡ Equal) × (s ≡ Equal)
both-tied Less s is = cc
both-tied Equal s is = (refl, is)
both-tied Greater s is = cc

pub one-place : (b c : Before) → order_of b.key b.tx c.key c.tx ≡ Equal → (b.key ≡ c.key) × (b.tx ≡ c.tx)
unfolding order_of
one-place b c is =
    let tied = both-tied (slice_cmp nat_cmp b.key c.key) (nat_cmp b.tx c.tx) is in
    (slice_cmp-IsAntisymmetric nat_cmp-IsAntisymmetric b.key c.key tied.0, nat_cmp-IsAntisymmetric b.tx c.tx tied.1)

-- ---- keys in order are rows in order

earlier-by : (r : Ordering) → ordering_then r (nat_cmp 0 0) ≡ Less → r ≡ Less
earlier-by Less is = refl
earlier-by Equal is = is
earlier-by Greater is = is

pub below-earlier : (k l v w : List ℕ) → IsBelow k l → IsEarlier (record { key = k; tx = 0; value = v }) (record { key = l; tx = 0; value = w })
unfolding order_of
below-earlier k l v w is = ap (λ r. ordering_then r (nat_cmp 0 0)) is

pub earlier-below : (k l v w : List ℕ) → IsEarlier (record { key = k; tx = 0; value = v }) (record { key = l; tx = 0; value = w }) → IsBelow k l
unfolding order_of
earlier-below k l v w is = earlier-by (slice_cmp nat_cmp k l) is

module _ {A : Type 0} (key value : A → List ℕ) where
  abbrev pub row_of : A → Before
  row_of x = record { key = key x; tx = 0; value = value x }

  all-rows : (k v : List ℕ) (xs : List A) → All (IsBelow k) (map key xs) → All (IsEarlier (record { key = k; tx = 0; value = v })) (map row_of xs)
  all-rows k v [] all = All-nil (IsEarlier (record { key = k; tx = 0; value = v }))
  all-rows k v (x ∷ xs) all =
      All-cons (IsEarlier (record { key = k; tx = 0; value = v })) (row_of x) (map row_of xs)
      (below-earlier k (key x) v (value x) (All-head (IsBelow k) (key x) (map key xs) all))
      (all-rows k v xs (All-tail (IsBelow k) (key x) (map key xs) all))

  pub rows-ascend : (xs : List A) → KeysAscend (map key xs) → Ascend (map row_of xs)
  rows-ascend [] up = tt
  rows-ascend (x ∷ xs) up = (all-rows (key x) (value x) xs up.0, rows-ascend xs up.1)
