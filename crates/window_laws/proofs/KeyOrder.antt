-- The order of keys, and what is left of ascending keys from one on.
use Rattle.std.specs.Prelude.{◌≡◌, ℕ, ◌≤◌, ◌==◌, ◌&&◌, ◌||◌, not, nat_eq, nat_lt, Bool, true, false, cond, List, [], ◌∷◌, ◌++◌, All, Option, Some, None, IfSome, refl}
use Rattle.std.proofs.Common.{sym, ◌∙◌, ap, arith, subst, le-ltb, get_or}
use Rattle.std.specs.List.{filter, list_any}
use Rattle.std.specs.Ordering.{nat_cmp, ordering_then, ordering_reverse, is_lt, is_eq}
use Rattle.std.specs.Cmp.Lexicographic.{nat_list_cmp_total}
use Rattle.std.specs.Cmp.Lexicographic.{pointwise, slice_cmp, bytes_decides, texts_ties}
use Rattle.std.specs.FinMap.{nat_cmp-IsAntisymmetric, slice_cmp-IsAntisymmetric}
use Rattle.std.specs.declared.cmp.Ordering.{Ordering}
use Rattle.std.specs.declared.cmp.Ordering.TheVariants.{Less, Equal, Greater}
use Rattle.std.proofs.lemmas.List.Folds.{list_any_none}
use Rattle.agg_model.specs.Listed.{is_from, is_under}
use Rattle.agg_model.specs.Pairs.{IsBelow, KeysAscend}
use Rattle.window_laws.specs.Pages.{behind_key, lesser, IsNext}

abbrev order : List ℕ → List ℕ → Ordering
order k l = slice_cmp nat_cmp k l

-- ---- the least key above one

behind-head : (xs : List ℕ) (t u : Bool) → t ≡ false → is_lt (ordering_then (cond t Less (cond u Equal Greater)) (order xs [])) ≡ false
behind-head [] true true is = cc
behind-head [] true false is = cc
behind-head [] false true is = refl
behind-head [] false false is = refl
behind-head (x ∷ xs) true u is = cc
behind-head (x ∷ xs) false true is = refl
behind-head (x ∷ xs) false false is = refl

behind-then : (r a b : Ordering) → is_lt a ≡ (is_lt b || is_eq b) → is_lt (ordering_then r a) ≡ (is_lt (ordering_then r b) || is_eq (ordering_then r b))
behind-then Less a b h = refl
behind-then Equal a b h = h
behind-then Greater a b h = refl

pub below_behind : (k m : List ℕ) → is_lt (order k (behind_key m)) ≡ (is_lt (order k m) || is_eq (order k m))
below_behind [] [] = refl
below_behind [] (y ∷ ys) = refl
below_behind (x ∷ xs) [] = behind-head xs (nat_lt x 0) (x == 0) (le-ltb x 0 (least x))
  where
    least : (n : ℕ) → 0 ≤ n
    least n = omega arith
below_behind (x ∷ xs) (y ∷ ys) = behind-then (nat_cmp x y) (order xs (behind_key ys)) (order xs ys) (below_behind xs ys)

-- every key is from the empty one on
pub from_empty : (k : List ℕ) → is_from (Some []) k ≡ true
from_empty [] = refl
from_empty (x ∷ xs) = refl

same_key : (k l : List ℕ) → pointwise nat_eq k l ≡ is_eq (order k l)
same_key k l = texts_ties k l

key_tied : (k l : List ℕ) → order k l ≡ Equal → k ≡ l
key_tied k l h = slice_cmp-IsAntisymmetric nat_cmp-IsAntisymmetric k l h

-- ---- ascending keys from one on: it, and those behind it

module _ (m : List ℕ) (g : List ℕ → Bool) where
  abbrev from_here : List ℕ → Bool
  from_here k = is_from (Some m) k && g k

  abbrev from_behind : List ℕ → Bool
  from_behind k = is_from (Some (behind_key m)) k && g k

  abbrev is_here : List ℕ → Bool
  is_here k = pointwise nat_eq k m

  other-by : (k l : List ℕ) (t : Bool) → pointwise nat_eq l m ≡ t → IsBelow k l → (order k m ≡ Less → ⊥) → t ≡ false
  other-by k l true is below none = absurd (none (subst (IsBelow k) ((bytes_decides l m).0 is) below))
  other-by k l false is below none = refl

  -- behind a key that isn't below it, it doesn't stand
  gone : (k : List ℕ) (ks : List (List ℕ)) → All (IsBelow k) ks → (order k m ≡ Less → ⊥) → list_any is_here ks ≡ false
  gone k ks above none = list_any_none is_here ks (λ i z below. other-by k _ (pointwise nat_eq (get_or ks i z) m) refl (above i z below) none)

  outside : (t : Bool) (ks : List (List ℕ)) → cond t (m ∷ ks) ks ≡ cond t (m ∷ []) [] ++ ks
  outside true ks = refl
  outside false ks = refl

  split-by : (k : List ℕ) (ks : List (List ℕ)) (r : Ordering) → order k m ≡ r → All (IsBelow k) ks
      → filter from_here ks ≡ cond (list_any is_here ks && g m) (m ∷ []) [] ++ filter from_behind ks
      → cond (from_here k) (k ∷ filter from_here ks) (filter from_here ks)
      ≡ cond ((is_here k || list_any is_here ks) && g m) (m ∷ []) [] ++ cond (from_behind k) (k ∷ filter from_behind ks) (filter from_behind ks)
  split-by k ks Less is above rest =
      let one : is_from (Some m) k ≡ false = ap (λ r. not (is_lt r)) is in
      let two : is_from (Some (behind_key m)) k ≡ false = ap not (below_behind k m ∙ ap (λ r. is_lt r || is_eq r) is) in
      let three : is_here k ≡ false = same_key k m ∙ ap is_eq is in
      (λ i. cond (one i && g k) (k ∷ filter from_here ks) (filter from_here ks))
      ∙ rest
      ∙ (λ i. cond ((sym three i || list_any is_here ks) && g m) (m ∷ []) [] ++ cond (sym two i && g k) (k ∷ filter from_behind ks) (filter from_behind ks))
  split-by k ks Equal is above rest =
      let one : is_from (Some m) k ≡ true = ap (λ r. not (is_lt r)) is in
      let two : is_from (Some (behind_key m)) k ≡ false = ap not (below_behind k m ∙ ap (λ r. is_lt r || is_eq r) is) in
      let three : is_here k ≡ true = same_key k m ∙ ap is_eq is in
      let same : k ≡ m = key_tied k m is in
      let none = gone k ks above (λ less. no (sym is ∙ less)) in
      let later : filter from_here ks ≡ filter from_behind ks = rest ∙ ap (λ t. cond (t && g m) (m ∷ []) [] ++ filter from_behind ks) none in
      (λ i. cond (one i && g k) (k ∷ filter from_here ks) (filter from_here ks))
      ∙ (λ i. cond (g (same i)) (same i ∷ later i) (later i))
      ∙ outside (g m) (filter from_behind ks)
      ∙ (λ i. cond ((sym three i || list_any is_here ks) && g m) (m ∷ []) [] ++ cond (sym two i && g k) (k ∷ filter from_behind ks) (filter from_behind ks))
    where
      no : Equal ≡ Less → ⊥
      no h = cc
  split-by k ks Greater is above rest =
      let one : is_from (Some m) k ≡ true = ap (λ r. not (is_lt r)) is in
      let two : is_from (Some (behind_key m)) k ≡ true = ap not (below_behind k m ∙ ap (λ r. is_lt r || is_eq r) is) in
      let three : is_here k ≡ false = same_key k m ∙ ap is_eq is in
      let none = gone k ks above (λ less. no (sym is ∙ less)) in
      let later : filter from_here ks ≡ filter from_behind ks = rest ∙ ap (λ t. cond (t && g m) (m ∷ []) [] ++ filter from_behind ks) none in
      (λ i. cond (one i && g k) (k ∷ later i) (later i))
      ∙ (λ i. cond ((sym three i || sym none i) && g m) (m ∷ []) [] ++ cond (sym two i && g k) (k ∷ filter from_behind ks) (filter from_behind ks))
    where
      no : Greater ≡ Less → ⊥
      no h = cc

  pub split : (ks : List (List ℕ)) → KeysAscend ks → filter from_here ks ≡ cond (list_any is_here ks && g m) (m ∷ []) [] ++ filter from_behind ks
  split [] up = refl
  split (k ∷ ks) up = split-by k ks (order k m) refl up.0 (split ks up.1)

-- ---- the order of bounds

-- what isn't below one key, which isn't below another, isn't below that
pub from_chain : (k l m : List ℕ) → is_from (Some l) k ≡ true → is_from (Some m) l ≡ true → is_from (Some m) k ≡ true
from_chain k l m high low = by (order k m) (order l m) refl refl
  where
    wrong : {r : Ordering} {A : Type 0} → r ≡ Less → not (is_lt r) ≡ true → A
    wrong e h = let bad = sym (ap (λ r. not (is_lt r)) e) ∙ h in cc

    by : (r s : Ordering) → order k m ≡ r → order l m ≡ s → is_from (Some m) k ≡ true
    by Equal s e f = ap (λ r. not (is_lt r)) e
    by Greater s e f = ap (λ r. not (is_lt r)) e
    by Less Less e f = wrong f low
    by Less Equal e f = wrong (ap (order k) (key_tied l m f) ∙ e) high
    by Less Greater e f = wrong (nat_list_cmp_total.trans k m l e (nat_list_cmp_total.antisymm m l ∙ ap ordering_reverse f)) high

not_under : (k m : List ℕ) → is_under (Some m) k ≡ not (is_from (Some m) k)
not_under k m = by (order k m)
  where
    by : (r : Ordering) → is_lt r ≡ not (not (is_lt r))
    by Less = refl
    by Equal = refl
    by Greater = refl

pub under_or_from : (k m : List ℕ) → is_from (Some m) k ≡ false → is_under (Some m) k ≡ true
under_or_from k m is = not_under k m ∙ ap not is

pub from_not_under : (k m : List ℕ) → is_from (Some m) k ≡ true → is_under (Some m) k ≡ false
from_not_under k m is = not_under k m ∙ ap not is

-- what isn't below a key that isn't under a bound isn't under it
pub not_under_chain : (to : Option (List ℕ)) (k m : List ℕ) → is_from (Some m) k ≡ true → is_under to m ≡ false → is_under to k ≡ false
not_under_chain None k m from not_under = not_under
not_under_chain (Some t) k m from over =
    from_not_under k t (from_chain k m t from (turn (is_from (Some t) m) (sym (not_under m t) ∙ over)))
  where
    turn : (t : Bool) → not t ≡ false → t ≡ true
    turn true h = refl
    turn false h = cc

-- ---- the next of two

lesser-from : (first k l : List ℕ) (t : Bool) → is_from (Some first) k ≡ true → is_from (Some first) l ≡ true → IfSome (cond t (Some l) (Some k)) (λ m. is_from (Some first) m ≡ true)
lesser-from first k l true one two = two
lesser-from first k l false one two = one

under-both : (k l x : List ℕ) (t : Bool) → is_lt (order l k) ≡ t → is_under (cond t (Some l) (Some k)) x ≡ true → (is_under (Some k) x ≡ true) × (is_under (Some l) x ≡ true)
under-both k l x true is h =
    (nat_list_cmp_total_lt x l k h is, h)
  where
    less : (r : Ordering) → is_lt r ≡ true → r ≡ Less
    less Less h = refl
    less Equal h = cc
    less Greater h = cc

    nat_list_cmp_total_lt : (x l k : List ℕ) → is_lt (order x l) ≡ true → is_lt (order l k) ≡ true → is_lt (order x k) ≡ true
    nat_list_cmp_total_lt x l k h g = ap is_lt (nat_list_cmp_total.trans x l k (less (order x l) h) (less (order l k) g))
under-both k l x false is h =
    (h, under_or_from x l (turn (is_from (Some l) x) refl))
  where
    turn : (t : Bool) → is_from (Some l) x ≡ t → t ≡ false
    turn true from =
        let high = from_chain x l k from (ap not is) in
        let low = sym h ∙ from_not_under x k high in
        cc
    turn false from = refl

append-none : {A : Type 0} (xs ys : List A) → xs ≡ [] → ys ≡ [] → xs ++ ys ≡ []
append-none xs ys one two = (λ i. one i ++ two i)

-- the lesser of the next keys of two is the next of both
pub next_both : (ns ms : List ℕ → List ℕ) (first : List ℕ) (o p : Option (List ℕ)) → IsNext ns first o → IsNext ms first p → IsNext (λ k. ns k ++ ms k) first (lesser o p)
next_both ns ms first None None one two = record { from = tt; passed = λ k from under. append-none (ns k) (ms k) (one.passed k from under) (two.passed k from under) }
next_both ns ms first None (Some l) one two = record { from = two.from; passed = λ k from under. append-none (ns k) (ms k) (one.passed k from refl) (two.passed k from under) }
next_both ns ms first (Some k) None one two = record { from = one.from; passed = λ x from under. append-none (ns x) (ms x) (one.passed x from under) (two.passed x from refl) }
next_both ns ms first (Some k) (Some l) one two = record {
  from = lesser-from first k l (is_lt (order l k)) one.from two.from;
  passed = λ x from under.
      let both = under-both k l x (is_lt (order l k)) refl under in
      append-none (ns x) (ms x) (one.passed x from both.0) (two.passed x from both.1);
}
