-- Cursors that move forward stand where they would if they began there, and those of a key's groups stand at it.
use Rattle.std.proofs.Common.{◌≡◌, ℕ, zero, suc, ◌+◌, ◌<◌, Bool, true, false, cond, List, [], ◌∷◌, ◌++◌, length, get_or, set, take, drop, map, Option, Some, None, refl, sym, ap, subst, ◌∙◌, arith, add-one}
use Rattle.std.specs.Prelude.{All, nat_eq, not, slice_get, IfSome}
use Rattle.std.specs.Ordering.{is_lt, ordering_reverse}
use Rattle.std.specs.Cmp.Lexicographic.{pointwise, bytes_decides, nat_list_cmp_total}
use Rattle.std.specs.declared.cmp.Ordering.{Ordering}
use Rattle.std.specs.declared.cmp.Ordering.TheVariants.{Less, Equal, Greater}
use Rattle.agg_model.specs.declared.contents.Times.{Times}
use Rattle.agg_model.specs.Listed.{is_from}
use Rattle.agg_model.specs.Pairs.{IsBelow, KeysAscend}
use Rattle.collate_step.specs.Groups.{GroupFiles}
use Rattle.hashed_words.specs.Hashed.{IsPairAt}
use Rattle.inverted_index.specs.EfFile.{list_keys, words_of, numbers_of}
use Rattle.recsplit_index.specs.Keys.{IsKeyAt}
use Rattle.window_laws.specs.Pages.{lesser}
use Rattle.window_laws.proofs.KeyOrder.{from_chain}
use Rattle.window_pages.specs.Places.{Place, next_from, next_moved, place_from, places_from, moved, least_next, is_at, IsPlaced}
use Rattle.window_pages.specs.Standing.{IsNotAbove, IsLeast}
use Rattle.window_pages.specs.Starts.{key_in}
use Rattle.window_pages.proofs.KeyWalks.{order, none-of, told-so, key-at-pair, pair-within}

told-key : (k l : List ℕ) → Some k ≡ Some l → k ≡ l
told-key k l h = cc

-- ---- the order of keys

not-itself : (r : Ordering) → r ≡ ordering_reverse r → not (is_lt r) ≡ true
not-itself Less h = cc
not-itself Equal h = refl
not-itself Greater h = refl

pub from-itself : (k : List ℕ) → is_from (Some k) k ≡ true
from-itself k = not-itself (order k k) (nat_list_cmp_total.antisymm k k)

turned-low : (r s : Ordering) → is_lt r ≡ true → s ≡ ordering_reverse r → not (is_lt s) ≡ true
turned-low Less s h is = ap (λ o. not (is_lt o)) is
turned-low Equal s h is = cc
turned-low Greater s h is = cc

-- a key isn't below one that is below it
pub above-from : (l m : List ℕ) → is_lt (order l m) ≡ true → is_from (Some l) m ≡ true
above-from l m h = turned-low (order l m) (order m l) h (nat_list_cmp_total.antisymm m l)

-- ---- from one key to one that isn't below it

module _ (before first : List ℕ) (on : is_from (Some before) first ≡ true) where
  lower-by : (k : List ℕ) (v : Bool) → is_from (Some first) k ≡ v → is_from (Some before) k ≡ false → v ≡ false
  lower-by k true high low = let bad = sym low ∙ from_chain k first before high on in cc
  lower-by k false high low = refl

  lower : (k : List ℕ) → is_from (Some before) k ≡ false → is_from (Some first) k ≡ false
  lower k low = lower-by k (is_from (Some first) k) refl low

  none-by : (u v : Bool) (k : List ℕ) (r s : Option (List ℕ)) → (u ≡ false → v ≡ false) → (r ≡ None → s ≡ None) → cond u (Some k) r ≡ None → cond v (Some k) s ≡ None
  none-by true v k r s low rest h = cc
  none-by false v k r s low rest h = (λ i. cond (low refl i) (Some k) s) ∙ rest h

  stays-none : (ts : List Times) → next_from before ts ≡ None → next_from first ts ≡ None
  stays-none [] h = refl
  stays-none (t ∷ ts) h =
      none-by (is_from (Some before) t.key) (is_from (Some first) t.key) t.key (next_from before ts) (next_from first ts) (lower t.key) (stays-none ts) h

  some-by : (u v : Bool) (l k : List ℕ) (r s : Option (List ℕ)) → (u ≡ false → v ≡ false) → (r ≡ Some k → s ≡ Some k) → (l ≡ k → v ≡ true) → cond u (Some l) r ≡ Some k → cond v (Some l) s ≡ Some k
  some-by true v l k r s low rest high h = (λ i. cond (high (told-key l k h) i) (Some l) s) ∙ h
  some-by false v l k r s low rest high h = (λ i. cond (low refl i) (Some l) s) ∙ rest h

  stays-some : (ts : List Times) (k : List ℕ) → is_from (Some first) k ≡ true → next_from before ts ≡ Some k → next_from first ts ≡ Some k
  stays-some [] k high h = cc
  stays-some (t ∷ ts) k high h =
      some-by (is_from (Some before) t.key) (is_from (Some first) t.key) t.key k (next_from before ts) (next_from first ts) (lower t.key) (stays-some ts k high)
      (λ is. ap (is_from (Some first)) is ∙ high) h

  moved-by : (ts : List Times) (k : List ℕ) (t : Bool) → is_from (Some first) k ≡ t → next_from before ts ≡ Some k → cond t (Some k) (next_from first ts) ≡ next_from first ts
  moved-by ts k true high h = sym (stays-some ts k high h)
  moved-by ts k false high h = refl

  moved-at : (ts : List Times) (o : Option (List ℕ)) → next_from before ts ≡ o → next_moved first ts o ≡ next_from first ts
  moved-at ts None h = sym (stays-none ts h)
  moved-at ts (Some k) h = moved-by ts k (is_from (Some first) k) refl h

  place : GroupFiles → Option (List ℕ) → Place
  place g o = record { group = g; next = o }

  pub places-stay : (groups : List GroupFiles) → map (moved first) (places_from before groups) ≡ places_from first groups
  places-stay [] = refl
  places-stay (g ∷ gs) =
      λ i. record { group = g; next = moved-at g.ef.lists (next_from before g.ef.lists) refl i } ∷ places-stay gs i

-- ---- no next key is below the least

lesser-by : (k l m : List ℕ) (t : Bool) → is_lt (order l m) ≡ t → IsNotAbove k (cond t (Some l) (Some m)) → IsNotAbove k (Some m) × IsNotAbove k (Some l)
lesser-by k l m true low h = (from_chain m l k (above-from l m low) h, h)
lesser-by k l m false low h = (h, from_chain l m k (ap not low) h)

lesser-both : (k : List ℕ) (o p : Option (List ℕ)) → IsNotAbove k (lesser o p) → IsNotAbove k o × IsNotAbove k p
lesser-both k None p h = (tt, h)
lesser-both k (Some m) None h = (h, tt)
lesser-both k (Some m) (Some l) h = lesser-by k l m (is_lt (order l m)) refl h

all-least : (k : List ℕ) (ps : List Place) → IsNotAbove k (least_next ps) → IsLeast k ps
all-least k [] h = tt
all-least k (p ∷ ps) h = let both = lesser-both k p.next (least_next ps) h in (both.0, all-least k ps both.1)

pub is-least : (ps : List Place) (o : Option (List ℕ)) (k : List ℕ) → Some k ≡ lesser (least_next ps) o → IsLeast k ps
is-least ps o k is = all-least k ps (lesser-both k (least_next ps) o (subst (IsNotAbove k) is (from-itself k))).0

pub least-of : (ps : List Place) (o q : Option (List ℕ)) → q ≡ lesser (least_next ps) o → IfSome q (λ k. IsLeast k ps)
least-of ps o None is = tt
least-of ps o (Some k) is = is-least ps o k is

-- ---- the numbers of a key are those of the groups that stand at it

module _ (first k : List ℕ) (from : is_from (Some first) k ≡ true) where
  keys-count : (ts : List Times) → length (list_keys ts) ≡ length ts
  keys-count [] = refl
  keys-count (t ∷ ts) = ap suc (keys-count ts)

  -- behind a key that isn't below it, it doesn't stand
  gone-at : (l m : List ℕ) → IsBelow l m → m ≡ k → is_from (Some k) l ≡ true → ⊥
  gone-at l m below same high =
      let bad : not (is_lt Less) ≡ true = ap (λ r. not (is_lt r)) (sym below ∙ ap (order l) same) ∙ high in
      absurd cc

  gone : (t : Times) (ts : List Times) → All (IsBelow t.key) (list_keys ts) → is_from (Some k) t.key ≡ true → numbers_of ts k ≡ None
  gone t ts above high = none-of ts k (λ p below same. gone-at t.key (key_in ts p) (above p [] (subst (λ n. p < n) (sym (keys-count ts)) below)) same high)

  other : (l : List ℕ) → is_from (Some first) l ≡ false → pointwise nat_eq l k ≡ true → ⊥
  other l low same =
      let bad = sym low ∙ ap (is_from (Some first)) ((bytes_decides l k).0 same) ∙ from in
      absurd cc

  found-by : (t : Times) (ts : List Times) (u v : Bool) → is_from (Some first) t.key ≡ u → pointwise nat_eq t.key k ≡ v → All (IsBelow t.key) (list_keys ts)
      → (IsNotAbove k (next_from first ts) → cond (is_at (next_from first ts) k) (numbers_of ts k) None ≡ numbers_of ts k) → IsNotAbove k (cond u (Some t.key) (next_from first ts))
      → cond (is_at (cond u (Some t.key) (next_from first ts)) k) (cond v (Some t.items) (numbers_of ts k)) None ≡ cond v (Some t.items) (numbers_of ts k)
  found-by t ts true true is same above rest low = λ i. cond (same i) (Some t.items) None
  found-by t ts true false is same above rest low = (λ i. cond (same i) (numbers_of ts k) None) ∙ sym (gone t ts above low)
  found-by t ts false true is same above rest low = absurd (other t.key is same)
  found-by t ts false false is same above rest low = rest low

  numbers-found : (ts : List Times) → KeysAscend (list_keys ts) → IsNotAbove k (next_from first ts) → cond (is_at (next_from first ts) k) (numbers_of ts k) None ≡ numbers_of ts k
  numbers-found [] up low = refl
  numbers-found (t ∷ ts) up low = found-by t ts (is_from (Some first) t.key) (pointwise nat_eq t.key k) refl refl up.0 (numbers-found ts up.1) low

  pub numbers-at : (ts : List Times) → KeysAscend (list_keys ts) → IsNotAbove k (next_from first ts) → cond (is_at (next_from first ts) k) (numbers_of ts k) None ≡ numbers_of ts k
  numbers-at = numbers-found

-- ---- one after the other in place

over-at : {X : Type 0} (f : X → X) (xs : List X) (i : ℕ) (d : X) → i < length xs → get_or (map f (take i xs) ++ drop i xs) i d ≡ get_or xs i d
over-at f [] i d lt = absurd (omega arith)
over-at f (x ∷ xs) zero d lt = refl
over-at f (x ∷ xs) (suc i) d lt = over-at f xs i d (omega arith)

over-more-at : {X : Type 0} (f : X → X) (xs : List X) (i : ℕ) (d : X) → i < length xs → set (map f (take i xs) ++ drop i xs) i (f (get_or xs i d)) ≡ map f (take (suc i) xs) ++ drop (suc i) xs
over-more-at f [] i d lt = absurd (omega arith)
over-more-at f (x ∷ xs) zero d lt = refl
over-more-at f (x ∷ xs) (suc i) d lt = ap (λ l. f x ∷ l) (over-more-at f xs i d (omega arith))

pub over-more : {X : Type 0} (f : X → X) (xs ys : List X) (i : ℕ) (d a : X) → ys ≡ map f (take i xs) ++ drop i xs → i < length xs → a ≡ f (get_or ys i d) → set ys i a ≡ map f (take (i + 1) xs) ++ drop (i + 1) xs
over-more f xs ys i d a is lt same =
    let at : a ≡ f (get_or xs i d) = same ∙ ap f (ap (λ l. get_or l i d) is ∙ over-at f xs i d lt) in
    let done : set ys i a ≡ map f (take (suc i) xs) ++ drop (suc i) xs = (λ k. set (is k) i (at k)) ∙ over-more-at f xs i d lt in
    rw add-one done

-- ---- the numbers of the pair that a cursor stands at

at-place-by : (lists : List Times) (l k : List ℕ) (at : ℕ) → l ≡ k → IsKeyAt (words_of lists) l at → IsKeyAt (words_of lists) k at
at-place-by lists l k at same is = subst (λ m. IsKeyAt (words_of lists) m at) same is

pub at-place : (lists : List Times) (next : Option (List ℕ)) (at : ℕ) (k : List ℕ) → IsPlaced lists next at → is_at next k ≡ true → IsKeyAt (words_of lists) k at
at-place lists None at k is here = cc
at-place lists (Some l) at k is here = at-place-by lists l k at ((bytes_decides l k).0 here) is

unlike-by : (l m : List ℕ) (v : Bool) → pointwise nat_eq l m ≡ v → IsBelow l m → v ≡ false
unlike-by l m true same below =
    let bad : not (is_lt Less) ≡ true = ap (λ r. not (is_lt r)) (sym below ∙ ap (λ x. order x m) ((bytes_decides l m).0 same)) ∙ from-itself m in
    cc
unlike-by l m false same below = refl

long-keys : (ts : List Times) → length (list_keys ts) ≡ length ts
long-keys [] = refl
long-keys (t ∷ ts) = ap suc (long-keys ts)

key-there : (us : List Times) (place : ℕ) (key items : List ℕ) → slice_get us place ≡ Some (record { key = key; items = items }) → key_in us place ≡ key
key-there [] zero key items h = absurd cc
key-there [] (suc place) key items h = absurd cc
key-there (u ∷ us) zero key items h = ap (λ (t : Times). t.key) (told-so u (record { key = key; items = items }) h)
key-there (u ∷ us) (suc place) key items h = key-there us place key items h

numbers-there : (ts : List Times) → KeysAscend (list_keys ts) → (place : ℕ) → place < length ts → (key items : List ℕ) → slice_get ts place ≡ Some (record { key = key; items = items }) → numbers_of ts key ≡ Some items
numbers-there [] up zero within key items h = absurd cc
numbers-there [] up (suc place) within key items h = absurd cc
numbers-there (t ∷ ts) up zero within key items h =
    let same = told-so t (record { key = key; items = items }) h in
    (λ i. cond ((bytes_decides t.key key).1 (ap (λ (u : Times). u.key) same) i) (Some (same i).items) (numbers_of ts key))
numbers-there (t ∷ ts) up (suc place) within key items h =
    let inside : place < length (list_keys ts) = omega (arith, within, long-keys ts) in
    let below : IsBelow t.key key = subst (IsBelow t.key) (key-there ts place key items h) (up.0 place [] inside) in
    (λ i. cond (unlike-by t.key key (pointwise nat_eq t.key key) refl below i) (Some t.items) (numbers_of ts key))
    ∙ numbers-there ts up.1 place (omega (arith, within)) key items h

pub stands-numbers : (p : Place) (lists : List Times) (at : ℕ) (k key items : List ℕ) → lists ≡ p.group.ef.lists → KeysAscend (list_keys lists) → is_at p.next k ≡ true → IsKeyAt (words_of lists) k at
    → ((place : ℕ) → IsPairAt (words_of lists) at place → slice_get lists place ≡ Some (record { key = key; items = items })) → Some items ≡ cond (is_at p.next k) (numbers_of p.group.ef.lists k) None
stands-numbers p lists at k key items lists_are up here is pair =
    let there : IsPairAt (words_of lists) at is.place = record { within = is.within; offset = is.offset_is } in
    let got = pair is.place there in
    let same : k ≡ key = sym is.key_is ∙ key-at-pair lists is.place ∙ key-there lists is.place key items got in
    let found = numbers-there lists up is.place (pair-within lists at is.place there) key items got in
    sym ((λ i. cond (here i) (numbers_of (sym lists_are i) (same i)) None) ∙ found)
