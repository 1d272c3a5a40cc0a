-- How the rows of a listed read go from key to key.
use Rattle.std.specs.Prelude.{◌≡◌, ℕ, ◌*◌, ◌≤◌, ◌<◌, ◌==◌, ◌&&◌, not, nat_eq, nat_le, nat_lt, Bool, true, false, cond, List, [], ◌∷◌, ◌++◌, length, map, All, Option, Some, None, IfSome, is_some, slice_get, refl}
use Rattle.std.proofs.Common.{sym, ◌∙◌, ap, arith, subst, get_or}
use Rattle.std.specs.Option.{option_and_then}
use Rattle.std.specs.List.{filter, list_any}
use Rattle.std.specs.Ordering.{nat_cmp, is_lt}
use Rattle.std.specs.Cmp.{first_so, second_so, tied_itself}
use Rattle.std.specs.Cmp.Lexicographic.{pointwise, slice_cmp, bytes_decides, nat_list_cmp_total}
use Rattle.std.proofs.lemmas.List.Elements.{All-head, All-tail, filter_passes}
use Rattle.std.proofs.lemmas.List.Folds.{list_any_at}
use Rattle.agg_model.specs.declared.entity.Entity.{Entity}
use Rattle.agg_model.specs.declared.change.Change.{Change}
use Rattle.agg_model.specs.declared.page.PageRow.{PageRow}
use Rattle.agg_model.specs.Entity.{entity_number}
use Rattle.agg_model.specs.Place.{is_of}
use Rattle.agg_model.specs.Batch.{AscendFrom}
use Rattle.agg_model.specs.Arranged.{arranged}
use Rattle.agg_model.specs.ChangeList.{value_at, value_of, last_change}
use Rattle.agg_model.specs.Contents.{is_within, is_of_within, keys_of, changes_over, times}
use Rattle.agg_model.specs.Listed.{is_from, is_under, keys_within, page_row, range, history}
use Rattle.agg_model.specs.Pairs.{KeysAscend, hot_change, value_over}
use Rattle.agg_model.proofs.ArrangedLaws.{arranged-IsInOrder, arranged-IsPermutation}
use Rattle.agg_model.proofs.GrownLaws.{none_late}
use Rattle.std.proofs.lemmas.List.Sorted.{All-permutation}
use Rattle.agg_model.proofs.ContentsLaws.{KeysRise, IsInOrder-KeysRise, keys_of-ascend, changes_over-KeysRise, filter-none, filter-arranged, is_within-true}
use Rattle.agg_model.proofs.CoverageLaws.{any_changed, value_at-split}
use Rattle.hot_keeper.specs.Windows.{is_in_window, window_keys}
use Rattle.window_laws.specs.Parts.{changes_from}
use Rattle.window_laws.specs.Pages.{IsNext, behind_key, row_with, row_at}
use Rattle.window_laws.proofs.Sorted.{filter-twice, filter-agree}
use Rattle.window_laws.proofs.Values.{hot-nothing, times-nothing}
use Rattle.window_laws.proofs.KeyOrder.{split, from_chain, from_empty, under_or_from, not_under_chain}

-- ---- lists

filter-same : {A : Type 0} (p q : A → Bool) (xs : List A) → All (λ x. p x ≡ q x) xs → filter p xs ≡ filter q xs
filter-same p q [] same = refl
filter-same p q (x ∷ xs) same =
    λ i. cond (All-head (λ x. p x ≡ q x) x xs same i) (x ∷ filter-same p q xs (All-tail (λ x. p x ≡ q x) x xs same) i) (filter-same p q xs (All-tail (λ x. p x ≡ q x) x xs same) i)

filter-nil : {A : Type 0} (p : A → Bool) (xs : List A) → All (λ x. p x ≡ false) xs → filter p xs ≡ []
filter-nil p [] none = refl
filter-nil p (x ∷ xs) none =
    λ i. cond (All-head (λ x. p x ≡ false) x xs none i) (x ∷ filter-nil p xs (All-tail (λ x. p x ≡ false) x xs none) i) (filter-nil p xs (All-tail (λ x. p x ≡ false) x xs none) i)

map-outside : {A B : Type 0} (f : A → B) (m : A) (t : Bool) (xs : List A) → map f (cond t (m ∷ []) [] ++ xs) ≡ cond t (f m ∷ []) [] ++ map f xs
map-outside f m true xs = refl
map-outside f m false xs = refl

-- ---- the keys that changed

module _ (cs : List Change) (e : Entity) (a b : ℕ) where
  abbrev keys : List (List ℕ)
  keys = keys_within cs e a b

  any-changed : (k : List ℕ) → list_any (λ l. pointwise nat_eq l k) keys ≡ is_some (hot_change cs e k a b)
  unfolding keys_within changes_over
  any-changed k =
      subst (λ x. list_any (λ l. pointwise nat_eq l k) (keys_of (arranged (filter (is_within e x b) cs))) ≡ is_some (hot_change cs e k x b)) (once a)
      (subst (λ y. list_any (λ l. pointwise nat_eq l k) (keys_of (arranged (filter (is_within e (a * 1) y) cs))) ≡ is_some (hot_change cs e k (a * 1) y)) (once b)
      (any_changed k 1 cs e a b))
    where
      once : (n : ℕ) → n * 1 ≡ n
      once n = omega arith

  keys-ascend : KeysAscend keys
  unfolding keys_within changes_over
  keys-ascend =
      keys_of-ascend (arranged (filter (is_within e a b) cs))
      (subst (λ x. KeysRise (arranged (filter (is_within e x b) cs))) (once a)
      (subst (λ y. KeysRise (arranged (filter (is_within e (a * 1) y) cs))) (once b) (changes_over-KeysRise 1 cs e a b)))
    where
      once : (n : ℕ) → n * 1 ≡ n
      once n = omega arith

  -- each of them has numbers
  member : (i : ℕ) (z : List ℕ) → i < length keys → times cs e (get_or keys i z) a b ≡ [] → ⊥
  member i z below none =
      let k = get_or keys i z in
      let here = list_any_at (λ l. pointwise nat_eq l k) keys i z below ((bytes_decides k k).1 refl) in
      wrong (sym here ∙ any-changed k ∙ ap is_some (hot-nothing cs e k a b none))
    where
      wrong : true ≡ false → ⊥
      wrong h = cc

  module _ (first : List ℕ) (g : List ℕ → Bool) where
    abbrev from_first : List ℕ → Bool
    from_first k = is_from (Some first) k && g k

    none-by : (k : List ℕ) (t : Bool) → is_from (Some first) k ≡ t → (is_from (Some first) k ≡ true → ⊥) → (t && g k) ≡ false
    none-by k true is none = absurd (none is)
    none-by k false is none = refl

    -- where there is no next key, none is left
    left-none : IsNext (λ k. times cs e k a b) first None → filter from_first keys ≡ []
    left-none next =
        filter-nil from_first keys
        (λ i z below. none-by (get_or keys i z) (is_from (Some first) (get_or keys i z)) refl (λ from. member i z below (next.passed (get_or keys i z) from refl)))

    same-by : (m k : List ℕ) (t u : Bool) → is_from (Some first) k ≡ t → is_from (Some m) k ≡ u → is_from (Some first) m ≡ true → (is_from (Some first) k ≡ true → is_under (Some m) k ≡ true → ⊥) → (t && g k) ≡ (u && g k)
    same-by m k true true e f low none = refl
    same-by m k true false e f low none = absurd (none e (under_or_from k m f))
    same-by m k false true e f low none = let wrong = sym e ∙ from_chain k m first f low in cc
    same-by m k false false e f low none = refl

    at-by : (hot : Option Change) (t u : Bool) → t ≡ is_some hot → (hot ≡ None → u ≡ false) → (t && u) ≡ u
    at-by None true u is none = cc
    at-by None false u is none = sym (none refl)
    at-by (Some c) true u is none = refl
    at-by (Some c) false u is none = cc

    left-same : (m : List ℕ) → IsNext (λ k. times cs e k a b) first (Some m) → filter from_first keys ≡ filter (λ k. is_from (Some m) k && g k) keys
    left-same m next =
        filter-same from_first (λ k. is_from (Some m) k && g k) keys
        (λ i z below. same-by m (get_or keys i z) (is_from (Some first) (get_or keys i z)) (is_from (Some m) (get_or keys i z)) refl refl next.from
        (λ from under. member i z below (next.passed (get_or keys i z) from under)))

    -- from the next key on: that one, where it passes, and those behind it
    left-some : (m : List ℕ) → IsNext (λ k. times cs e k a b) first (Some m) → (hot_change cs e m a b ≡ None → g m ≡ false)
        → filter from_first keys ≡ cond (g m) (m ∷ []) [] ++ filter (λ k. is_from (Some (behind_key m)) k && g k) keys
    left-some m next none =
        left-same m next
        ∙ split m g keys keys-ascend
        ∙ ap (λ t. cond t (m ∷ []) [] ++ filter (λ k. is_from (Some (behind_key m)) k && g k) keys)
        (at-by (hot_change cs e m a b) (list_any (λ l. pointwise nat_eq l m) keys) (g m) (any-changed m) none)

-- ---- range

module _ (cs : List Change) (e : Entity) (n : ℕ) (to : Option (List ℕ)) where
  abbrev has_place : List ℕ → Bool
  has_place k = is_under to k && is_some (value_at cs e k n)

  value-none : (k : List ℕ) → AscendFrom 0 cs → hot_change cs e k 0 n ≡ None → value_at cs e k n ≡ None
  unfolding value_at last_change
  value-none k up none =
      value_at-split cs e k 0 n (least n) up ∙ ap (value_over (value_at cs e k 0)) none ∙ start (value_at cs e k 0) (at_start k)
    where
      least : (n : ℕ) → 0 ≤ n
      least n = omega arith

      at_start : (k : List ℕ) → value_at cs e k 0 ≡ None
      at_start k = ap (option_and_then value_of) (none_late e k 0 cs (λ i z below. least _))

      start : (o : Option (List ℕ)) → o ≡ None → o ≡ None
      start o is = is

  place-none : (k : List ℕ) (t : Bool) → AscendFrom 0 cs → hot_change cs e k 0 n ≡ None → (t && is_some (value_at cs e k n)) ≡ false
  place-none k true up none = ap is_some (value-none k up none)
  place-none k false up none = refl

  row-by : (m : List ℕ) (t : Bool) (value : Option (List ℕ)) → cond (t && is_some value) (record { key = m; value = value } ∷ []) [] ≡ cond t (row_with m value) []
  row-by m true None = refl
  row-by m true (Some v) = refl
  row-by m false value = refl

  pub range-none : (first : List ℕ) → IsNext (λ k. times cs e k 0 n) first None → range cs e n (Some first) to ≡ []
  unfolding range
  range-none first next = ap (map (page_row cs e n)) (left-none cs e 0 n first has_place next)

  pub range-some : (first m : List ℕ) → AscendFrom 0 cs → IsNext (λ k. times cs e k 0 n) first (Some m)
      → range cs e n (Some first) to ≡ cond (is_under to m) (row_with m (value_at cs e m n)) [] ++ range cs e n (Some (behind_key m)) to
  unfolding range
  range-some first m up next =
      let rest = filter (λ k. is_from (Some (behind_key m)) k && has_place k) (keys_within cs e 0 n) in
      ap (map (page_row cs e n)) (left-some cs e 0 n first has_place m next (place-none m (is_under to m) up))
      ∙ map-outside (page_row cs e n) m (has_place m) rest
      ∙ ap (λ rows. rows ++ map (page_row cs e n) rest) (row-by m (is_under to m) (value_at cs e m n))

  end-by : (m k : List ℕ) (t u : Bool) → is_from (Some m) k ≡ t → is_under to m ≡ false → (t && (is_under to k && u)) ≡ false
  end-by m k true u is over = ap (λ t. t && u) (not_under_chain to k m is over)
  end-by m k false u is over = refl

  -- from a key that isn't under the bound on, none is left
  pub range-ends : (first m : List ℕ) → IsNext (λ k. times cs e k 0 n) first (Some m) → is_under to m ≡ false → range cs e n (Some first) to ≡ []
  unfolding range
  range-ends first m next over =
      ap (map (page_row cs e n))
      (left-same cs e 0 n first has_place m next
      ∙ filter-nil (λ k. is_from (Some m) k && has_place k) (keys_within cs e 0 n)
      (λ i z below. let k = get_or (keys_within cs e 0 n) i z in end-by m k (is_from (Some m) k) (is_some (value_at cs e k n)) refl over))

  pub range-open : range cs e n None to ≡ range cs e n (Some []) to
  unfolding range
  range-open =
      ap (map (page_row cs e n))
      (filter-agree (λ k. has_place k) (λ k. is_from (Some []) k && has_place k) (λ k. ap (λ t. t && has_place k) (sym (from_empty k))) (keys_within cs e 0 n))

-- ---- history

module _ (cs : List Change) (e : Entity) (a b : ℕ) where
  and_true : (t : Bool) → t ≡ (t && true)
  and_true true = refl
  and_true false = refl

  abbrev all : List ℕ → Bool
  all k = true

  history-is : (first : List ℕ) → history cs e a b (Some first) ≡ map (page_row cs e a) (filter (λ k. is_from (Some first) k && all k) (keys_within cs e a b))
  unfolding history
  history-is first =
      ap (map (page_row cs e a)) (filter-agree (is_from (Some first)) (λ k. is_from (Some first) k && all k) (λ k. and_true (is_from (Some first) k)) (keys_within cs e a b))

  pub history-none : (first : List ℕ) → IsNext (λ k. times cs e k a b) first None → history cs e a b (Some first) ≡ []
  history-none first next = history-is first ∙ ap (map (page_row cs e a)) (left-none cs e a b first all next)

  at-row : (m : List ℕ) (hot : Option Change) (ns : List ℕ) (t : Bool) → t ≡ is_some hot → (hot ≡ None → ns ≡ []) → (ns ≡ [] → hot ≡ None)
      → map (page_row cs e a) (cond (t && true) (m ∷ []) []) ≡ row_at m (value_at cs e m a) ns
  at-row m None [] true is none back = cc
  at-row m None [] false is none back = refl
  at-row m None (x ∷ ns) t is none back = let wrong = none refl in cc
  at-row m (Some c) [] t is none back = let wrong = back refl in cc
  at-row m (Some c) (x ∷ ns) true is none back = refl
  at-row m (Some c) (x ∷ ns) false is none back = cc

  append-map : (f : List ℕ → PageRow) (xs ys : List (List ℕ)) → map f (xs ++ ys) ≡ map f xs ++ map f ys
  append-map f [] ys = refl
  append-map f (x ∷ xs) ys = ap (λ l. f x ∷ l) (append-map f xs ys)

  pub history-some : (first m : List ℕ) → IsNext (λ k. times cs e k a b) first (Some m)
      → history cs e a b (Some first) ≡ row_at m (value_at cs e m a) (times cs e m a b) ++ history cs e a b (Some (behind_key m))
  history-some first m next =
      let rest = filter (λ k. is_from (Some (behind_key m)) k && all k) (keys_within cs e a b) in
      let here = list_any (λ l. pointwise nat_eq l m) (keys_within cs e a b) in
      history-is first
      ∙ ap (map (page_row cs e a)) (left-same cs e a b first all m next ∙ split m all (keys_within cs e a b) (keys-ascend cs e a b))
      ∙ append-map (page_row cs e a) (cond (here && true) (m ∷ []) []) rest
      ∙ (λ i. at-row m (hot_change cs e m a b) (times cs e m a b) here (any-changed cs e a b m) (times-nothing cs e m a b) (hot-nothing cs e m a b) i
      ++ sym (history-is (behind_key m)) i)

  pub history-open : history cs e a b None ≡ history cs e a b (Some [])
  unfolding history
  history-open =
      ap (map (page_row cs e a)) (filter-agree (λ k. true) (is_from (Some [])) (λ k. sym (from_empty k)) (keys_within cs e a b))

-- ---- the next key of the changes from a number on

first_key : (c : Change) (cs : List Change) → slice_get (keys_of (c ∷ cs)) 0 ≡ Some c.key
first_key c [] = refl
first_key c (d ∷ ds) = by (pointwise nat_eq c.key d.key) refl (first_key d ds)
  where
    by : (t : Bool) → pointwise nat_eq c.key d.key ≡ t → slice_get (keys_of (d ∷ ds)) 0 ≡ Some d.key → slice_get (cond t (keys_of (d ∷ ds)) (c.key ∷ keys_of (d ∷ ds))) 0 ≡ Some c.key
    by true is rest = rest ∙ ap Some (sym ((bytes_decides c.key d.key).0 is))
    by false is rest = refl

module _ (e : Entity) (first : List ℕ) (a b : ℕ) where
  abbrev in_window : Change → Bool
  in_window c = is_in_window e first a b c

  window-so : (c : Change) → in_window c ≡ true → (entity_number c.entity ≡ entity_number e) × (is_from (Some first) c.key ≡ true)
  unfolding is_in_window
  window-so c is = (
    (is_within-true e a b c (first_so (is_within e a b c) (not (is_lt (slice_cmp nat_cmp c.key first))) is)).entity,
    second_so (is_within e a b c) (not (is_lt (slice_cmp nat_cmp c.key first))) is,
  )

  module _ (k : List ℕ) (from : is_from (Some first) k ≡ true) where
    mine-by : (c : Change) (one key within : Bool) → pointwise nat_eq c.key k ≡ key
        → (((one && within) && not (is_lt (slice_cmp nat_cmp c.key first))) && ((one && key) && within)) ≡ ((one && key) && within)
    mine-by c true true true is = ap (λ t. t && true) (subst (λ l. is_from (Some first) l ≡ true) (sym ((bytes_decides c.key k).0 is)) from)
    mine-by c true true false is = refl
    mine-by c true false true is = and_false (not (is_lt (slice_cmp nat_cmp c.key first)))
      where
        and_false : (t : Bool) → (t && false) ≡ false
        and_false true = refl
        and_false false = refl
    mine-by c true false false is = refl
    mine-by c false key within is = refl

    -- the changes of a key from the first one on are in the window
    mine : (c : Change) → (in_window c && is_of_within e k a b c) ≡ is_of_within e k a b c
    unfolding is_in_window is_within is_of_within is_of
    mine c = mine-by c (entity_number c.entity == entity_number e) (pointwise nat_eq c.key k) (nat_le a c.tx && nat_lt c.tx b) refl

    other-by : (m : List ℕ) (c : Change) (one key within : Bool) → pointwise nat_eq c.key k ≡ key → is_under (Some m) k ≡ true → is_lt (slice_cmp nat_cmp c.key m) ≡ false → ((one && key) && within) ≡ false
    other-by m c true true within is under above =
        let wrong = sym under ∙ subst (λ l. is_lt (slice_cmp nat_cmp l m) ≡ false) ((bytes_decides c.key k).0 is) above in cc
    other-by m c true false within is under above = refl
    other-by m c false key within is under above = refl

    other : (m : List ℕ) (c : Change) → is_under (Some m) k ≡ true → is_lt (slice_cmp nat_cmp c.key m) ≡ false → is_of_within e k a b c ≡ false
    unfolding is_of_within is_of
    other m c under above =
        other-by m c (entity_number c.entity == entity_number e) (pointwise nat_eq c.key k) (nat_le a c.tx && nat_lt c.tx b) refl under above

    passed-by : (xs : List Change) → KeysRise xs → is_under (slice_get (keys_of xs) 0) k ≡ true → filter (is_of_within e k a b) xs ≡ []
    passed-by [] rise under = refl
    passed-by (c ∷ xs) rise under =
        let below : is_under (Some c.key) k ≡ true = subst (λ o. is_under o k ≡ true) (first_key c xs) under in
        (λ i. cond (other c.key c below (itself c.key) i) (c ∷ filter (is_of_within e k a b) xs) (filter (is_of_within e k a b) xs))
        ∙ filter-none (is_of_within e k a b) xs (λ i z at. other c.key _ below (rise.0 i z at))
      where
        itself : (m : List ℕ) → is_lt (slice_cmp nat_cmp m m) ≡ false
        itself m = ap is_lt (tied_itself nat_list_cmp_total m)

  pub next-behind : (cs : List Change) → KeysRise (filter in_window cs) → IsNext (λ k. times cs e k a b) first (slice_get (window_keys cs e first a b) 0)
  unfolding times
  next-behind cs rise = record {
    from = from-by (filter in_window cs) (λ i z below. (window-so _ (filter_passes in_window cs i z below)).1);
    passed = λ k from under.
        ap (map (λ (c : Change). c.tx))
        (sym (filter-twice (is_of_within e k a b) in_window cs ∙ filter-agree (λ c. in_window c && is_of_within e k a b c) (is_of_within e k a b) (mine k from) cs)
        ∙ passed-by k from (filter in_window cs) rise under);
  }
    where
      from-by : (xs : List Change) → All (λ c. is_from (Some first) c.key ≡ true) xs → IfSome (slice_get (keys_of xs) 0) (λ k. is_from (Some first) k ≡ true)
      from-by [] all = tt
      from-by (c ∷ xs) all = subst (λ o. IfSome o (λ k. is_from (Some first) k ≡ true)) (sym (first_key c xs)) (All-head (λ c. is_from (Some first) c.key ≡ true) c xs all)

rise-from : (from : ℕ) (cs : List Change) (e : Entity) (first : List ℕ) (a b : ℕ) → KeysRise (filter (is_in_window e first a b) (changes_from from cs))
unfolding changes_from
rise-from from cs e first a b =
    let late = filter (λ c. nat_le from c.tx) cs in
    let xs = filter (is_in_window e first a b) late in
    let P = λ (c : Change). entity_number c.entity ≡ entity_number e in
    subst KeysRise (sym (filter-arranged (is_in_window e first a b) late))
    (IsInOrder-KeysRise (entity_number e) (arranged xs) (arranged-IsInOrder xs)
    (All-permutation P xs (arranged xs) (arranged-IsPermutation xs) (λ i z below. (window-so e first a b _ (filter_passes (is_in_window e first a b) late i z below)).0)))

pub next-from : (from : ℕ) (cs : List Change) (e : Entity) (first : List ℕ) (a b : ℕ)
    → IsNext (λ k. times (changes_from from cs) e k a b) first (slice_get (window_keys (changes_from from cs) e first a b) 0)
next-from from cs e first a b = next-behind e first a b (changes_from from cs) (rise-from from cs e first a b)
