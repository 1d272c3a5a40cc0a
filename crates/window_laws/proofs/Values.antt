-- The value as of a number by the first change at or after it, and by files and the changes behind them.
use Rattle.std.specs.Prelude.{◌≡◌, ℕ, ◌*◌, ◌≤◌, ◌<◌, ◌==◌, ◌&&◌, ◌||◌, nat_le, nat_lt, Bool, true, false, cond, List, [], ◌∷◌, ◌++◌, length, map, find, All, Option, Some, None, IfSome, is_some, unwrap_or, refl}
use Rattle.std.proofs.Common.{sym, ◌∙◌, ap, arith, subst, le-leb, leb-true, ltb-true, ltb-false, eq-eqb}
use Rattle.std.specs.Option.{option_or, option_and_then, option_map}
use Rattle.std.specs.List.{filter, list_any}
use Rattle.std.specs.Cmp.{first_so, second_so}
use Rattle.std.proofs.lemmas.Bool.{lt-leb}
use Rattle.std.proofs.Math.Nat.{mul-le-mul_right}
use Rattle.std.proofs.lemmas.List.Folds.{find-append}
use Rattle.std.proofs.lemmas.List.Elements.{All-head, All-tail, All-map, filter_passes}
use Rattle.agg_model.specs.declared.entity.Entity.{Entity}
use Rattle.agg_model.specs.declared.entity.Range.{Range}
use Rattle.agg_model.specs.declared.change.Change.{Change}
use Rattle.agg_model.specs.Place.{is_of}
use Rattle.agg_model.specs.Batch.{AscendFrom, IsChange, IsValue}
use Rattle.agg_model.specs.ChangeList.{ChangeList, IsChangeList, last_where, value_at}
use Rattle.agg_model.specs.Contents.{is_of_within, times, word_of, v_contents}
use Rattle.agg_model.specs.Pairs.{hot_change, held_value, value_over, newest_word}
use Rattle.agg_model.proofs.ContentsLaws.{value_at-fits}
use Rattle.agg_model.proofs.CoverageLaws.{value_at-split}
use Rattle.content_laws.specs.Looks.{before_in}
use Rattle.content_laws.specs.Parts.{Adjoin, kv_files}
use Rattle.content_laws.proofs.PairParts.{hot-empty, Adjoin-le, value-parts}
use Rattle.content_laws.proofs.TimesParts.{times-both, numbers_in-ef_contents}
use Rattle.content_laws.proofs.BeforeParts.{before_in-v_contents}
use Rattle.window_laws.specs.Parts.{Part, part_of, ArePartsBelow, changes_from, newest_in, numbers_of, word_before, first_before, value_found}
use Rattle.window_laws.proofs.Sorted.{last-filtered, last_change-from}

-- ---- numbers of a key

map-nothing : (xs : List Change) → map (λ (c : Change). c.tx) xs ≡ [] → xs ≡ []
map-nothing [] is = refl
map-nothing (x ∷ xs) is = cc

pub record IsBetween (a b t : ℕ) : Type 0 where
  pub low : a ≤ t
  pub high : t < b

module _ (cs : List Change) (e : Entity) (k : List ℕ) where
  within-so : (a b : ℕ) (c : Change) → is_of_within e k a b c ≡ true → IsBetween a b c.tx
  unfolding is_of_within
  within-so a b c h =
      let numbers = second_so (is_of e k c) (nat_le a c.tx && nat_lt c.tx b) h in
      record {
        low = leb-true a c.tx (first_so (nat_le a c.tx) (nat_lt c.tx b) numbers);
        high = ltb-true c.tx b (second_so (nat_le a c.tx) (nat_lt c.tx b) numbers);
      }

  -- they are in their window
  pub times-within : (a b : ℕ) → All (IsBetween a b) (times cs e k a b)
  unfolding times
  times-within a b =
      All-map (IsBetween a b) (λ (c : Change). c.tx) (filter (is_of_within e k a b) cs)
      (λ i z below. within-so a b _ (filter_passes (is_of_within e k a b) cs i z below))

  kept-nothing : (p : Change → Bool) (xs : List Change) → filter p xs ≡ [] → last_where p xs ≡ None
  kept-nothing p xs is = sym (last-kept-of p xs) ∙ ap (last_where p) is
    where
      both : (t : Bool) → (t && t) ≡ t
      both true = refl
      both false = refl

      agree : (p : Change → Bool) (xs : List Change) → last_where (λ c. p c && p c) xs ≡ last_where p xs
      agree p [] = refl
      agree p (x ∷ xs) = λ i. option_or (agree p xs i) (cond (both (p x) i) (Some x) None)

      last-kept-of : (p : Change → Bool) (xs : List Change) → last_where p (filter p xs) ≡ last_where p xs
      last-kept-of p xs = last-filtered p p xs ∙ agree p xs

  -- where there is none, there is no last change
  pub hot-nothing : (a b : ℕ) → times cs e k a b ≡ [] → hot_change cs e k a b ≡ None
  unfolding times hot_change
  hot-nothing a b is =
      kept-nothing (is_of_within e k a b) cs (map-nothing (filter (is_of_within e k a b) cs) is)

  -- the value stays where no change lies between
  pub value-stays : (n m : ℕ) → AscendFrom 0 cs → n ≤ m → times cs e k n m ≡ [] → value_at cs e k n ≡ value_at cs e k m
  value-stays n m up order none =
      sym (value_at-split cs e k n m order up ∙ ap (value_over (value_at cs e k n)) (hot-nothing n m none))

-- ---- the first number from one on

find-none : (n : ℕ) (xs : List ℕ) → All (λ x. x < n) xs → find (nat_le n) xs ≡ None
find-none n [] below = refl
find-none n (x ∷ xs) below =
    ap (λ t. cond t (Some x) (find (nat_le n) xs)) (lt-leb n x (All-head (λ x. x < n) x xs below))
    ∙ find-none n xs (All-tail (λ x. x < n) x xs below)

-- what is found among numbers that are all from n on
pub record IsFirstOf (n : ℕ) (xs : List ℕ) (o : Option ℕ) : Type 0 where
  pub some : (t : ℕ) → o ≡ Some t → (rest : List ℕ) × (xs ≡ t ∷ rest)
  pub none : o ≡ None → xs ≡ []

find-first : (n : ℕ) (xs : List ℕ) → All (λ x. n ≤ x) xs → IsFirstOf n xs (find (nat_le n) xs)
find-first n [] from = record { some = λ t is. cc; none = λ is. refl }
find-first n (x ∷ xs) from =
    let here : find (nat_le n) (x ∷ xs) ≡ Some x = ap (λ t. cond t (Some x) (find (nat_le n) xs)) (le-leb n x (All-head (λ x. n ≤ x) x xs from)) in
    record {
      some = λ t is. (xs, ap (λ y. y ∷ xs) (same x t (sym here ∙ is)));
      none = λ is. other x (sym here ∙ is);
    }
  where
    same : (x t : ℕ) → Some x ≡ Some t → x ≡ t
    same x t is = cc

    other : (x : ℕ) → Some x ≡ None → x ∷ xs ≡ []
    other x is = cc

module _ (cs : List Change) (e : Entity) (k : List ℕ) (up : AscendFrom 0 cs) where
  -- no number of the key lies before the first one
  before-first : (n m t : ℕ) (rest : List ℕ) → n ≤ m → times cs e k n m ≡ t ∷ rest → (n ≤ t) × (times cs e k n t ≡ [])
  before-first n m t rest order is =
      let all = subst (All (IsBetween n m)) is (times-within cs e k n m) in
      let here : IsBetween n m t = All-head (IsBetween n m) t rest all in
      let low : n ≤ t = here.low in
      let high : t ≤ m = less here.high in
      (low, by (times cs e k n t) (times cs e k t m) (times-within cs e k n t) (sym (times-both e k n t m low high cs up) ∙ is))
    where
      less : {x y : ℕ} → x < y → x ≤ y
      less h = omega arith

      by : (xs ys : List ℕ) → All (IsBetween n t) xs → xs ++ ys ≡ t ∷ rest → xs ≡ []
      by [] ys all is = refl
      by (x ∷ xs) ys all is =
          let here : IsBetween n t x = All-head (IsBetween n t) x xs all in
          let same : x ≡ t = heads is in
          wrong (subst (λ y. y < t) same here.high)
        where
          heads : {x t : ℕ} {xs ys : List ℕ} → x ∷ xs ≡ t ∷ ys → x ≡ t
          heads is = cc

          wrong : {t : ℕ} {xs : List ℕ} → t < t → xs ≡ []
          wrong h = absurd (omega arith)

  -- among the numbers up to m the first from n on tells the value at n
  pub record Tells (n m : ℕ) (o : Option ℕ) : Type 0 where
    pub some : (t : ℕ) → o ≡ Some t → value_at cs e k n ≡ value_at cs e k t
    pub none : o ≡ None → value_at cs e k n ≡ value_at cs e k m

  pub first-tells : (n m : ℕ) → n ≤ m → Tells n m (find (nat_le n) (times cs e k 0 m))
  first-tells n m order =
      let early = times cs e k 0 n in
      let found : find (nat_le n) (times cs e k 0 m) ≡ find (nat_le n) (times cs e k n m) =
      ap (find (nat_le n)) (times-both e k 0 n m (zero-le n) order cs up)
      ∙ find-append (nat_le n) early (times cs e k n m)
      ∙ ap (λ o. option_or o (find (nat_le n) (times cs e k n m))) (find-none n early (λ i z below. (times-within cs e k 0 n i z below).high)) in
      let first = find-first n (times cs e k n m) (λ i z below. (times-within cs e k n m i z below).low) in
      record {
        some = λ t is.
            let head = first.some t (sym found ∙ is) in
            let empty = before-first n m t head.0 order head.1 in
            value-stays cs e k n t up empty.0 empty.1;
        none = λ is. value-stays cs e k n m up order (first.none (sym found ∙ is));
      }
    where
      zero-le : (n : ℕ) → 0 ≤ n
      zero-le n = omega arith

-- ---- one part

module _ (cs : List Change) (e : Entity) (k : List ℕ) where
  abbrev is_there : ℕ → Change → Bool
  is_there t c = is_of e k c && c.tx == t

  -- a number of the key has its change, and is in the window
  there-by : (a b t : ℕ) (q : ℕ → Bool) (x : Change) (xs : List Change) (one window : Bool) → is_of e k x ≡ one → (nat_le a x.tx && nat_lt x.tx b) ≡ window
      → (find q (map (λ (c : Change). c.tx) (filter (is_of_within e k a b) xs)) ≡ Some t → (list_any (is_there t) xs && (nat_le a t && nat_lt t b)) ≡ true)
      → find q (map (λ (c : Change). c.tx) (cond (one && window) (x ∷ filter (is_of_within e k a b) xs) (filter (is_of_within e k a b) xs))) ≡ Some t
      → ((one && x.tx == t || list_any (is_there t) xs) && (nat_le a t && nat_lt t b)) ≡ true
  there-by a b t q x xs true true key window rest is = found (q x.tx) is
    where
      or_true : (t : Bool) → (t || true) ≡ true
      or_true true = refl
      or_true false = refl

      found : (u : Bool) → cond u (Some x.tx) (find q (map (λ (c : Change). c.tx) (filter (is_of_within e k a b) xs))) ≡ Some t
          → ((x.tx == t || list_any (is_there t) xs) && (nat_le a t && nat_lt t b)) ≡ true
      found true is =
          let same : x.tx ≡ t = injected is in
          (λ i. (eq-eqb x.tx t same i || list_any (is_there t) xs) && subst (λ y. (nat_le a y && nat_lt y b) ≡ true) same window i)
        where
          injected : {x t : ℕ} → Some x ≡ Some t → x ≡ t
          injected is = cc
      found false is = more (x.tx == t) (list_any (is_there t) xs) (nat_le a t && nat_lt t b) (rest is)
        where
          more : (u v w : Bool) → (v && w) ≡ true → ((u || v) && w) ≡ true
          more true true w h = h
          more true false w h = cc
          more false v w h = h
  there-by a b t q x xs true false key window rest is = more (x.tx == t) (list_any (is_there t) xs) (nat_le a t && nat_lt t b) (rest is)
    where
      more : (u v w : Bool) → (v && w) ≡ true → ((u || v) && w) ≡ true
      more true true w h = h
      more true false w h = cc
      more false v w h = h
  there-by a b t q x xs false window key win rest is = rest is

  there : (a b t : ℕ) (q : ℕ → Bool) (xs : List Change) → find q (map (λ (c : Change). c.tx) (filter (is_of_within e k a b) xs)) ≡ Some t
      → (list_any (is_there t) xs && (nat_le a t && nat_lt t b)) ≡ true
  unfolding is_of_within
  there a b t q [] is = cc
  there a b t q (x ∷ xs) is =
      there-by a b t q x xs (is_of e k x) (nat_le a x.tx && nat_lt x.tx b) refl refl (there a b t q xs) is

  found_there : (a b t : ℕ) (q : ℕ → Bool) → find q (times cs e k a b) ≡ Some t → (list_any (is_there t) cs && (nat_le a t && nat_lt t b)) ≡ true
  unfolding times
  found_there a b t q is = there a b t q cs is

  -- the word before a number
  abbrev word_at : ℕ → List ℕ
  word_at t = word_of (value_at cs e k t)

  numbers-by : (hot : Option Change) (ts : List ℕ) → (hot ≡ None → ts ≡ []) → unwrap_or (cond (is_some hot) (Some ts) None) [] ≡ ts
  numbers-by None ts none = sym (none refl)
  numbers-by (Some c) ts none = refl

  filter-nothing-by : (p : Change → Bool) (x : Change) (xs : List Change) (t : Bool) (o : Option Change) → option_or o (cond t (Some x) None) ≡ None → (o ≡ None → filter p xs ≡ []) → cond t (x ∷ filter p xs) (filter p xs) ≡ []
  filter-nothing-by p x xs true None is rest = cc
  filter-nothing-by p x xs true (Some y) is rest = cc
  filter-nothing-by p x xs false None is rest = rest refl
  filter-nothing-by p x xs false (Some y) is rest = cc

  filter-nothing : (p : Change → Bool) (xs : List Change) → last_where p xs ≡ None → filter p xs ≡ []
  filter-nothing p [] is = refl
  filter-nothing p (x ∷ xs) is = filter-nothing-by p x xs (p x) (last_where p xs) is (filter-nothing p xs)

  pub times-nothing : (a b : ℕ) → hot_change cs e k a b ≡ None → times cs e k a b ≡ []
  unfolding hot_change times
  times-nothing a b is = ap (map (λ (c : Change). c.tx)) (filter-nothing (is_of_within e k a b) cs is)

  -- the numbers of a part are those of its window
  pub numbers-part : (size : ℕ) (r : Range) → numbers_of (part_of size cs e r) k ≡ times cs e k (r.from * size) (r.to * size)
  numbers-part size r =
      ap (λ o. unwrap_or o []) (numbers_in-ef_contents size cs e k r.from r.to)
      ∙ numbers-by (hot_change cs e k (r.from * size) (r.to * size)) (times cs e k (r.from * size) (r.to * size)) (times-nothing (r.from * size) (r.to * size))

  word-by : (size : ℕ) (r : Range) (n : ℕ) (o : Option ℕ) → find (nat_le n) (times cs e k (r.from * size) (r.to * size)) ≡ o
      → option_and_then (λ t. before_in (v_contents size cs e r.from r.to) k t) o ≡ option_map word_at o
  word-by size r n None is = refl
  word-by size r n (Some t) is =
      before_in-v_contents cs e k t size r.from r.to
      ∙ ap (λ u. cond u (Some (word_at t)) None) (found_there (r.from * size) (r.to * size) t (nat_le n) is)

  -- what a part has before the first change from a number on
  word-part : (size : ℕ) (r : Range) (n : ℕ) → word_before (part_of size cs e r) k n ≡ option_map word_at (find (nat_le n) (times cs e k (r.from * size) (r.to * size)))
  word-part size r n =
      let ts = times cs e k (r.from * size) (r.to * size) in
      ap (λ ns. option_and_then (λ t. before_in (v_contents size cs e r.from r.to) k t) (find (nat_le n) ns)) (numbers-part size r)
      ∙ word-by size r n (find (nat_le n) ts) refl

  -- ---- the parts in their order

  map-or : (o p : Option ℕ) → option_or (option_map word_at o) (option_map word_at p) ≡ option_map word_at (option_or o p)
  map-or None p = refl
  map-or (Some t) p = refl

  step-by : (size : ℕ) (r : Range) (n : ℕ) (t : Bool) (rest : Option ℕ) → nat_le (r.to * size) n ≡ t
      → cond t (option_map word_at rest) (option_or (word_before (part_of size cs e r) k n) (option_map word_at rest))
      ≡ option_map word_at (option_or (find (nat_le n) (times cs e k (r.from * size) (r.to * size))) rest)
  step-by size r n true rest is =
      let low = leb-true (r.to * size) n is in
      ap (λ o. option_map word_at (option_or o rest))
      (sym (find-none n (times cs e k (r.from * size) (r.to * size)) (λ i z below. chain (times-within cs e k (r.from * size) (r.to * size) i z below).high low)))
    where
      chain : {x y z : ℕ} → x < y → y ≤ z → x < z
      chain h g = omega arith
  step-by size r n false rest is =
      ap (λ o. option_or o (option_map word_at rest)) (word-part size r n)
      ∙ map-or (find (nat_le n) (times cs e k (r.from * size) (r.to * size))) rest

  first-parts : (size n a b : ℕ) (ranges : List Range) → AscendFrom 0 cs → Adjoin a ranges b
      → first_before (map (part_of size cs e) ranges) k n ≡ option_map word_at (find (nat_le n) (times cs e k (a * size) (b * size)))
  first-parts size n a b [] up adjoin =
      ap (λ ts. option_map word_at (find (nat_le n) ts))
      (sym (subst (λ m. times cs e k (a * size) (m * size) ≡ []) adjoin (times-nothing (a * size) (a * size) (hot-empty cs e k (a * size)))))
  first-parts size n a b (r ∷ rs) up adjoin =
      let from : r.from ≡ a = adjoin.0 in
      let low : a < r.to = subst (λ m. m < r.to) from adjoin.1.0 in
      let first = times cs e k (r.from * size) (r.to * size) in
      let rest = times cs e k (r.to * size) (b * size) in
      let all : times cs e k (a * size) (b * size) ≡ first ++ rest =
      times-both e k (a * size) (r.to * size) (b * size) (mul-le-mul_right size (omega (arith, low))) (mul-le-mul_right size (Adjoin-le r.to rs b adjoin.1.1)) cs up
      ∙ ap (λ m. times cs e k (m * size) (r.to * size) ++ rest) (sym from) in
      (λ i. cond (nat_le (r.to * size) n) (first-parts size n r.to b rs up adjoin.1.1 i) (option_or (word_before (part_of size cs e r) k n) (first-parts size n r.to b rs up adjoin.1.1 i)))
      ∙ step-by size r n (nat_le (r.to * size) n) (find (nat_le n) rest) refl
      ∙ ap (option_map word_at) (sym (ap (find (nat_le n)) all ∙ find-append (nat_le n) first rest))

  kv-parts : (size : ℕ) (ranges : List Range) → map (λ p. p.kv) (map (part_of size cs e) ranges) ≡ kv_files size cs e ranges
  kv-parts size [] = refl
  kv-parts size (r ∷ rs) = ap (λ fs. (part_of size cs e r).kv ∷ fs) (kv-parts size rs)

  -- ---- the value as of a number

  held-word : (o : Option (List ℕ)) → IfSome o (λ w. 1 ≤ length w) → held_value (Some (word_of o)) ≡ o
  held-word None h = refl
  held-word (Some []) h = absurd (omega arith)
  held-word (Some (b ∷ bs)) h = refl

  full_of : (o : Option (List ℕ)) → IfSome o IsValue → IfSome o (λ w. 1 ≤ length w)
  full_of None h = tt
  full_of (Some w) h = h.not_empty

  in-files : (up : AscendFrom 0 cs) (n m : ℕ) (newest : Option (List ℕ)) (o : Option ℕ) → All IsChange cs → Tells cs e k up n m o → value_at cs e k m ≡ held_value newest
      → value_at cs e k n ≡ held_value (option_or (option_map word_at o) newest)
  in-files up n m newest None fit tells end = tells.none refl ∙ end
  in-files up n m newest (Some t) fit tells end =
      tells.some t refl ∙ sym (held-word (value_at cs e k t) (full_of (value_at cs e k t) (value_at-fits cs e k t fit)))

  value-by : (size f n : ℕ) (ranges : List Range) (t : Bool) → nat_lt n (f * size) ≡ t → AscendFrom 0 cs → All IsChange cs → Adjoin 0 ranges f
      → let parts = map (part_of size cs e) ranges in
      value_at cs e k n ≡ cond t (held_value (option_or (first_before parts k n) (newest_in parts k)))
      (value_over (held_value (newest_in parts k)) (hot_change cs e k (f * size) n))
  value-by size f n ranges true is up fit adjoin =
      let parts = map (part_of size cs e) ranges in
      let low = ltb-true n (f * size) is in
      let end : value_at cs e k (f * size) ≡ held_value (newest_in parts k) =
      value-parts size cs e k up fit f ranges adjoin ∙ ap (λ fs. held_value (newest_word fs k)) (sym (kv-parts size ranges)) in
      let first = find (nat_le n) (times cs e k (0 * size) (f * size)) in
      let tells = subst (λ m. Tells cs e k up n (f * size) (find (nat_le n) (times cs e k m (f * size)))) (zero-times size) (first-tells cs e k up n (f * size) (less low)) in
      in-files up n (f * size) (newest_in parts k) first fit tells end
      ∙ ap (λ o. held_value (option_or o (newest_in parts k))) (sym (first-parts size n 0 f ranges up adjoin))
    where
      less : {x y : ℕ} → x < y → x ≤ y
      less h = omega arith

      zero-times : (size : ℕ) → 0 ≡ 0 * size
      zero-times size = omega arith
  value-by size f n ranges false is up fit adjoin =
      let parts = map (part_of size cs e) ranges in
      let end : value_at cs e k (f * size) ≡ held_value (newest_in parts k) =
      value-parts size cs e k up fit f ranges adjoin ∙ ap (λ fs. held_value (newest_word fs k)) (sym (kv-parts size ranges)) in
      value_at-split cs e k (f * size) n (ltb-false n (f * size) is) up
      ∙ ap (λ v. value_over v (hot_change cs e k (f * size) n)) end

-- files and the changes behind them tell each value
pub value-covered : (list : ChangeList) (e : Entity) (k : List ℕ) (end n : ℕ) (parts : List Part) → IsChangeList list → ArePartsBelow list e end parts
    → value_at list.changes e k n ≡ value_found parts (changes_from (end * list.size) list.changes) e k (end * list.size) n
value-covered list e k end n parts is (ranges, (adjoin, same)) =
    value-by list.changes e k list.size end n ranges (nat_lt n (end * list.size)) refl is.ascend is.fit adjoin
    ∙ (λ i. cond (nat_lt n (end * list.size)) (held_value (option_or (first_before (sym same i) k n) (newest_in (sym same i) k)))
    (value_over (held_value (newest_in (sym same i) k)) (sym (last_change-from (end * list.size) e k list.changes is.ascend n) i)))
