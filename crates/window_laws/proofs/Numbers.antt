-- The numbers of a key, by files and the changes behind them.
use Rattle.std.specs.Prelude.{◌≡◌, ℕ, ◌*◌, ◌≤◌, ◌<◌, ◌&&◌, nat_le, nat_lt, Bool, true, false, cond, List, [], ◌∷◌, ◌++◌, map, refl}
use Rattle.std.proofs.Common.{sym, ◌∙◌, ap, arith, subst, le-leb, leb-true, leb-false, lt-ltb, le-ltb}
use Rattle.std.specs.List.{filter}
use Rattle.std.proofs.Math.Nat.{mul-le-mul_right}
use Rattle.std.proofs.lemmas.List.Elements.{filter-append}
use Rattle.agg_model.specs.declared.entity.Entity.{Entity}
use Rattle.agg_model.specs.declared.entity.Range.{Range}
use Rattle.agg_model.specs.declared.change.Change.{Change}
use Rattle.agg_model.specs.Place.{is_of}
use Rattle.agg_model.specs.Batch.{AscendFrom}
use Rattle.agg_model.specs.ChangeList.{ChangeList, IsChangeList}
use Rattle.agg_model.specs.Contents.{is_of_within, times}
use Rattle.agg_model.proofs.GrownLaws.{AscendFrom-All}
use Rattle.agg_model.proofs.ContentsLaws.{filter-none}
use Rattle.content_laws.specs.Parts.{Adjoin}
use Rattle.content_laws.proofs.PairParts.{hot-empty, Adjoin-le}
use Rattle.content_laws.proofs.TimesParts.{times-both}
use Rattle.window_laws.specs.Parts.{Part, part_of, ArePartsBelow, changes_from, is_between, numbers_between, numbers_found}
use Rattle.window_laws.proofs.Sorted.{times-from}
use Rattle.window_laws.proofs.Values.{times-nothing, numbers-part}

map-append : (xs ys : List Change) → map (λ (c : Change). c.tx) (xs ++ ys) ≡ map (λ (c : Change). c.tx) xs ++ map (λ (c : Change). c.tx) ys
map-append [] ys = refl
map-append (x ∷ xs) ys = ap (λ l. x.tx ∷ l) (map-append xs ys)

module _ (e : Entity) (k : List ℕ) (a b f : ℕ) where
  abbrev all : Change → Bool
  all c = is_of_within e k a b c

  -- below f, and from f on
  abbrev below : Change → Bool
  below c = nat_lt c.tx f && all c

  abbrev behind : Change → Bool
  behind c = nat_le f c.tx && all c

  none-below : (x : Change) → f ≤ x.tx → below x ≡ false
  none-below x from = ap (λ t. t && all x) (le-ltb x.tx f from)

  split-by : (x : Change) (xs : List Change) (t : Bool) → nat_le f x.tx ≡ t → AscendFrom x.tx xs → filter all xs ≡ filter below xs ++ filter behind xs
      → cond (all x) (x ∷ filter all xs) (filter all xs)
      ≡ cond (below x) (x ∷ filter below xs) (filter below xs) ++ cond (behind x) (x ∷ filter behind xs) (filter behind xs)
  split-by x xs true is up rest =
      let from = leb-true f x.tx is in
      let none = filter-none below xs (λ i z at. none-below _ (chain from (AscendFrom-All x.tx xs up i z at))) in
      let here = none-below x from in
      let whole : filter all xs ≡ filter behind xs = rest ∙ ap (λ l. l ++ filter behind xs) none in
      (λ i. cond (all x) (x ∷ whole i) (whole i))
      ∙ (λ i. cond (sym here i) (x ∷ filter below xs) (sym none i) ++ cond (sym is i && all x) (x ∷ filter behind xs) (filter behind xs))
    where
      chain : {x y z : ℕ} → x ≤ y → y ≤ z → x ≤ z
      chain h g = omega arith
  split-by x xs false is up rest =
      let low = lt-ltb x.tx f (leb-false f x.tx is) in
      (λ i. cond (all x) (x ∷ rest i) (rest i))
      ∙ outside (all x) (filter below xs) (filter behind xs)
      ∙ (λ i. cond (sym low i && all x) (x ∷ filter below xs) (filter below xs) ++ cond (sym is i && all x) (x ∷ filter behind xs) (filter behind xs))
    where
      outside : (t : Bool) (xs ys : List Change) → cond t (x ∷ xs ++ ys) (xs ++ ys) ≡ cond t (x ∷ xs) xs ++ ys
      outside true xs ys = refl
      outside false xs ys = refl

  split : (least : ℕ) (xs : List Change) → AscendFrom least xs → filter all xs ≡ filter below xs ++ filter behind xs
  split least [] up = refl
  split least (x ∷ xs) up = split-by x xs (nat_le f x.tx) refl up.1 (split x.tx xs up.1)

  -- the numbers below f are those of the whole, in the window
  kept-by : (x : Change) (xs : List Change) (one low high : Bool) → is_between a b x.tx ≡ high
      → map (λ (c : Change). c.tx) (filter below xs) ≡ filter (is_between a b) (map (λ (c : Change). c.tx) (filter (is_of_within e k 0 f) xs))
      → map (λ (c : Change). c.tx) (cond (low && (one && high)) (x ∷ filter below xs) (filter below xs))
      ≡ filter (is_between a b) (map (λ (c : Change). c.tx) (cond (one && low) (x ∷ filter (is_of_within e k 0 f) xs) (filter (is_of_within e k 0 f) xs)))
  kept-by x xs true true true is rest =
      ap (λ l. x.tx ∷ l) rest ∙ ap (λ t. cond t (x.tx ∷ filter (is_between a b) (map (λ (c : Change). c.tx) (filter (is_of_within e k 0 f) xs))) (filter (is_between a b) (map (λ (c : Change). c.tx) (filter (is_of_within e k 0 f) xs)))) (sym is)
  kept-by x xs true true false is rest =
      rest ∙ ap (λ t. cond t (x.tx ∷ filter (is_between a b) (map (λ (c : Change). c.tx) (filter (is_of_within e k 0 f) xs))) (filter (is_between a b) (map (λ (c : Change). c.tx) (filter (is_of_within e k 0 f) xs)))) (sym is)
  kept-by x xs true false high is rest = rest
  kept-by x xs false true high is rest = rest
  kept-by x xs false false high is rest = rest

  kept : (xs : List Change) → map (λ (c : Change). c.tx) (filter below xs) ≡ filter (is_between a b) (map (λ (c : Change). c.tx) (filter (is_of_within e k 0 f) xs))
  unfolding is_of_within
  kept [] = refl
  kept (x ∷ xs) =
      kept-by x xs (is_of e k x) (nat_lt x.tx f) (is_between a b x.tx) refl (kept xs)
      ∙ (λ i. filter (is_between a b) (map (λ (c : Change). c.tx) (cond (is_of e k x && (sym (le-leb 0 x.tx (least x.tx)) i && nat_lt x.tx f)) (x ∷ filter (is_of_within e k 0 f) xs) (filter (is_of_within e k 0 f) xs))))
    where
      least : (n : ℕ) → 0 ≤ n
      least n = omega arith

-- the numbers in a window: those below f, and those from f on
pub times-split : (cs : List Change) (e : Entity) (k : List ℕ) (a b f : ℕ) → AscendFrom 0 cs
    → times cs e k a b ≡ filter (is_between a b) (times cs e k 0 f) ++ times (changes_from f cs) e k a b
unfolding times
times-split cs e k a b f up =
    ap (map (λ (c : Change). c.tx)) (split e k a b f 0 cs up)
    ∙ map-append (filter (below e k a b f) cs) (filter (behind e k a b f) cs)
    ∙ (λ i. kept e k a b f cs i ++ sym (times-from f e k cs up a b) i)

-- the numbers of the parts are those below their end, in the window
parts-between : (size : ℕ) (cs : List Change) (e : Entity) (k : List ℕ) (a b from to : ℕ) (ranges : List Range) → AscendFrom 0 cs → Adjoin from ranges to
    → numbers_between (map (part_of size cs e) ranges) k a b ≡ filter (is_between a b) (times cs e k (from * size) (to * size))
parts-between size cs e k a b from to [] up adjoin =
    ap (filter (is_between a b)) (sym (subst (λ m. times cs e k (from * size) (m * size) ≡ []) adjoin (times-nothing cs e k (from * size) (from * size) (hot-empty cs e k (from * size)))))
parts-between size cs e k a b from to (r ∷ rs) up adjoin =
    let begin : r.from ≡ from = adjoin.0 in
    let low : from < r.to = subst (λ m. m < r.to) begin adjoin.1.0 in
    let first = times cs e k (r.from * size) (r.to * size) in
    let rest = times cs e k (r.to * size) (to * size) in
    let all : times cs e k (from * size) (to * size) ≡ first ++ rest =
    times-both e k (from * size) (r.to * size) (to * size) (mul-le-mul_right size (omega (arith, low))) (mul-le-mul_right size (Adjoin-le r.to rs to adjoin.1.1)) cs up
    ∙ ap (λ m. times cs e k (m * size) (r.to * size) ++ rest) (sym begin) in
    (λ i. filter (is_between a b) (numbers-part cs e k size r i) ++ parts-between size cs e k a b r.to to rs up adjoin.1.1 i)
    ∙ sym (ap (filter (is_between a b)) all ∙ filter-append (is_between a b) first rest)

-- files and the changes behind them tell all numbers
pub numbers-covered : (list : ChangeList) (e : Entity) (k : List ℕ) (end a b : ℕ) (parts : List Part) → IsChangeList list → ArePartsBelow list e end parts
    → times list.changes e k a b ≡ numbers_found parts (changes_from (end * list.size) list.changes) e k a b
numbers-covered list e k end a b parts is (ranges, (adjoin, same)) =
    let cs = list.changes in
    let behind = times (changes_from (end * list.size) cs) e k a b in
    times-split cs e k a b (end * list.size) is.ascend
    ∙ ap (λ m. filter (is_between a b) (times cs e k m (end * list.size)) ++ behind) (start list.size)
    ∙ ap (λ ns. ns ++ behind) (sym (ap (λ ps. numbers_between ps k a b) same ∙ parts-between list.size cs e k a b 0 end ranges is.ascend adjoin))
  where
    start : (size : ℕ) → 0 ≡ 0 * size
    start size = omega arith
