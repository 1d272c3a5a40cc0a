-- The contents of a list are lists that a file may hold.
use Rattle.std.proofs.Common.{◌≡◌, ℕ, zero, suc, ◌+◌, ◌*◌, ◌<◌, ◌≤◌, ◌^◌, Bool, true, false, cond, nat_eq, nat_le, nat_lt, List, [], ◌∷◌, length, get_or, map, refl, sym, ap, ◌∙◌, arith, subst, ltb-true, leb-true, eqb-true, eq-eqb, inl, inr}
use Rattle.std.specs.Prelude.{All, ◌&&◌, ◌≢◌, ◌==◌}
use Rattle.std.specs.List.{filter, sum_by}
use Rattle.std.specs.List.Sorted.{IsStrictlyIncreasing}
use Rattle.std.specs.Cmp.{first_so, second_so, tied_itself}
use Rattle.std.specs.Cmp.Lexicographic.{pointwise, slice_cmp, bytes_decides, nat_list_cmp_total}
use Rattle.std.specs.Ordering.{nat_cmp}
use Rattle.std.specs.declared.cmp.Ordering.{Ordering}
use Rattle.std.specs.declared.cmp.Ordering.TheVariants.{Less, Equal}
use Rattle.std.proofs.lemmas.Bool.{and_from, cases_lt}
use Rattle.std.proofs.lemmas.List.Elements.{All-nil, All-cons, All-head, All-tail, All-map, All-filter, filter_passes}
use Rattle.std.proofs.lemmas.List.Sorted.{All-permutation}
use Rattle.std.proofs.lemmas.List.Sums.{sum_by-cons}
use Rattle.agg_model.specs.declared.entity.Entity.{Entity}
use Rattle.agg_model.specs.declared.change.Change.{Change}
use Rattle.agg_model.specs.declared.contents.Times.{Times}
use Rattle.agg_model.specs.Place.{place_of, place, is_of}
use Rattle.agg_model.specs.Entity.{entity_number}
use Rattle.agg_model.specs.Batch.{AscendFrom, HasNoRepeats, IsChange, IsKey, content_of}
use Rattle.agg_model.specs.ChangeList.{ChangeList, IsChangeList}
use Rattle.agg_model.specs.Arranged.{arranged}
use Rattle.agg_model.specs.Contents.{is_within, is_of_within, changes_over, keys_of, times, times_of, ef_contents}
use Rattle.agg_model.specs.Pairs.{IsBelow, KeysAscend}
use Rattle.agg_model.proofs.ArrangedLaws.{arranged-IsPermutation}
use Rattle.agg_model.proofs.ContentsLaws.{changes_over-keep, changes_over-KeysRise, keys_of-All, keys_of-ascend}
use Rattle.agg_model.proofs.GrownLaws.{AscendFrom-All}
use Rattle.agg_model.proofs.PlaceOrder.{place_of-is_of}
use Rattle.inverted_index.specs.EfFile.{IsInside, AreNumbers, IsTimes, AreLists, list_keys, number_count, ef_tag}
use Rattle.inverted_index.proofs.Climbs.{increasing-cons}

-- ---- the numbers of one key

module _ (e : Entity) (k : List ℕ) (from to : ℕ) where
  -- what a change of the key within has
  record IsTime (c : Change) : Type 0 where
    of : is_of e k c ≡ true
    low : from ≤ c.tx
    high : c.tx < to

  is_time : (c : Change) → is_of_within e k from to c ≡ true → IsTime c
  unfolding is_of_within
  is_time c h =
      let numbers = second_so (is_of e k c) (nat_le from c.tx && nat_lt c.tx to) h in
      record {
        of = first_so (is_of e k c) (nat_le from c.tx && nat_lt c.tx to) h;
        low = leb-true from c.tx (first_so (nat_le from c.tx) (nat_lt c.tx to) numbers);
        high = ltb-true c.tx to (second_so (nat_le from c.tx) (nat_lt c.tx to) numbers);
      }

  kept : List Change → List Change
  kept cs = filter (is_of_within e k from to) cs

  strict : (c d : Change) → is_of e k c ≡ true → is_of e k d ≡ true → c.tx ≤ d.tx → place_of d ≢ place_of c → c.tx < d.tx
  strict c d of_c of_d le apart =
      elim (cases_lt c.tx d.tx) [
        | inl lt ↦ lt
        | inr ge ↦ let same : d.tx ≡ c.tx = omega arith in absurd (apart (place_of-is_of e k d of_d ∙ ap (place e k) same ∙ sym (place_of-is_of e k c of_c)))
      ]

  above : (c : Change) (cs : List Change) → is_of_within e k from to c ≡ true → All (λ d. c.tx ≤ d.tx) cs → All (λ d. place_of d ≢ place_of c) cs → All (λ d. c.tx < d.tx) (filter (is_of_within e k from to) cs)
  above c cs h low apart =
      let q = is_of_within e k from to in
      let passes = filter_passes q cs in
      let lows = All-filter q (λ d. c.tx ≤ d.tx) cs low in
      let others = All-filter q (λ d. place_of d ≢ place_of c) cs apart in
      λ i z below. strict c (get_or (filter q cs) i z) (is_time c h).of (is_time (get_or (filter q cs) i z) (passes i z below)).of (lows i z below) (others i z below)

  numbers : List Change → List ℕ
  numbers cs = map (λ (c : Change). c.tx) cs

  ascend-by : (c : Change) (ds : List Change) (t : Bool) → (t ≡ true → All (λ d. c.tx < d.tx) ds) → IsStrictlyIncreasing (map (λ (c : Change). c.tx) ds) → IsStrictlyIncreasing (map (λ (c : Change). c.tx) (cond t (c ∷ ds) ds))
  ascend-by c ds true over up =
      let all = All-map (λ n. c.tx < n) (λ (d : Change). d.tx) ds (over refl) in
      increasing-cons c.tx (map (λ (d : Change). d.tx) ds) (λ some. all 0 0 some) up
  ascend-by c ds false over up = up

  ascend : (least : ℕ) (cs : List Change) → AscendFrom least cs → HasNoRepeats cs → IsStrictlyIncreasing (map (λ (c : Change). c.tx) (filter (is_of_within e k from to) cs))
  ascend least [] up apart = λ i within. absurd (omega arith)
  ascend least (c ∷ cs) up apart =
      ascend-by c (filter (is_of_within e k from to) cs) (is_of_within e k from to c)
      (λ h. above c cs h (AscendFrom-All c.tx cs up.1) apart.0)
      (ascend c.tx cs up.1 apart.1)

  length-map : (cs : List Change) → length (map (λ (c : Change). c.tx) cs) ≡ length cs
  length-map [] = refl
  length-map (c ∷ cs) = ap suc (length-map cs)

  times-length : (cs : List Change) → length (times cs e k from to) ≡ length (filter (is_of_within e k from to) cs)
  unfolding times
  times-length cs = length-map (filter (is_of_within e k from to) cs)

  times-ascend : (cs : List Change) → AscendFrom 0 cs → HasNoRepeats cs → IsStrictlyIncreasing (times cs e k from to)
  unfolding times
  times-ascend cs up apart = ascend 0 cs up apart

  times-All : (P : ℕ → Type 0) (cs : List Change) → ((c : Change) → from ≤ c.tx → c.tx < to → P c.tx) → All P (times cs e k from to)
  unfolding times
  times-All P cs says =
      let q = is_of_within e k from to in
      All-map P (λ (c : Change). c.tx) (filter q cs)
      (λ i z below. let t = is_time (get_or (filter q cs) i z) (filter_passes q cs i z below) in says (get_or (filter q cs) i z) t.low t.high)

  times-keep : (P : ℕ → Type 0) (cs : List Change) → All (λ c. P c.tx) cs → All P (times cs e k from to)
  unfolding times
  times-keep P cs all =
      let q = is_of_within e k from to in
      All-map P (λ (c : Change). c.tx) (filter q cs) (All-filter q (λ (c : Change). P c.tx) cs all)

-- ---- each key that changed has a number

module _ (e : Entity) (from to : ℕ) where
  is_of_itself : (c : Change) → is_within e from to c ≡ true → is_of_within e c.key from to c ≡ true
  unfolding is_within is_of_within is_of
  is_of_itself c h =
      let same = first_so (entity_number c.entity == entity_number e) (nat_le from c.tx && nat_lt c.tx to) h in
      let rest = second_so (entity_number c.entity == entity_number e) (nat_le from c.tx && nat_lt c.tx to) h in
      and_from ((entity_number c.entity == entity_number e) && pointwise nat_eq c.key c.key) (nat_le from c.tx && nat_lt c.tx to)
      (and_from (entity_number c.entity == entity_number e) (pointwise nat_eq c.key c.key) same ((bytes_decides c.key c.key).1 refl)) rest

  abbrev HasSome : List Change → Change → Type 0
  HasSome cs c = 0 < length (filter (is_of_within e c.key from to) cs)

  more-by : (t : Bool) (c : Change) (ds : List Change) → 0 < length ds → 0 < length (cond t (c ∷ ds) ds)
  more-by true c ds some = omega arith
  more-by false c ds some = some

  here-by : (t : Bool) (c : Change) (ds : List Change) → t ≡ true → 0 < length (cond t (c ∷ ds) ds)
  here-by true c ds h = omega arith
  here-by false c ds h = absurd cc

  some-by : (c : Change) (cs ds : List Change) (t : Bool) → (t ≡ true → HasSome cs c) → All (HasSome cs) ds → All (HasSome cs) (cond t (c ∷ ds) ds)
  some-by c cs ds true here rest = All-cons (HasSome cs) c ds (here refl) rest
  some-by c cs ds false here rest = rest

  within-some : (cs : List Change) → All (HasSome cs) (filter (is_within e from to) cs)
  within-some [] = All-nil (HasSome [])
  within-some (c ∷ cs) =
      let rest = within-some cs in
      let ds = filter (is_within e from to) cs in
      some-by c (c ∷ cs) ds (is_within e from to c)
      (λ h. here-by (is_of_within e c.key from to c) c (filter (is_of_within e c.key from to) cs) (is_of_itself c h))
      (λ i z below. more-by (is_of_within e (get_or ds i z).key from to c) c (filter (is_of_within e (get_or ds i z).key from to) cs) (rest i z below))

rows-some : (size : ℕ) (cs : List Change) (e : Entity) (a b : ℕ) → All (HasSome e (a * size) (b * size) cs) (changes_over size cs e a b)
unfolding changes_over
rows-some size cs e a b =
    let p = is_within e (a * size) (b * size) in
    All-permutation (HasSome e (a * size) (b * size) cs) (filter p cs) (arranged (filter p cs)) (arranged-IsPermutation (filter p cs)) (within-some e (a * size) (b * size) cs)

-- ---- how many numbers there are

abbrev total : {A : Type 0} → (A → ℕ) → List A → ℕ
total f [] = 0
total f (x ∷ xs) = f x + total f xs

sum_by-total : {A : Type 0} (f : A → ℕ) (xs : List A) → sum_by f xs ≡ total f xs
sum_by-total f [] = refl
sum_by-total f (x ∷ xs) = sum_by-cons f x xs ∙ ap (λ (n : ℕ). f x + n) (sum_by-total f xs)

total-map : {A B : Type 0} (f : B → ℕ) (g : A → B) (xs : List A) → total f (map g xs) ≡ total (λ x. f (g x)) xs
total-map f g [] = refl
total-map f g (x ∷ xs) = ap (λ (n : ℕ). f (g x) + n) (total-map f g xs)

total-none : {A : Type 0} (f : A → ℕ) (xs : List A) → All (λ x. f x ≡ 0) xs → total f xs ≡ 0
total-none f [] none = refl
total-none f (x ∷ xs) none = omega (arith, All-head (λ x. f x ≡ 0) x xs none, total-none f xs (All-tail (λ x. f x ≡ 0) x xs none))

total-both : {A : Type 0} (f g h : A → ℕ) (xs : List A) → ((x : A) → f x ≡ g x + h x) → total f xs ≡ total g xs + total h xs
total-both f g h [] is = refl
total-both f g h (x ∷ xs) is = omega (arith, is x, total-both f g h xs is)

module _ (e : Entity) (from to : ℕ) where
  abbrev once : Bool → ℕ
  once true = 1
  once false = 0

  abbrev counts : Change → List ℕ → ℕ
  counts c k = once (is_of_within e k from to c)

  abbrev many : List Change → List ℕ → ℕ
  many cs k = length (filter (is_of_within e k from to) cs)

  many-by : (t : Bool) (c : Change) (ds : List Change) → length (cond t (c ∷ ds) ds) ≡ once t + length ds
  many-by true c ds = omega arith
  many-by false c ds = omega arith

  key_is : (c : Change) (k : List ℕ) → is_of_within e k from to c ≡ true → c.key ≡ k
  unfolding is_of
  key_is c k h = (bytes_decides c.key k).0 (second_so (entity_number c.entity == entity_number e) (pointwise nat_eq c.key k) (is_time e k from to c h).of)

  not_itself : (k : List ℕ) → IsBelow k k → ⊥
  not_itself k below = no (tied_itself nat_list_cmp_total k) below
    where
      no : {r : Ordering} → r ≡ Equal → r ≡ Less → ⊥
      no e f = cc

  counts-other : (c : Change) (k l : List ℕ) (t u : Bool) → is_of_within e k from to c ≡ t → is_of_within e l from to c ≡ u → t ≡ true → IsBelow k l → once u ≡ 0
  counts-other c k l t true ht hu is below =
      absurd (not_itself k (subst (IsBelow k) (sym (key_is c l hu) ∙ key_is c k (ht ∙ is)) below))
  counts-other c k l t false ht hu is below = refl

  one-by : (c : Change) (k : List ℕ) (ks : List (List ℕ)) (t : Bool) → is_of_within e k from to c ≡ t → All (IsBelow k) ks → total (counts c) ks ≤ 1 → once t + total (counts c) ks ≤ 1
  one-by c k ks true h up rest =
      let none = total-none (counts c) ks (λ i z below. counts-other c k (get_or ks i z) true (is_of_within e (get_or ks i z) from to c) h refl refl (up i z below)) in
      omega (arith, none)
  one-by c k ks false h up rest = omega (arith, rest)

  -- a change is one of at most one key
  total-one : (c : Change) (ks : List (List ℕ)) → KeysAscend ks → total (counts c) ks ≤ 1
  total-one c [] up = omega arith
  total-one c (k ∷ ks) up = one-by c k ks (is_of_within e k from to c) refl up.0 (total-one c ks up.1)

  total-many : (ks : List (List ℕ)) → KeysAscend ks → (cs : List Change) → total (many cs) ks ≤ length cs
  total-many ks up [] = omega (arith, total-none (many []) ks (λ i z below. refl))
  total-many ks up (c ∷ cs) =
      omega (
        arith,
        total-both (many (c ∷ cs)) (counts c) (many cs) ks (λ k. many-by (is_of_within e k from to c) c (filter (is_of_within e k from to) cs)),
        total-one c ks up,
        total-many ks up cs,
      )

content-length : (cs : List Change) → 64 * length cs ≤ content_of cs
content-length [] = omega arith
content-length (c ∷ cs) = omega (arith, content-length cs)

-- ---- the lists

keys-lists : (cs : List Change) (e : Entity) (from to : ℕ) (ks : List (List ℕ)) → list_keys (map (times_of cs e from to) ks) ≡ ks
keys-lists cs e from to [] = refl
keys-lists cs e from to (k ∷ ks) = λ i. k ∷ keys-lists cs e from to ks i

-- what a key has whose changes these are
record IsTimed (e : Entity) (from to : ℕ) (cs : List Change) (k : List ℕ) : Type 0 where
  key : IsKey k
  some : 0 < length (filter (is_of_within e k from to) cs)

timed : (size : ℕ) (cs : List Change) (e : Entity) (a b : ℕ) → All IsChange cs → All (IsTimed e (a * size) (b * size) cs) (keys_of (changes_over size cs e a b))
timed size cs e a b fit =
    let rows = changes_over size cs e a b in
    let some = rows-some size cs e a b in
    let changes = changes_over-keep IsChange size cs e a b fit in
    keys_of-All (IsTimed e (a * size) (b * size) cs) rows (λ i z below. record { key = (changes i z below).key; some = some i z below })

module _ (list : ChangeList) (e : Entity) (a b : ℕ) (valid : IsChangeList list) where
  tag_numbers : (k : List ℕ) → IsTimed e (a * list.size) (b * list.size) list.changes k → AreNumbers (ef_tag e list.size a b) (times list.changes e k (a * list.size) (b * list.size))
  tag_numbers k t =
      let small = times-keep e k (a * list.size) (b * list.size) (λ n. n < list.next) list.changes valid.below_next in
      let between = times-All e k (a * list.size) (b * list.size) (λ n. (a * list.size ≤ n) × (n < b * list.size)) list.changes (λ c low high. (low, high)) in
      let next : list.next ≤ 4096 * list.size = valid.next_within in
      let size : list.size ≤ 2 ^ 32 = valid.size_within in
      record {
        some = omega (arith, t.some, times-length e k (a * list.size) (b * list.size) list.changes);
        ascend = times-ascend e k (a * list.size) (b * list.size) list.changes valid.ascend valid.no_repeats;
        inside = λ i z below. record { small = omega (arith, small i z below, next, size); from = (between i z below).0; below = (between i z below).1 };
      }

  pub ef_contents-AreLists : content_of list.changes ≤ 2 ^ 28 → AreLists (ef_tag e list.size a b) (ef_contents list.size list.changes e a b)
  unfolding ef_contents
  ef_contents-AreLists most =
      let cs = list.changes in
      let from : ℕ = a * list.size in
      let to : ℕ = b * list.size in
      let rows = changes_over list.size cs e a b in
      let ks = keys_of rows in
      let up = keys_of-ascend rows (changes_over-KeysRise list.size cs e a b) in
      let each = timed list.size cs e a b valid.fit in
      let sum = sum_by-total (λ (t : Times). length t.items) (map (times_of cs e from to) ks) ∙ total-map (λ (t : Times). length t.items) (times_of cs e from to) ks in
      let same = total-agree (λ k. length (times cs e k from to)) (many e from to cs) ks (λ k. times-length e k from to cs) in
      record {
        ascend = subst KeysAscend (sym (keys-lists cs e from to ks)) up;
        fit = All-map (IsTimes (ef_tag e list.size a b)) (times_of cs e from to) ks (λ i z below. let t = each i z below in record { not_empty = t.key.not_empty; key_within = t.key.within; numbers = tag_numbers (get_or ks i z) t });
        few = omega (arith, sum, same, total-many e from to ks up cs, content-length cs, most);
      }
    where
      total-agree : (f g : List ℕ → ℕ) (ks : List (List ℕ)) → ((k : List ℕ) → f k ≡ g k) → total f ks ≡ total g ks
      total-agree f g [] is = refl
      total-agree f g (k ∷ ks) is = omega (arith, is k, total-agree f g ks is)
