-- Laws of the contents of files: what a file may hold, and that later changes leave files alone.
use Rattle.std.specs.Prelude.{◌≡◌, ℕ, ◌*◌, ◌≤◌, ◌<◌, ◌==◌, ◌&&◌, nat_eq, nat_le, nat_lt, Bool, true, false, cond, List, [], ◌∷◌, ◌++◌, length, map, All, Option, Some, None, IfSome, is_some, refl}
use Rattle.std.proofs.Common.{get_or, sym, ◌∙◌, ap, arith, subst, le-ltb, ltb-true, leb-true, eqb-true, append-nil}
use Rattle.std.specs.Option.{option_and_then}
use Rattle.std.specs.List.{filter}
use Rattle.std.specs.Ordering.{nat_cmp, ordering_then, ordering_reverse, is_lt}
use Rattle.std.specs.Cmp.{tied_itself, nat_cmp_total, first_so, second_so}
use Rattle.std.specs.Cmp.Lexicographic.{pointwise, slice_cmp, nat_list_cmp_total, bytes_decides}
use Rattle.std.specs.FinMap.{nat_cmp-IsAntisymmetric, slice_cmp-IsAntisymmetric}
use Rattle.std.specs.declared.cmp.Ordering.{Ordering}
use Rattle.std.specs.declared.cmp.Ordering.TheVariants.{Less, Equal, Greater}
use Rattle.std.proofs.lemmas.List.Elements.{All-cons, All-head, All-tail, All-nil, All-map, All-filter, filter-append, filter_passes}
use Rattle.std.proofs.lemmas.List.Sorted.{All-permutation}
use Rattle.agg_model.specs.declared.entity.Entity.{Entity}
use Rattle.agg_model.specs.declared.change.Change.{Change}
use Rattle.agg_model.specs.declared.change.Act.{Act}
use Rattle.agg_model.specs.declared.change.Act.TheVariants.{Put, Del, Mark}
use Rattle.agg_model.specs.declared.contents.Pair.{Pair}
use Rattle.agg_model.specs.Entity.{entity_number}
use Rattle.agg_model.specs.Place.{place_of, place_cmp, is_before, is_of}
use Rattle.agg_model.specs.Batch.{IsKey, IsValue, IsChange, HasValue}
use Rattle.agg_model.specs.ChangeList.{value_at, last_change, value_of, value_of_act, is_of_before}
use Rattle.agg_model.specs.Arranged.{put_in, arranged_from, arranged}
use Rattle.agg_model.proofs.ArrangedLaws.{IsInOrder, put_in-IsInOrder, before-behind, arranged-IsInOrder, arranged-IsPermutation, last_where-All}
use Rattle.agg_model.proofs.GrownLaws.{value_at-later}
use Rattle.agg_model.specs.Contents.{is_within, is_of_within, changes_over, goes_on, keys_of, word_of, pair_at, kv_contents, before_of, v_contents, times, ef_contents}
use Rattle.agg_model.specs.Pairs.{IsBelow, KeysAscend, pair_keys, IsPair, ArePairs}

-- ---- lists

pub filter-none : (p : Change → Bool) (cs : List Change) → All (λ c. p c ≡ false) cs → filter p cs ≡ []
filter-none p [] none = refl
filter-none p (c ∷ cs) none =
    ap (λ t. cond t (c ∷ filter p cs) (filter p cs)) (All-head (λ c. p c ≡ false) c cs none)
    ∙ filter-none p cs (All-tail (λ c. p c ≡ false) c cs none)

filter-late : (p : Change → Bool) (cs ds : List Change) → All (λ d. p d ≡ false) ds → filter p (cs ++ ds) ≡ filter p cs
filter-late p cs ds none =
    filter-append p cs ds ∙ ap (λ xs. filter p cs ++ xs) (filter-none p ds none) ∙ append-nil (filter p cs)

-- functions that agree on the items of a list
pub map-agree : {A B : Type 0} (f g : A → B) (xs : List A) → All (λ x. f x ≡ g x) xs → map f xs ≡ map g xs
map-agree f g [] same = refl
map-agree f g (x ∷ xs) same =
    (λ i. All-head (λ x. f x ≡ g x) x xs same i ∷ map-agree f g xs (All-tail (λ x. f x ≡ g x) x xs same) i)

-- ---- which changes are within

module _ (e : Entity) (from to : ℕ) where
  late-by : (d : Change) (t u : Bool) → to ≤ d.tx → (t && (u && nat_lt d.tx to)) ≡ false
  late-by d true true h = le-ltb d.tx to h
  late-by d true false h = refl
  late-by d false u h = refl

  pub is_within-late : (d : Change) → to ≤ d.tx → is_within e from to d ≡ false
  unfolding is_within
  is_within-late d h = late-by d (entity_number d.entity == entity_number e) (nat_le from d.tx) h

  pub is_of_within-late : (k : List ℕ) (d : Change) → to ≤ d.tx → is_of_within e k from to d ≡ false
  unfolding is_of_within
  is_of_within-late k d h = late-by d (is_of e k d) (nat_le from d.tx) h

  -- what a change within has
  pub record IsWithin (c : Change) : Type 0 where
    pub entity : entity_number c.entity ≡ entity_number e
    pub low : from ≤ c.tx
    pub high : c.tx < to

  pub is_within-true : (c : Change) → is_within e from to c ≡ true → IsWithin c
  unfolding is_within
  is_within-true c h =
      let numbers = second_so (entity_number c.entity == entity_number e) (nat_le from c.tx && nat_lt c.tx to) h in
      record {
        entity = eqb-true (entity_number c.entity) (entity_number e) (first_so _ _ h);
        low = leb-true from c.tx (first_so _ _ numbers);
        high = ltb-true c.tx to (second_so (nat_le from c.tx) (nat_lt c.tx to) numbers);
      }

pub changes_over-All : (size : ℕ) (cs : List Change) (e : Entity) (a b : ℕ) → All (IsWithin e (a * size) (b * size)) (changes_over size cs e a b)
unfolding changes_over
changes_over-All size cs e a b =
    let p = is_within e (a * size) (b * size) in
    let P = IsWithin e (a * size) (b * size) in
    All-permutation P (filter p cs) (arranged (filter p cs)) (arranged-IsPermutation (filter p cs))
    (λ i z below. is_within-true e (a * size) (b * size) _ (filter_passes p cs i z below))

-- what all changes have, those of a file have
pub changes_over-keep : (P : Change → Type 0) (size : ℕ) (cs : List Change) (e : Entity) (a b : ℕ) → All P cs → All P (changes_over size cs e a b)
unfolding changes_over
changes_over-keep P size cs e a b all =
    let p = is_within e (a * size) (b * size) in
    All-permutation P (filter p cs) (arranged (filter p cs)) (arranged-IsPermutation (filter p cs)) (All-filter p P cs all)

-- ---- to sort what is within, or to take what is within of what is sorted

put_in-first : (c : Change) (xs : List Change) → All (λ x. is_before (place_of c) (place_of x) ≡ true) xs → put_in c xs ≡ c ∷ xs
put_in-first c [] before = refl
put_in-first c (x ∷ xs) before =
    ap (λ t. cond t (c ∷ x ∷ xs) (x ∷ put_in c xs)) (All-head (λ x. is_before (place_of c) (place_of x) ≡ true) x xs before)

module _ (p : Change → Bool) where
  behind-by : (c d : Change) (kept new : List Change) (t u : Bool) → is_before (place_of c) (place_of d) ≡ false → new ≡ cond u (put_in c kept) kept
      → cond t (d ∷ new) new ≡ cond u (put_in c (cond t (d ∷ kept) kept)) (cond t (d ∷ kept) kept)
  behind-by c d kept new true true later is =
      ap (λ xs. d ∷ xs) is ∙ ap (λ t. cond t (c ∷ d ∷ kept) (d ∷ put_in c kept)) (sym later)
  behind-by c d kept new true false later is = ap (λ xs. d ∷ xs) is
  behind-by c d kept new false u later is = is

  filter-put_in-by : (c d : Change) (ds : List Change) (t : Bool) → is_before (place_of c) (place_of d) ≡ t → IsInOrder (d ∷ ds) → filter p (put_in c ds) ≡ cond (p c) (put_in c (filter p ds)) (filter p ds)
      → filter p (cond t (c ∷ d ∷ ds) (d ∷ put_in c ds)) ≡ cond (p c) (put_in c (filter p (d ∷ ds))) (filter p (d ∷ ds))
  filter-put_in-by c d ds true before order rest =
      let P = λ (x : Change). is_before (place_of c) (place_of x) ≡ true in
      let all : All P (d ∷ ds) = All-cons P d ds before (λ i z below. before-behind _ _ _ before (order.0 i z below)) in
      ap (λ xs. cond (p c) xs (filter p (d ∷ ds))) (sym (put_in-first c (filter p (d ∷ ds)) (All-filter p P (d ∷ ds) all)))
  filter-put_in-by c d ds false later order rest =
      behind-by c d (filter p ds) (filter p (put_in c ds)) (p d) (p c) later rest

  filter-put_in : (c : Change) (ds : List Change) → IsInOrder ds → filter p (put_in c ds) ≡ cond (p c) (put_in c (filter p ds)) (filter p ds)
  filter-put_in c [] order = refl
  filter-put_in c (d ∷ ds) order = filter-put_in-by c d ds (is_before (place_of c) (place_of d)) refl order (filter-put_in c ds order.1)

  from-by : (acc kept cs : List Change) (c : Change) (t : Bool) → acc ≡ cond t (put_in c kept) kept → arranged_from acc cs ≡ arranged_from kept (cond t (c ∷ cs) cs)
  from-by acc kept cs c true is = ap (λ xs. arranged_from xs cs) is
  from-by acc kept cs c false is = ap (λ xs. arranged_from xs cs) is

  filter-arranged_from : (acc cs : List Change) → IsInOrder acc → filter p (arranged_from acc cs) ≡ arranged_from (filter p acc) (filter p cs)
  filter-arranged_from acc [] order = refl
  filter-arranged_from acc (c ∷ cs) order =
      filter-arranged_from (put_in c acc) cs (put_in-IsInOrder c acc order)
      ∙ from-by (filter p (put_in c acc)) (filter p acc) (filter p cs) c (p c) (filter-put_in c acc order)

  pub filter-arranged : (cs : List Change) → filter p (arranged cs) ≡ arranged (filter p cs)
  unfolding arranged
  filter-arranged cs = filter-arranged_from [] cs tt

-- the changes of steps are those within of all sorted changes
pub changes_over-arranged : (size : ℕ) (cs : List Change) (e : Entity) (a b : ℕ) → changes_over size cs e a b ≡ filter (is_within e (a * size) (b * size)) (arranged cs)
unfolding changes_over
changes_over-arranged size cs e a b = sym (filter-arranged (is_within e (a * size) (b * size)) cs)

-- ---- later changes leave files alone

module _ (size : ℕ) (cs ds : List Change) (e : Entity) (a b : ℕ) (late : All (λ d. b * size ≤ d.tx) ds) where
  pub changes_over-later : changes_over size (cs ++ ds) e a b ≡ changes_over size cs e a b
  unfolding changes_over
  changes_over-later =
      ap arranged (filter-late (is_within e (a * size) (b * size)) cs ds (λ i z below. is_within-late e (a * size) (b * size) _ (late i z below)))

  pub times-later : (k : List ℕ) → times (cs ++ ds) e k (a * size) (b * size) ≡ times cs e k (a * size) (b * size)
  unfolding times
  times-later k =
      ap (map (λ (c : Change). c.tx))
      (filter-late (is_of_within e k (a * size) (b * size)) cs ds (λ i z below. is_of_within-late e (a * size) (b * size) k _ (late i z below)))

  values : (k : List ℕ) → value_at (cs ++ ds) e k (b * size) ≡ value_at cs e k (b * size)
  values k = value_at-later e k (b * size) cs ds late

  pub kv_contents-later : kv_contents size (cs ++ ds) e a b ≡ kv_contents size cs e a b
  unfolding kv_contents
  kv_contents-later =
      λ i.
      let ks = keys_of (changes_over-later i) in
      let kept = cond (a == 0) (filter (λ k. is_some (values k i)) ks) ks in
      map (λ k. let pair : Pair = record { key = k; value = word_of (values k i) } in pair) kept

  before_of-later : (c : Change) → c.tx < b * size → before_of (cs ++ ds) e c ≡ before_of cs e c
  before_of-later c h =
      let value = value_at-later e c.key c.tx cs ds (λ i z below. le_chain h (late i z below)) in
      λ i. record { key = c.key; tx = c.tx; value = word_of (value i) }
    where
      le_chain : {x y z : ℕ} → x < y → y ≤ z → x ≤ z
      le_chain h g = omega arith

  pub v_contents-later : v_contents size (cs ++ ds) e a b ≡ v_contents size cs e a b
  unfolding v_contents
  v_contents-later =
      ap (map (before_of (cs ++ ds) e)) changes_over-later
      ∙ map-agree (before_of (cs ++ ds) e) (before_of cs e) (changes_over size cs e a b)
      (λ i z below. before_of-later (get_or (changes_over size cs e a b) i z) (changes_over-All size cs e a b i z below).high)

  pub ef_contents-later : ef_contents size (cs ++ ds) e a b ≡ ef_contents size cs e a b
  unfolding ef_contents
  ef_contents-later = λ i. map (λ k. record { key = k; items = times-later k i }) (keys_of (changes_over-later i))

-- ---- the order of keys

-- no key is below an earlier one
abbrev pub KeysRise : List Change → Type 0
KeysRise [] = Unit {0}
KeysRise (c ∷ cs) = All (λ d. is_lt (slice_cmp nat_cmp d.key c.key) ≡ false) cs × KeysRise cs

second-not_lt : (r s t : Ordering) → r ≡ Equal → is_lt (ordering_then r (ordering_then s t)) ≡ false → is_lt s ≡ false
second-not_lt Less s t e h = cc
second-not_lt Equal Less t e h = cc
second-not_lt Equal Equal t e h = refl
second-not_lt Equal Greater t e h = refl
second-not_lt Greater s t e h = cc

key_not_below : (c d : Change) → entity_number d.entity ≡ entity_number c.entity → is_before (place_of d) (place_of c) ≡ false → is_lt (slice_cmp nat_cmp d.key c.key) ≡ false
unfolding is_before place_of place_cmp
key_not_below c d same h =
    second-not_lt (nat_cmp (entity_number d.entity) (entity_number c.entity)) (slice_cmp nat_cmp d.key c.key) (nat_cmp d.tx c.tx)
    (ap (λ n. nat_cmp n (entity_number c.entity)) same ∙ tied_itself nat_cmp_total (entity_number c.entity)) h

pub IsInOrder-KeysRise : (n : ℕ) (cs : List Change) → IsInOrder cs → All (λ c. entity_number c.entity ≡ n) cs → KeysRise cs
IsInOrder-KeysRise n [] order one = tt
IsInOrder-KeysRise n (c ∷ cs) order one =
    let P = λ (c : Change). entity_number c.entity ≡ n in
    let here = All-head P c cs one in
    let rest = All-tail P c cs one in
    (λ i z below. key_not_below c _ (rest i z below ∙ sym here) (order.0 i z below), IsInOrder-KeysRise n cs order.1 rest)

below-by : (r : Ordering) → is_lt (ordering_reverse r) ≡ false → (r ≡ Equal → ⊥) → r ≡ Less
below-by Less h n = refl
below-by Equal h n = absurd (n refl)
below-by Greater h n = cc

-- of two keys neither the same nor the other way round
below_else : (k l : List ℕ) → is_lt (slice_cmp nat_cmp l k) ≡ false → pointwise nat_eq k l ≡ false → IsBelow k l
below_else k l h other =
    below-by (slice_cmp nat_cmp k l)
    (ap is_lt (sym (nat_list_cmp_total.antisymm l k)) ∙ h)
    (λ same. no ((bytes_decides k l).1 (slice_cmp-IsAntisymmetric nat_cmp-IsAntisymmetric k l same)) other)
  where
    no : {t : Bool} → t ≡ true → t ≡ false → ⊥
    no e f = cc

chain-by : (k l m : List ℕ) (r : Ordering) → slice_cmp nat_cmp m l ≡ r → IsBelow k l → is_lt r ≡ false → IsBelow k m
chain-by k l m Less e below h = cc
chain-by k l m Equal e below h = subst (IsBelow k) (sym (slice_cmp-IsAntisymmetric nat_cmp-IsAntisymmetric m l e)) below
chain-by k l m Greater e below h =
    nat_list_cmp_total.trans k l m below (nat_list_cmp_total.antisymm l m ∙ ap ordering_reverse e)

-- a key below another is below all that aren't below the other
below_chain : (k l m : List ℕ) → IsBelow k l → is_lt (slice_cmp nat_cmp m l) ≡ false → IsBelow k m
below_chain k l m below h = chain-by k l m (slice_cmp nat_cmp m l) refl below h

-- where the changes of a key end, all later keys are above it
pub ends_below : (c : Change) (cs : List Change) → KeysRise (c ∷ cs) → goes_on c.key cs ≡ false → All (λ d. IsBelow c.key d.key) cs
ends_below c [] rise ends = All-nil (λ (d : Change). IsBelow c.key d.key)
ends_below c (d ∷ ds) rise ends =
    let P = λ (x : Change). is_lt (slice_cmp nat_cmp x.key c.key) ≡ false in
    let below = below_else c.key d.key (All-head P d ds rise.0) ends in
    All-cons (λ x. IsBelow c.key x.key) d ds below (λ i z at. below_chain c.key d.key _ below (rise.1.0 i z at))

keys_of-All-by : (P : List ℕ → Type 0) (c : Change) (cs : List Change) (t : Bool) → P c.key → All P (keys_of cs) → All P (cond t (keys_of cs) (c.key ∷ keys_of cs))
keys_of-All-by P c cs true here rest = rest
keys_of-All-by P c cs false here rest = All-cons P c.key (keys_of cs) here rest

pub keys_of-All : (P : List ℕ → Type 0) (cs : List Change) → All (λ c. P c.key) cs → All P (keys_of cs)
keys_of-All P [] all = All-nil P
keys_of-All P (c ∷ cs) all =
    keys_of-All-by P c cs (goes_on c.key cs) (All-head (λ c. P c.key) c cs all)
    (keys_of-All P cs (All-tail (λ c. P c.key) c cs all))

keys_of-ascend-by : (c : Change) (cs : List Change) (t : Bool) → goes_on c.key cs ≡ t → KeysRise (c ∷ cs) → KeysAscend (keys_of cs) → KeysAscend (cond t (keys_of cs) (c.key ∷ keys_of cs))
keys_of-ascend-by c cs true e rise rest = rest
keys_of-ascend-by c cs false e rise rest = (keys_of-All (IsBelow c.key) cs (ends_below c cs rise e), rest)

pub keys_of-ascend : (cs : List Change) → KeysRise cs → KeysAscend (keys_of cs)
keys_of-ascend [] rise = tt
keys_of-ascend (c ∷ cs) rise = keys_of-ascend-by c cs (goes_on c.key cs) refl rise (keys_of-ascend cs rise.1)

filter-ascend-by : (p : List ℕ → Bool) (k : List ℕ) (ks : List (List ℕ)) (t : Bool) → All (IsBelow k) ks → KeysAscend (filter p ks) → KeysAscend (cond t (k ∷ filter p ks) (filter p ks))
filter-ascend-by p k ks true below rest = (All-filter p (IsBelow k) ks below, rest)
filter-ascend-by p k ks false below rest = rest

filter-ascend : (p : List ℕ → Bool) (ks : List (List ℕ)) → KeysAscend ks → KeysAscend (filter p ks)
filter-ascend p [] up = tt
filter-ascend p (k ∷ ks) up = filter-ascend-by p k ks (p k) up.0 (filter-ascend p ks up.1)

-- ---- what a `.kv` file may hold

changes_over-IsInOrder : (size : ℕ) (cs : List Change) (e : Entity) (a b : ℕ) → IsInOrder (changes_over size cs e a b)
unfolding changes_over
changes_over-IsInOrder size cs e a b = arranged-IsInOrder (filter (is_within e (a * size) (b * size)) cs)

pub changes_over-KeysRise : (size : ℕ) (cs : List Change) (e : Entity) (a b : ℕ) → KeysRise (changes_over size cs e a b)
changes_over-KeysRise size cs e a b =
    IsInOrder-KeysRise (entity_number e) (changes_over size cs e a b) (changes_over-IsInOrder size cs e a b)
    (λ i z below. (changes_over-All size cs e a b i z below).entity)

kept-All-by : (P : List ℕ → Type 0) (p : List ℕ → Bool) (ks : List (List ℕ)) (t : Bool) → All P ks → All P (cond t (filter p ks) ks)
kept-All-by P p ks true all = All-filter p P ks all
kept-All-by P p ks false all = all

kept-ascend-by : (p : List ℕ → Bool) (ks : List (List ℕ)) (t : Bool) → KeysAscend ks → KeysAscend (cond t (filter p ks) ks)
kept-ascend-by p ks true up = filter-ascend p ks up
kept-ascend-by p ks false up = up

pub pair_keys-of : (cs : List Change) (e : Entity) (n : ℕ) (ks : List (List ℕ)) → pair_keys (map (pair_at cs e n) ks) ≡ ks
pair_keys-of cs e n [] = refl
pair_keys-of cs e n (k ∷ ks) = λ i. k ∷ pair_keys-of cs e n ks i

value-fits : (o : Option Change) → IfSome o IsChange → IfSome (option_and_then value_of o) IsValue
value-fits None fit = tt
value-fits (Some c) fit = of_act c.act fit.value
  where
    of_act : (act : Act) → HasValue act → IfSome (value_of_act act) IsValue
    of_act (Put value) h = h
    of_act Del h = tt
    of_act Mark h = tt

-- each value of a list is one that may be put
pub value_at-fits : (cs : List Change) (e : Entity) (k : List ℕ) (n : ℕ) → All IsChange cs → IfSome (value_at cs e k n) IsValue
unfolding value_at last_change
value_at-fits cs e k n fit = value-fits _ (last_where-All (is_of_before e k n) IsChange cs fit)

word-within : (o : Option (List ℕ)) → IfSome o IsValue → length (word_of o) ≤ 65535
word-within None fit = omega arith
word-within (Some value) fit = fit.within

pub kv_contents-ArePairs : (size : ℕ) (cs : List Change) (e : Entity) (a b : ℕ) → All IsChange cs → ArePairs (kv_contents size cs e a b)
unfolding kv_contents
kv_contents-ArePairs size cs e a b fit =
    let n = b * size in
    let p = λ (k : List ℕ). is_some (value_at cs e k n) in
    let rows = changes_over size cs e a b in
    let keys = keys_of rows in
    let kept = cond (a == 0) (filter p keys) keys in
    record {
      ascend =
          subst KeysAscend (sym (pair_keys-of cs e n kept))
          (kept-ascend-by p keys (a == 0) (keys_of-ascend rows (changes_over-KeysRise size cs e a b)));
      fit =
          All-map IsPair (pair_at cs e n) kept
          (λ i z below. pair_fits cs e n _ (kept-All-by IsKey p keys (a == 0) (keys_of-All IsKey rows (λ i z below. (changes_over-keep IsChange size cs e a b fit i z below).key)) i z below) fit);
    }
  where
    pair_fits : (cs : List Change) (e : Entity) (n : ℕ) (k : List ℕ) → IsKey k → All IsChange cs → IsPair (pair_at cs e n k)
    pair_fits cs e n k key fit = record {
      not_empty = key.not_empty;
      key_within = key.within;
      value_within = word-within (value_at cs e k n) (value_at-fits cs e k n fit);
    }
