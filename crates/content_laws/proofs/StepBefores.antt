-- The sorted changes of steps, with the values before the steps, give the value before each change.
use Rattle.std.specs.Prelude.{◌≡◌, ◌≢◌, ℕ, ◌*◌, ◌≤◌, ◌<◌, ◌==◌, ◌&&◌, nat_eq, nat_le, nat_lt, Bool, true, false, cond, IsTrue, List, [], ◌∷◌, ◌++◌, map, All, Option, Some, None, refl}
use Rattle.std.proofs.Common.{get_or, sym, ◌∙◌, ap, arith, subst, append_assoc, le-ltb, lt-ltb, ltb-true, eq-eqb}
use Rattle.std.specs.Option.{option_or}
use Rattle.std.specs.List.{filter}
use Rattle.std.specs.Ordering.{nat_cmp, is_lt}
use Rattle.std.specs.Cmp.Lexicographic.{pointwise, slice_cmp, bytes_decides}
use Rattle.std.proofs.lemmas.List.Elements.{All-cons, All-head, All-tail, All-nil, All-filter}
use Rattle.agg_model.specs.declared.entity.Entity.{Entity}
use Rattle.agg_model.specs.declared.change.Change.{Change}
use Rattle.agg_model.specs.Entity.{entity_number}
use Rattle.agg_model.specs.Place.{place_of, is_before, is_of}
use Rattle.agg_model.specs.Batch.{AscendFrom, HasNoRepeats}
use Rattle.agg_model.specs.ChangeList.{last_where, value_at, value_of}
use Rattle.agg_model.specs.Arranged.{arranged, Ascend}
use Rattle.agg_model.specs.Contents.{is_within, is_of_within, changes_over, word_of, before_of, v_contents}
use Rattle.agg_model.specs.Pairs.{IsBelow, hot_change, value_over}
use Rattle.agg_model.proofs.ArrangedLaws.{arranged-Ascend, last_where-append, option_or-none}
use Rattle.agg_model.proofs.PlaceOrder.{place_of-is_of, is_before-place}
use Rattle.agg_model.proofs.ContentsLaws.{KeysRise, ends_below, changes_over-All, changes_over-KeysRise, filter-arranged}
use Rattle.agg_model.proofs.CoverageLaws.{value_at-split}
use Rattle.agg_model.proofs.LastChangesLaws.{arranged-last}
use Rattle.content_laws.specs.Steps.{value_behind, befores_behind}
use Rattle.content_laws.proofs.PairParts.{none_where}
use Rattle.content_laws.proofs.StepLists.{filter-up}

-- the change is one of the key, with a number below this one
abbrev is_earlier : Entity → List ℕ → ℕ → Change → Bool
is_earlier e k n x = is_of e k x && nat_lt x.tx n

-- ---- the last of sorted changes of one entity that is of the key of one of them, and earlier

module _ (e : Entity) where
  abbrev IsOne : Change → Type 0
  IsOne c = entity_number c.entity ≡ entity_number e

  key-is_of : (k : List ℕ) (c : Change) → IsOne c → is_of e k c ≡ pointwise nat_eq c.key k
  unfolding is_of
  key-is_of k c one = λ i. eq-eqb (entity_number c.entity) (entity_number e) one i && pointwise nat_eq c.key k

  lower-by : (c d : Change) → is_of e c.key c ≡ true → is_of e c.key d ≡ true → is_before (place_of c) (place_of d) ≡ true → c.tx < d.tx
  lower-by c d is also before =
      ltb-true c.tx d.tx
      (sym ((λ i. is_before (place_of-is_of e c.key c is i) (place_of-is_of e c.key d also i)) ∙ is_before-place e c.key c.tx d.tx) ∙ before)

  itself : (c : Change) → IsOne c → is_of e c.key c ≡ true
  itself c one = key-is_of c.key c one ∙ (bytes_decides c.key c.key).1 refl

  later-by : (c d : Change) (t : Bool) → is_of e c.key d ≡ t → IsOne c → is_before (place_of c) (place_of d) ≡ true → is_earlier e c.key c.tx d ≡ false
  later-by c d true is one before =
      let after = lower-by c d (itself c one) is before in
      (λ i. is i && nat_lt d.tx c.tx) ∙ le-ltb d.tx c.tx (omega arith)
  later-by c d false is one before = λ i. is i && nat_lt d.tx c.tx

  no_more : (n : ℕ) → nat_lt n n ≡ false
  no_more n = le-ltb n n (omega arith)

  and_false : (t : Bool) → (t && false) ≡ false
  and_false true = refl
  and_false false = refl

  -- neither the change itself nor one behind it is earlier
  none-behind : (c : Change) (cs : List Change) → IsOne c → Ascend (c ∷ cs) → last_where (is_earlier e c.key c.tx) (c ∷ cs) ≡ None
  none-behind c cs one up =
      none_where (is_earlier e c.key c.tx) (c ∷ cs)
      (All-cons (λ x. is_earlier e c.key c.tx x ≡ false) c cs
      (ap (λ t. is_of e c.key c && t) (no_more c.tx) ∙ and_false (is_of e c.key c))
      (λ i z below. later-by c _ _ refl one (up.0 i z below)))

  -- of the changes before the one before it, none is of its key, where that is of another key
  other-by : (q c d : Change) (t : Bool) → pointwise nat_eq d.key c.key ≡ t → IsBelow q.key c.key → is_lt (slice_cmp nat_cmp q.key d.key) ≡ false → t ≡ false
  other-by q c d true is below rise =
      let wrong : is_lt (slice_cmp nat_cmp q.key c.key) ≡ false = subst (λ k. is_lt (slice_cmp nat_cmp q.key k) ≡ false) ((bytes_decides d.key c.key).0 is) rise in
      let less : is_lt (slice_cmp nat_cmp q.key c.key) ≡ true = ap is_lt below in
      cc
  other-by q c d false is below rise = refl

  not-earlier : (k : List ℕ) (n : ℕ) (d : Change) → IsOne d → pointwise nat_eq d.key k ≡ false → is_earlier e k n d ≡ false
  not-earlier k n d one is = λ i. (key-is_of k d one ∙ is) i && nat_lt d.tx n

  init-rise : (init : List Change) (q : Change) (rest : List Change) → KeysRise (init ++ q ∷ rest) → All (λ d. is_lt (slice_cmp nat_cmp q.key d.key) ≡ false) init
  init-rise [] q rest rise = All-nil (λ d. is_lt (slice_cmp nat_cmp q.key d.key) ≡ false)
  init-rise (d ∷ ds) q rest rise =
      All-cons (λ d. is_lt (slice_cmp nat_cmp q.key d.key) ≡ false) d ds
      (at-middle (λ x. is_lt (slice_cmp nat_cmp x.key d.key) ≡ false) ds q rest rise.0) (init-rise ds q rest rise.1)
    where
      at-middle : (P : Change → Type 0) (xs : List Change) (q : Change) (rest : List Change) → All P (xs ++ q ∷ rest) → P q
      at-middle P [] q rest all = All-head P q rest all
      at-middle P (x ∷ xs) q rest all = at-middle P xs q rest (All-tail P x (xs ++ q ∷ rest) all)

  behind-init : (P : Change → Type 0) (init rest : List Change) → All P (init ++ rest) → All P rest
  behind-init P [] rest all = all
  behind-init P (x ∷ xs) rest all = behind-init P xs rest (All-tail P x (xs ++ rest) all)

  in-init : (P : Change → Type 0) (init rest : List Change) → All P (init ++ rest) → All P init
  in-init P [] rest all = All-nil P
  in-init P (x ∷ xs) rest all =
      All-cons P x xs (All-head P x (xs ++ rest) all) (in-init P xs rest (All-tail P x (xs ++ rest) all))

  rise-behind : (init rest : List Change) → KeysRise (init ++ rest) → KeysRise rest
  rise-behind [] rest rise = rise
  rise-behind (x ∷ xs) rest rise = rise-behind xs rest rise.1

  up-behind : (init rest : List Change) → Ascend (init ++ rest) → Ascend rest
  up-behind [] rest up = up
  up-behind (x ∷ xs) rest up = up-behind xs rest up.1

  -- the last earlier one is the change just before it, where that is of its key
  last-by : (init : List Change) (q c : Change) (cs : List Change) (t : Bool) → pointwise nat_eq q.key c.key ≡ t → All IsOne (init ++ q ∷ c ∷ cs) → KeysRise (init ++ q ∷ c ∷ cs) → Ascend (init ++ q ∷ c ∷ cs)
      → option_or (cond (is_earlier e c.key c.tx q) (Some q) None) (last_where (is_earlier e c.key c.tx) init) ≡ cond t (Some q) None
  last-by init q c cs true is one rise up =
      let ones = behind-init IsOne init (q ∷ c ∷ cs) one in
      let q_one = All-head IsOne q (c ∷ cs) ones in
      let c_one = All-head IsOne c cs (All-tail IsOne q (c ∷ cs) ones) in
      let before = All-head (λ d. IsTrue (is_before (place_of q) (place_of d))) c cs (up-behind init (q ∷ c ∷ cs) up).0 in
      let keys = (bytes_decides q.key c.key).0 is in
      let also : is_of e q.key c ≡ true = subst (λ k. is_of e k c ≡ true) (sym keys) (itself c c_one) in
      let low = lower-by q c (itself q q_one) also before in
      (λ i. option_or (cond ((key-is_of c.key q q_one ∙ is) i && lt-ltb q.tx c.tx low i) (Some q) None) (last_where (is_earlier e c.key c.tx) init))
  last-by init q c cs false is one rise up =
      let ones = behind-init IsOne init (q ∷ c ∷ cs) one in
      let q_one = All-head IsOne q (c ∷ cs) ones in
      let below = All-head (λ d. IsBelow q.key d.key) c cs (ends_below q (c ∷ cs) (rise-behind init (q ∷ c ∷ cs) rise) is) in
      let others = init-rise init q (c ∷ cs) rise in
      let init_ones = in-init IsOne init (q ∷ c ∷ cs) one in
      (λ i. option_or (cond (not-earlier c.key c.tx q q_one is i) (Some q) None) (last_where (is_earlier e c.key c.tx) init))
      ∙ none_where (is_earlier e c.key c.tx) init
      (λ i z here. not-earlier c.key c.tx (get_or init i z) (init_ones i z here) (other-by q c (get_or init i z) (pointwise nat_eq (get_or init i z).key c.key) refl below (others i z here)))

  last-before : (init : List Change) (q c : Change) (cs : List Change) → All IsOne (init ++ q ∷ c ∷ cs) → KeysRise (init ++ q ∷ c ∷ cs) → Ascend (init ++ q ∷ c ∷ cs)
      → last_where (is_earlier e c.key c.tx) (init ++ q ∷ c ∷ cs) ≡ cond (pointwise nat_eq q.key c.key) (Some q) None
  last-before init q c cs one rise up =
      let p = is_earlier e c.key c.tx in
      let c_one = All-head IsOne c cs (All-tail IsOne q (c ∷ cs) (behind-init IsOne init (q ∷ c ∷ cs) one)) in
      last_where-append p init (q ∷ c ∷ cs)
      ∙ ap (λ o. option_or (option_or o (cond (p q) (Some q) None)) (last_where p init)) (none-behind c cs c_one (up-behind init (q ∷ c ∷ cs) up).1)
      ∙ last-by init q c cs (pointwise nat_eq q.key c.key) refl one rise up

-- ---- the walk

module _ (all : List Change) (e : Entity) (from to : ℕ) (rows : List Change)
    (told : (k : List ℕ) (n : ℕ) → from ≤ n → n < to → value_at all e k n ≡ value_over (value_at all e k from) (last_where (is_earlier e k n) rows)) where
  abbrev found : List ℕ → Option (List ℕ)
  found k = value_at all e k from

  record IsRow (c : Change) : Type 0 where
    one : entity_number c.entity ≡ entity_number e
    low : from ≤ c.tx
    high : c.tx < to

  over-by : (q c : Change) (t : Bool) → value_over (found c.key) (cond t (Some q) None) ≡ cond t (value_of q) (found c.key)
  over-by q c true = refl
  over-by q c false = refl

  walk : (init : List Change) (q : Change) (post : List Change) → rows ≡ init ++ q ∷ post → All IsRow rows → KeysRise rows → Ascend rows
      → map (before_of all e) post ≡ befores_behind found (Some q) post
  walk init q [] is rows_are rise up = refl
  walk init q (c ∷ cs) is rows_are rise up =
      let ones : All (IsOne e) (init ++ q ∷ c ∷ cs) = subst (All (IsOne e)) is (λ i z below. (rows_are i z below).one) in
      let here = All-head IsRow c cs (All-tail IsRow q (c ∷ cs) (behind-init e IsRow init (q ∷ c ∷ cs) (subst (All IsRow) is rows_are))) in
      let value : value_at all e c.key c.tx ≡ value_behind found (Some q) c.key =
      told c.key c.tx here.low here.high
      ∙ ap (λ xs. value_over (found c.key) (last_where (is_earlier e c.key c.tx) xs)) is
      ∙ ap (value_over (found c.key)) (last-before e init q c cs ones (subst KeysRise is rise) (subst Ascend is up))
      ∙ over-by q c (pointwise nat_eq q.key c.key) in
      let next : rows ≡ (init ++ q ∷ []) ++ c ∷ cs = is ∙ sym (append_assoc init (q ∷ []) (c ∷ cs)) in
      λ i. record { key = c.key; tx = c.tx; value = word_of (value i) } ∷ walk (init ++ q ∷ []) c cs next rows_are rise up i

  walk-first : (post : List Change) → rows ≡ post → All IsRow rows → KeysRise rows → Ascend rows → map (before_of all e) post ≡ befores_behind found None post
  walk-first [] is rows_are rise up = refl
  walk-first (c ∷ cs) is rows_are rise up =
      let here = All-head IsRow c cs (subst (All IsRow) is rows_are) in
      let value : value_at all e c.key c.tx ≡ found c.key =
      told c.key c.tx here.low here.high
      ∙ ap (λ xs. value_over (found c.key) (last_where (is_earlier e c.key c.tx) xs)) is
      ∙ ap (value_over (found c.key)) (none-behind e c cs here.one (subst Ascend is up)) in
      λ i. record { key = c.key; tx = c.tx; value = word_of (value i) } ∷ walk [] c cs is rows_are rise up i

-- ---- sorted changes of steps

filter-new-by : (p : Change → Bool) (c : Change) (cs : List Change) (t : Bool) → All (λ d. place_of d ≢ place_of c) cs → HasNoRepeats (filter p cs) → HasNoRepeats (cond t (c ∷ filter p cs) (filter p cs))
filter-new-by p c cs true new rest = (All-filter p (λ d. place_of d ≢ place_of c) cs new, rest)
filter-new-by p c cs false new rest = rest

filter-new : (p : Change → Bool) (cs : List Change) → HasNoRepeats cs → HasNoRepeats (filter p cs)
filter-new p [] none = tt
filter-new p (c ∷ cs) none = filter-new-by p c cs (p c) none.0 (filter-new p cs none.1)

rows-up : (size : ℕ) (cs : List Change) (e : Entity) (a b : ℕ) → HasNoRepeats cs → Ascend (changes_over size cs e a b)
unfolding changes_over
rows-up size cs e a b none = arranged-Ascend (filter (is_within e (a * size) (b * size)) cs) (filter-new (is_within e (a * size) (b * size)) cs none)

-- ---- the changes of steps tell the values in them

last-filtered-by : (q : Change → Bool) (c : Change) (found : List Change) (o : Option Change) (t : Bool) → last_where q found ≡ o → last_where q (cond t (c ∷ found) found) ≡ option_or o (cond (t && q c) (Some c) None)
last-filtered-by q c found o true is = λ i. option_or (is i) (cond (q c) (Some c) None)
last-filtered-by q c found o false is = is ∙ sym (option_or-none o)

-- the last one that passes a test among those that pass another
last-filtered : (p q : Change → Bool) (cs : List Change) → last_where q (filter p cs) ≡ last_where (λ c. p c && q c) cs
last-filtered p q [] = refl
last-filtered p q (c ∷ cs) =
    last-filtered-by q c (filter p cs) (last_where (λ c. p c && q c) cs) (p c) (last-filtered p q cs)

last-agree : (p q : Change → Bool) → ((c : Change) → p c ≡ q c) → (cs : List Change) → last_where p cs ≡ last_where q cs
last-agree p q same [] = refl
last-agree p q same (c ∷ cs) = λ i. option_or (last-agree p q same cs i) (cond (same c i) (Some c) None)

module _ (e : Entity) (k : List ℕ) (from n to : ℕ) (high : n ≤ to) where
  kept-by : (c : Change) (one two : Bool) → nat_lt c.tx n ≡ two
      → ((one && (nat_le from c.tx && nat_lt c.tx to)) && two) ≡ (one && (nat_le from c.tx && two))
  kept-by c true true is =
      let low = ltb-true c.tx n is in
      ap (λ t. (nat_le from c.tx && t) && true) (lt-ltb c.tx to (omega (arith, high, low))) ∙ and_true (nat_le from c.tx && true)
    where
      and_true : (t : Bool) → (t && true) ≡ t
      and_true true = refl
      and_true false = refl
  kept-by c true false is = and_false (nat_le from c.tx && nat_lt c.tx to) ∙ sym (and_false (nat_le from c.tx))
    where
      and_false : (t : Bool) → (t && false) ≡ false
      and_false true = refl
      and_false false = refl
  kept-by c false two is = refl

  below-by : (c : Change) (found : List Change) (all below : Bool) → (all && nat_lt c.tx n) ≡ below
      → filter (λ c. nat_lt c.tx n) (cond all (c ∷ found) found) ≡ cond below (c ∷ filter (λ c. nat_lt c.tx n) found) (filter (λ c. nat_lt c.tx n) found)
  below-by c found true below is = ap (λ t. cond t (c ∷ filter (λ c. nat_lt c.tx n) found) (filter (λ c. nat_lt c.tx n) found)) is
  below-by c found false below is = ap (λ t. cond t (c ∷ filter (λ c. nat_lt c.tx n) found) (filter (λ c. nat_lt c.tx n) found)) is

  -- of the changes within, those below n
  below-within : (cs : List Change) → filter (λ c. nat_lt c.tx n) (filter (is_within e from to) cs) ≡ filter (is_within e from n) cs
  unfolding is_within
  below-within [] = refl
  below-within (c ∷ cs) =
      below-by c (filter (is_within e from to) cs) (is_within e from to c) (is_within e from n c)
      (kept-by c (entity_number c.entity == entity_number e) (nat_lt c.tx n) refl)
      ∙ (λ i. cond (is_within e from n c) (c ∷ below-within cs i) (below-within cs i))

  swapped : (t u : Bool) → (t && u) ≡ (u && t)
  swapped true true = refl
  swapped true false = refl
  swapped false true = refl
  swapped false false = refl

  same-earlier : (c : Change) → (nat_lt c.tx n && is_of e k c) ≡ is_earlier e k n c
  same-earlier c = swapped (nat_lt c.tx n) (is_of e k c)

  one-key-window : (one key window : Bool) → ((one && window) && (one && key)) ≡ ((one && key) && window)
  one-key-window true key window = swapped window key
  one-key-window false key window = refl

  same-within : (c : Change) → (is_within e from n c && is_of e k c) ≡ is_of_within e k from n c
  unfolding is_within is_of_within is_of
  same-within c =
      one-key-window (entity_number c.entity == entity_number e) (pointwise nat_eq c.key k) (nat_le from c.tx && nat_lt c.tx n)

  hot-earlier : (cs : List Change) → AscendFrom 0 cs → hot_change cs e k from n ≡ last_where (is_earlier e k n) (arranged (filter (is_within e from to) cs))
  unfolding hot_change
  hot-earlier cs up =
      sym (last-filtered (is_within e from n) (is_of e k) cs ∙ last-agree (λ c. is_within e from n c && is_of e k c) (is_of_within e k from n) same-within cs)
      ∙ sym (arranged-last e k (filter (is_within e from n) cs) (filter-up (is_within e from n) 0 cs up))
      ∙ ap (last_where (is_of e k))
      (ap arranged (sym (below-within cs)) ∙ sym (filter-arranged (λ c. nat_lt c.tx n) (filter (is_within e from to) cs)))
      ∙ last-filtered (λ c. nat_lt c.tx n) (is_of e k) (arranged (filter (is_within e from to) cs))
      ∙ last-agree (λ c. nat_lt c.tx n && is_of e k c) (is_earlier e k n) same-earlier (arranged (filter (is_within e from to) cs))

hot-over : (size : ℕ) (cs : List Change) (e : Entity) (a b : ℕ) (n : ℕ) (k : List ℕ) → n ≤ b * size → AscendFrom 0 cs → hot_change cs e k (a * size) n ≡ last_where (is_earlier e k n) (changes_over size cs e a b)
unfolding changes_over
hot-over size cs e a b n k high up = hot-earlier e k (a * size) n (b * size) high cs up

-- the values before the steps and the sorted changes in them alone give the rows
pub v-behind : (size : ℕ) (cs : List Change) (e : Entity) (a b : ℕ) → AscendFrom 0 cs → HasNoRepeats cs
    → v_contents size cs e a b ≡ befores_behind (λ k. value_at cs e k (a * size)) None (changes_over size cs e a b)
unfolding v_contents
v-behind size cs e a b up none =
    let rows = changes_over size cs e a b in
    walk-first cs e (a * size) (b * size) rows
    (λ k n low high. value_at-split cs e k (a * size) n low up ∙ ap (value_over (value_at cs e k (a * size))) (hot-over size cs e a b n k (omega (arith, high)) up))
    rows refl
    (λ i z below. let h = changes_over-All size cs e a b i z below in record { one = h.entity; low = h.low; high = h.high })
    (changes_over-KeysRise size cs e a b)
    (rows-up size cs e a b none)
