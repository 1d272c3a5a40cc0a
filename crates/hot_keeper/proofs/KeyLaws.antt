-- Laws of the looks that find the keys of an entity.
use Rattle.std.proofs.Common.{◌≡◌, ◌≢◌, ℕ, ◌<◌, ◌≤◌, Bool, true, false, not, cond, ◌&&◌, List, [], ◌∷◌, ◌++◌, length, take, map, All, Option, Some, None, refl, sym, ap, subst, ◌∙◌, arith, append-nil, append_assoc, ltb-true, ltb-false, leb-true, eqb-true, eq-eqb}
use Rattle.std.specs.Prelude.{◌==◌, nat_eq, nat_le, nat_lt}
use Rattle.std.specs.List.{filter}
use Rattle.std.specs.declared.cmp.Ordering.{Ordering}
use Rattle.std.specs.declared.cmp.Ordering.TheVariants.{Less, Equal, Greater}
use Rattle.std.specs.Ordering.{nat_cmp, ordering_then, ordering_reverse, is_lt, is_gt}
use Rattle.std.specs.Cmp.{IsTotalOrder, nat_cmp_total, tied_itself, upto}
use Rattle.std.specs.Cmp.Lexicographic.{slice_cmp, pointwise, nat_list_cmp_total, bytes_decides}
use Rattle.std.specs.FinMap.{nat_cmp-IsAntisymmetric, slice_cmp-IsAntisymmetric}
use Rattle.std.proofs.lemmas.Bool.{lt-ltb, le-leb}
use Rattle.std.proofs.lemmas.Cmp.{ranked}
use Rattle.std.proofs.lemmas.List.{map-append, length-append}
use Rattle.std.proofs.lemmas.List.Elements.{All-head, All-tail, All-map, All-filter, filter-append, filter_passes}
use Rattle.agg_outside.specs.declared.rows.RowId.{RowId}
use Rattle.agg_outside.specs.declared.rows.Row.{Row}
use Rattle.agg_outside.specs.Rows.{Held, id_cmp, is_before, ascends, first_from, rows_from}
use Rattle.agg_outside.specs.RowOrder.{before_itself, before_then_not, ascends-after, rows_from-place, none_before-from}
use Rattle.agg_model.specs.declared.entity.Entity.{Entity}
use Rattle.agg_model.specs.declared.change.Change.{Change}
use Rattle.agg_model.specs.Entity.{entity_number}
use Rattle.agg_model.specs.Contents.{is_within, keys_of}
use Rattle.row_epochs.specs.Seen.{is_seen, seen}
use Rattle.row_epochs.specs.Changes.{change_of, changes_seen}
use Rattle.row_epochs.specs.Places.{behind, place_at}
use Rattle.row_epochs.specs.Versions.{IsVersion, AreVersions}
use Rattle.row_epochs.proofs.RowWalks.{entity_number-entity_of, rows_from-found, rows_from-none_found, before_behind, le_not}
use Rattle.row_epochs.proofs.LastWalks.{rows_before, rows_before-none}
use Rattle.row_epochs.proofs.WriteLaws.{ascends-filter}
use Rattle.hot_keeper.specs.Windows.{is_in_window, window_keys, key_place, tells_key, keys_with, next_key_place}
use Rattle.row_epochs.proofs.PieceWalks.{taken_all}
use Rattle.hot_keeper.proofs.PieceLaws.{take-all}
use Rattle.hot_keeper.specs.Skips.{IsNextLook}
use Rattle.hot_keeper.proofs.StepLaws.{skip, none_from}
use Rattle.hot_keeper.proofs.TimesLaws.{rows_from-test, from_All, first_All, first_not_before}

-- ---- the keys of sorted changes

change_key : (r : Row) → (change_of r).key ≡ r.id.key
unfolding change_of
change_key r = refl

apart_by : (k l : List ℕ) (t : Bool) → pointwise nat_eq k l ≡ t → l ≢ k → t ≡ false
apart_by k l true e n = absurd (n (sym ((bytes_decides k l).0 e)))
apart_by k l false e n = refl

-- changes of one key, and then those of others
keys_front : (k : List ℕ) (c : Change) (ds es : List Change) → c.key ≡ k → All (λ d. d.key ≡ k) ds → All (λ d. d.key ≢ k) es → keys_of (c ∷ (ds ++ es)) ≡ k ∷ keys_of es
keys_front k c [] [] here same other = ap (λ (l : List ℕ). l ∷ []) here
keys_front k c [] (d ∷ es) here same other =
    let n : d.key ≢ c.key = λ e. All-head (λ (x : Change). x.key ≢ k) d es other (e ∙ here) in
    ap (λ (t : Bool). cond t (keys_of (d ∷ es)) (c.key ∷ keys_of (d ∷ es))) (apart_by c.key d.key (pointwise nat_eq c.key d.key) refl n)
    ∙ ap (λ (l : List ℕ). l ∷ keys_of (d ∷ es)) here
keys_front k c (d ∷ ds) es here same other =
    let P = λ (x : Change). x.key ≡ k in
    let e : pointwise nat_eq c.key d.key ≡ true = (bytes_decides c.key d.key).1 (here ∙ sym (All-head P d ds same)) in
    ap (λ (t : Bool). cond t (keys_of (d ∷ (ds ++ es))) (c.key ∷ keys_of (d ∷ (ds ++ es)))) e
    ∙ keys_front k d ds es (All-head P d ds same) (All-tail P d ds same) other

-- ---- orders

lt_first : (r s : Ordering) → is_lt (ordering_then r s) ≡ true → r ≢ Greater
lt_first Less s h = λ e. cc e
lt_first Equal s h = λ e. cc e
lt_first Greater s h = λ e. cc h

lt_second : (r s : Ordering) → is_lt (ordering_then r s) ≡ true → r ≡ Equal → is_lt s ≡ true
lt_second Less s h e = cc e
lt_second Equal s h e = h
lt_second Greater s h e = cc e

ge_first : (r s : Ordering) → is_lt (ordering_then r s) ≡ false → r ≢ Less
ge_first Less s h = λ e. cc h
ge_first Equal s h = λ e. cc e
ge_first Greater s h = λ e. cc e

ge_second : (r s : Ordering) → is_lt (ordering_then r s) ≡ false → r ≡ Equal → is_lt s ≡ false
ge_second Less s h e = cc h
ge_second Equal s h e = h
ge_second Greater s h e = cc e

both_ways_by : {A : Type 0} (cmp : A → A → Ordering) (a b : A) (o : Ordering) → IsTotalOrder cmp → cmp a b ≡ o → o ≢ Greater → cmp b a ≢ Greater → o ≡ Equal
both_ways_by cmp a b Less total e n m = absurd (m (total.antisymm b a ∙ ap ordering_reverse e))
both_ways_by cmp a b Equal total e n m = refl
both_ways_by cmp a b Greater total e n m = absurd (n refl)

both_ways : {A : Type 0} (cmp : A → A → Ordering) (a b : A) → IsTotalOrder cmp → cmp a b ≢ Greater → cmp b a ≢ Greater → cmp a b ≡ Equal
both_ways cmp a b total n m = both_ways_by cmp a b (cmp a b) total refl n m

le_by : (a b : ℕ) (o : Ordering) → o ≡ nat_cmp a b → o ≢ Greater → a ≤ b
le_by a b Less e n = let h : a < b = ranked a b Less e in omega arith
le_by a b Equal e n = let h : a ≡ b = nat_cmp-IsAntisymmetric a b (sym e) in omega arith
le_by a b Greater e n = absurd (n refl)

le_from : (a b : ℕ) → nat_cmp a b ≢ Greater → a ≤ b
le_from a b n = le_by a b (nat_cmp a b) refl n

ge_by : (a b : ℕ) (o : Ordering) → o ≡ nat_cmp a b → o ≢ Less → b ≤ a
ge_by a b Less e n = absurd (n refl)
ge_by a b Equal e n = let h : a ≡ b = nat_cmp-IsAntisymmetric a b (sym e) in omega arith
ge_by a b Greater e n = let h : b < a = ranked a b Greater e in omega arith

ge_from : (a b : ℕ) → nat_cmp a b ≢ Less → b ≤ a
ge_from a b n = ge_by a b (nat_cmp a b) refl n

lt_by : (a b m : ℕ) (o : Ordering) → o ≡ nat_cmp a b → is_lt (ordering_then o (nat_cmp m 0)) ≡ true → a < b
lt_by a b m Less e h = ranked a b Less e
lt_by a b m Equal e h = absurd (none m (nat_cmp m 0) refl h)
  where
    none : (m : ℕ) (o : Ordering) → o ≡ nat_cmp m 0 → is_lt o ≡ true → ⊥
    none m Less e h = let low : m < 0 = ranked m 0 Less e in omega arith
    none m Equal e h = cc h
    none m Greater e h = cc h
lt_by a b m Greater e h = cc h

-- before in the order of ids, part by part
pub rest_of : (a b : RowId) → Ordering
rest_of a b = ordering_then (nat_cmp a.tx b.tx) (nat_cmp a.born b.born)

cmp_parts : (a b : RowId) → id_cmp a b ≡ ordering_then (nat_cmp a.entity b.entity) (ordering_then (slice_cmp nat_cmp a.key b.key) (rest_of a b))
unfolding id_cmp rest_of
cmp_parts a b = refl

rest_parts : (a b : RowId) → rest_of a b ≡ ordering_then (nat_cmp a.tx b.tx) (nat_cmp a.born b.born)
unfolding rest_of
rest_parts a b = refl

entity_up : (a b : RowId) → is_before a b ≡ true → a.entity ≤ b.entity
entity_up a b h = le_from a.entity b.entity (lt_first _ _ (ap is_lt (sym (cmp_parts a b)) ∙ h))

entity_not_down : (a b : RowId) → is_before a b ≡ false → b.entity ≤ a.entity
entity_not_down a b h = ge_from a.entity b.entity (ge_first _ _ (ap is_lt (sym (cmp_parts a b)) ∙ h))

nat_same : (a b : ℕ) → a ≡ b → nat_cmp a b ≡ Equal
nat_same a b e = ap (λ n. nat_cmp a n) (sym e) ∙ tied_itself nat_cmp_total a

list_same : (a b : List ℕ) → a ≡ b → slice_cmp nat_cmp a b ≡ Equal
list_same a b e = ap (λ (n : List ℕ). slice_cmp nat_cmp a n) (sym e) ∙ tied_itself nat_list_cmp_total a

-- of one entity, the keys decide first
keys_up : (a b : RowId) → is_before a b ≡ true → a.entity ≡ b.entity → is_lt (ordering_then (slice_cmp nat_cmp a.key b.key) (rest_of a b)) ≡ true
keys_up a b h same = lt_second _ _ (ap is_lt (sym (cmp_parts a b)) ∙ h) (nat_same a.entity b.entity same)

keys_not_down : (a b : RowId) → is_before a b ≡ false → a.entity ≡ b.entity → is_lt (ordering_then (slice_cmp nat_cmp a.key b.key) (rest_of a b)) ≡ false
keys_not_down a b h same = ge_second _ _ (ap is_lt (sym (cmp_parts a b)) ∙ h) (nat_same a.entity b.entity same)

rest_up : (a b : RowId) → is_before a b ≡ true → a.entity ≡ b.entity → a.key ≡ b.key → is_lt (rest_of a b) ≡ true
rest_up a b h same key = lt_second _ _ (keys_up a b h same) (list_same a.key b.key key)

-- between a row and a place of its key are rows of that key alone
pub record Between (r q x : RowId) : Type 0 where
  pub entity : x.entity ≡ r.entity
  pub key : x.key ≡ r.key
  pub up : r.tx ≤ x.tx
  pub down : is_lt (rest_of x q) ≡ true
  pub above : is_before r x ≡ true
  pub under : is_before x q ≡ true

between : (r q x : RowId) → q.entity ≡ r.entity → q.key ≡ r.key → is_before r x ≡ true → is_before x q ≡ true → Between r q x
between r q x same_entity same_key above under =
    let low : r.entity ≤ x.entity = entity_up r x above in
    let high : x.entity ≤ q.entity = entity_up x q under in
    let entity : x.entity ≡ r.entity = omega (arith, low, high, same_entity) in
    let over : is_lt (ordering_then (slice_cmp nat_cmp r.key x.key) (rest_of r x)) ≡ true = keys_up r x above (sym entity) in
    let below : is_lt (ordering_then (slice_cmp nat_cmp x.key q.key) (rest_of x q)) ≡ true = keys_up x q under (entity ∙ sym same_entity) in
    let not_back : slice_cmp nat_cmp x.key r.key ≢ Greater = λ e. lt_first _ _ below (ap (λ (l : List ℕ). slice_cmp nat_cmp x.key l) same_key ∙ e) in
    let key : r.key ≡ x.key = slice_cmp-IsAntisymmetric nat_cmp-IsAntisymmetric r.key x.key (both_ways (slice_cmp nat_cmp) r.key x.key nat_list_cmp_total (lt_first _ _ over) not_back) in
    record {
      entity = entity;
      key = sym key;
      up = le_from r.tx x.tx (lt_first _ _ (ap is_lt (sym (rest_parts r x)) ∙ rest_up r x above (sym entity) key));
      down = rest_up x q under (entity ∙ sym same_entity) (sym key ∙ sym same_key);
      above = above;
      under = under;
    }

-- ---- rows in two parts

parts_by : (q : RowId) (r : Row) (rs : List Row) (t : Bool) → is_before r.id q ≡ t → ascends (r ∷ rs) ≡ true → rs ≡ rows_before q rs ++ rows_from q rs → r ∷ rs ≡ rows_before q (r ∷ rs) ++ rows_from q (r ∷ rs)
parts_by q r rs true e s rest = rw e (ap (λ (l : List Row). r ∷ l) rest)
parts_by q r rs false e s rest =
    let all : rows_from q (r ∷ rs) ≡ r ∷ rs =
    rows_from-place q (r ∷ rs) 0 (record { within = omega arith; before = refl; rest = none_before-from q (r ∷ rs) 0 r s (omega arith) e }) in
    let none : rows_before q (r ∷ rs) ≡ [] = ap (λ (t : Bool). cond t (r ∷ rows_before q rs) (rows_before q rs)) e ∙ rows_before-none q r.id rs e s in
    sym all ∙ ap (λ (l : List Row). l ++ rows_from q (r ∷ rs)) (sym none)

-- those before a place, and those from it on
parts : (q : RowId) (rs : List Row) → ascends rs ≡ true → rs ≡ rows_before q rs ++ rows_from q rs
parts q [] s = refl
parts q (r ∷ rs) s = parts_by q r rs (is_before r.id q) refl s (parts q rs (ascends-after r.id rs s))

deeper_by : (p q : RowId) (r : Row) (rs : List Row) (t u : Bool) → is_before r.id p ≡ t → is_before r.id q ≡ u → is_before q p ≡ false → rows_from q (rows_from p rs) ≡ rows_from q rs → rows_from q (cond t (rows_from p rs) (r ∷ rows_from p rs)) ≡ cond u (rows_from q rs) (r ∷ rows_from q rs)
deeper_by p q r rs true true e f h rest = rest
deeper_by p q r rs true false e f h rest = let wrong : is_before r.id q ≡ true = before_then_not r.id p q e h in cc (wrong, f)
deeper_by p q r rs false true e f h rest = rw f rest
deeper_by p q r rs false false e f h rest = rw f (ap (λ (l : List Row). r ∷ l) rest)

deeper : (p q : RowId) (rs : List Row) → is_before q p ≡ false → rows_from q (rows_from p rs) ≡ rows_from q rs
deeper p q [] h = refl
deeper p q (r ∷ rs) h = deeper_by p q r rs (is_before r.id p) (is_before r.id q) refl refl h (deeper p q rs h)

ascends-from : (p : RowId) (rs : List Row) → ascends rs ≡ true → ascends (rows_from p rs) ≡ true
ascends-from p rs s = ap ascends (rows_from-test p rs) ∙ ascends-filter (λ (x : Row). not (is_before x.id p)) rs s

-- ---- windows

gt_back : (a b : List ℕ) → is_gt (slice_cmp nat_cmp a b) ≡ is_lt (slice_cmp nat_cmp b a)
gt_back a b = gt_reverse _ ∙ ap is_lt (sym (nat_list_cmp_total.antisymm b a))
  where
    gt_reverse : (o : Ordering) → is_gt o ≡ is_lt (ordering_reverse o)
    gt_reverse Less = refl
    gt_reverse Equal = refl
    gt_reverse Greater = refl

not_lt : (o : Ordering) → o ≢ Less → is_lt o ≡ false
not_lt Less n = absurd (n refl)
not_lt Equal n = refl
not_lt Greater n = refl

-- a key that isn't below one that isn't below the first
not_below : (k l first : List ℕ) → slice_cmp nat_cmp k l ≢ Less → is_lt (slice_cmp nat_cmp l first) ≡ false → is_lt (slice_cmp nat_cmp k first) ≡ false
not_below k l first n h =
    sym (gt_back first k) ∙ upto nat_list_cmp_total first l k (gt_back first l ∙ h) (gt_back l k ∙ not_lt _ n)

not_true : (b : Bool) → not b ≡ true → b ≡ false
not_true true h = sym h
not_true false h = refl

not_false : (b : Bool) → not b ≡ false → b ≡ true
not_false true h = refl
not_false false h = sym h

and_parts : (a b : Bool) → (a && b) ≡ true → (a ≡ true) × (b ≡ true)
and_parts true b h = (refl, h)
and_parts false b h = cc h

module _ (epoch : ℕ) (e : Entity) (first : List ℕ) (from to : ℕ) where
  record InWindow (r : Row) : Type 0 where
    entity : r.id.entity ≡ entity_number e
    low : from ≤ r.id.tx
    high : r.id.tx < to
    key : is_lt (slice_cmp nat_cmp r.id.key first) ≡ false

  abbrev in_window : Row → Bool
  in_window r = is_in_window e first from to (change_of r)

  window_test : (r : Row) → r.id.entity ≤ 6 → in_window r ≡ (((r.id.entity == entity_number e) && (nat_le from r.id.tx && nat_lt r.id.tx to)) && not (is_lt (slice_cmp nat_cmp r.id.key first)))
  unfolding is_in_window is_within change_of
  window_test r known =
      λ i. ((entity_number-entity_of r.id.entity known i == entity_number e) && (nat_le from r.id.tx && nat_lt r.id.tx to)) && not (is_lt (slice_cmp nat_cmp r.id.key first))

  in_window_is : (r : Row) → r.id.entity ≤ 6 → in_window r ≡ true → InWindow r
  in_window_is r known h =
      let all = and_parts _ _ (sym (window_test r known) ∙ h) in
      let left = and_parts _ _ all.0 in
      let numbers = and_parts _ _ left.1 in
      record { entity = eqb-true _ _ left.0; low = leb-true _ _ numbers.0; high = ltb-true _ _ numbers.1; key = not_true _ all.1 }

  in_window_from : (r : Row) → r.id.entity ≤ 6 → InWindow r → in_window r ≡ true
  in_window_from r known is =
      window_test r known
      ∙ (λ i. ((eq-eqb r.id.entity (entity_number e) is.entity i && (le-leb from r.id.tx is.low i && lt-ltb r.id.tx to is.high i)) && not (is.key i)))

  out_by : (r : Row) (t : Bool) → in_window r ≡ t → r.id.entity ≤ 6 → (InWindow r → ⊥) → t ≡ false
  out_by r true h known never = absurd (never (in_window_is r known h))
  out_by r false h known never = refl

  out : (r : Row) → r.id.entity ≤ 6 → (InWindow r → ⊥) → in_window r ≡ false
  out r known never = out_by r (in_window r) refl known never

  -- the changes of the window among rows
  abbrev pub window_of : List Row → List Change
  window_of rs = filter (is_in_window e first from to) (map change_of (filter (is_seen epoch) rs))

  window_of-append : (xs ys : List Row) → window_of (xs ++ ys) ≡ window_of xs ++ window_of ys
  window_of-append xs ys =
      ap (λ (l : List Row). filter (is_in_window e first from to) (map change_of l)) (filter-append (is_seen epoch) xs ys)
      ∙ ap (filter (is_in_window e first from to)) (map-append change_of (seen epoch xs) (seen epoch ys))
      ∙ filter-append (is_in_window e first from to) (changes_seen epoch xs) (changes_seen epoch ys)

  window_out_by : (r : Row) (t : Bool) → in_window r ≡ false → filter (is_in_window e first from to) (map change_of (cond t (r ∷ []) [])) ≡ []
  window_out_by r true outside = rw outside refl
  window_out_by r false outside = refl

  window_out : (r : Row) → in_window r ≡ false → window_of (r ∷ []) ≡ []
  window_out r outside = window_out_by r (is_seen epoch r) outside

  window_unseen : (r : Row) → is_seen epoch r ≡ false → window_of (r ∷ []) ≡ []
  window_unseen r un = ap (λ (t : Bool). filter (is_in_window e first from to) (map change_of (cond t (r ∷ []) []))) un

  window_in : (r : Row) → is_seen epoch r ≡ true → in_window r ≡ true → window_of (r ∷ []) ≡ change_of r ∷ []
  window_in r see inside =
      ap (λ (t : Bool). filter (is_in_window e first from to) (map change_of (cond t (r ∷ []) []))) see
      ∙ ap (λ (t : Bool). cond t (change_of r ∷ []) []) inside

  window_none : (rs : List Row) → All (λ r. in_window r ≡ false) rs → window_of rs ≡ []
  window_none [] all = refl
  window_none (r ∷ rs) all =
      let P = λ (x : Row). in_window x ≡ false in
      window_of-append (r ∷ []) rs ∙ (λ i. window_out r (All-head P r rs all) i ++ window_none rs (All-tail P r rs all) i)

  kept_by : (q : Row → Bool) (r : Row) (rs : List Row) (t : Bool) → (t ≡ false → window_of (r ∷ []) ≡ []) → window_of (filter q rs) ≡ window_of rs → window_of (cond t (r ∷ filter q rs) (filter q rs)) ≡ window_of (r ∷ rs)
  kept_by q r rs true nothing rest =
      window_of-append (r ∷ []) (filter q rs) ∙ ap (λ (l : List Change). window_of (r ∷ []) ++ l) rest ∙ sym (window_of-append (r ∷ []) rs)
  kept_by q r rs false nothing rest =
      rest ∙ sym (window_of-append (r ∷ []) rs ∙ ap (λ (l : List Change). l ++ window_of rs) (nothing refl))

  window_of-kept : (q : Row → Bool) (rs : List Row) → All (λ r. q r ≡ false → window_of (r ∷ []) ≡ []) rs → window_of (filter q rs) ≡ window_of rs
  window_of-kept q [] all = refl
  window_of-kept q (r ∷ rs) all =
      let P = λ (x : Row). q x ≡ false → window_of (x ∷ []) ≡ [] in
      kept_by q r rs (q r) (All-head P r rs all) (window_of-kept q rs (All-tail P r rs all))

  window_of-filter : (q : Row → Bool) (rs : List Row) → All (λ r. q r ≡ false → in_window r ≡ false) rs → window_of (filter q rs) ≡ window_of rs
  window_of-filter q rs all = window_of-kept q rs (λ i d below passed. window_out _ (all i d below passed))

  window_All : (P : Change → Type 0) (rs : List Row) → All (λ r. in_window r ≡ true → P (change_of r)) rs → All P (window_of rs)
  window_All P rs all =
      let kept = All-filter (is_in_window e first from to) (λ c. is_in_window e first from to c ≡ true → P c) (changes_seen epoch rs)
      (All-map (λ c. is_in_window e first from to c ≡ true → P c) change_of (seen epoch rs) (All-filter (is_seen epoch) (λ r. in_window r ≡ true → P (change_of r)) rs all)) in
      λ i d below. kept i d below (filter_passes (is_in_window e first from to) (changes_seen epoch rs) i d below)

  -- ---- the walk

  pub record KeyWalk (limit : ℕ) (rs : List Row) (place : RowId) (found : List (List ℕ)) : Type 0 where
    pub entity : entity_number e ≤ place.entity
    pub above : place.entity ≡ entity_number e → is_lt (slice_cmp nat_cmp place.key first) ≡ false
    pub left : take limit (found ++ keys_of (window_of (rows_from place rs))) ≡ take limit (keys_of (window_of rs))

  abbrev start : RowId
  start = place_at e first from

  -- rows before the first place aren't in the window
  early : (r : Row) → r.id.entity ≤ 6 → is_before r.id start ≡ true → in_window r ≡ false
  early r known before = out r known (λ is.
      let keys : is_lt (ordering_then (slice_cmp nat_cmp r.id.key first) (rest_of r.id start)) ≡ true = keys_up r.id start before is.entity in
      let same : slice_cmp nat_cmp r.id.key first ≡ Equal = not_less _ (lt_first _ _ keys) is.key in
      let rest : is_lt (ordering_then (nat_cmp r.id.tx from) (nat_cmp r.id.born 0)) ≡ true = ap is_lt (sym (rest_parts r.id start)) ∙ lt_second _ _ keys same in
      let low : r.id.tx < from = lt_by r.id.tx from r.id.born (nat_cmp r.id.tx from) refl rest in
      let high : from ≤ r.id.tx = is.low in
      omega arith)
    where
      not_less : (o : Ordering) → o ≢ Greater → is_lt o ≡ false → o ≡ Equal
      not_less Less n h = cc h
      not_less Equal n h = refl
      not_less Greater n h = absurd (n refl)

  pub key_first : (limit last : ℕ) (h : Held) → AreVersions last h → KeyWalk limit h.rows start []
  key_first limit last h are = record {
    entity = omega arith;
    above = λ same. ap is_lt (tied_itself nat_list_cmp_total first);
    left =
        ap (λ (l : List Row). take limit (keys_of (window_of l))) (rows_from-test start h.rows)
        ∙ ap (λ (l : List Change). take limit (keys_of l)) (window_of-filter (λ x. not (is_before x.id start)) h.rows (λ i d below passed. early _ (are.versions i d below).entity (not_false _ passed)));
  }

  pub key_none : (limit : ℕ) (h : Held) (place : RowId) (found : List (List ℕ)) → first_from place h.rows ≡ None → KeyWalk limit h.rows place found → take limit found ≡ take limit (keys_of (window_of h.rows))
  key_none limit h place found is walk =
      ap (take limit) (sym (append-nil found) ∙ ap (λ (l : List Row). found ++ keys_of (window_of l)) (sym (rows_from-none_found place h.rows is))) ∙ walk.left

  fit_from : (last : ℕ) (h : Held) (q : RowId) → AreVersions last h → All (IsVersion last) (rows_from q h.rows)
  fit_from last h q are =
      let F : List Row → Type 0 = λ l. All (IsVersion last) l in
      subst F (sym (rows_from-test q h.rows)) (All-filter (λ (x : Row). not (is_before x.id q)) (IsVersion last) h.rows are.versions)

  after_found : (r : RowId) (x : RowId) → is_before x (behind r) ≡ false → is_before r x ≡ true
  after_found r x h = not_false _ (sym (before_behind x r) ∙ h)

  -- a row of a later entity is found, and those behind it are of later ones too
  pub key_beyond : (limit last : ℕ) (h : Held) (place : RowId) (r : Row) (found : List (List ℕ)) → AreVersions last h → first_from place h.rows ≡ Some r → r.id.entity ≢ entity_number e → KeyWalk limit h.rows place found → take limit found ≡ take limit (keys_of (window_of h.rows))
  key_beyond limit last h place r found are is other walk =
      let form = first_All (IsVersion last) place h.rows r are.versions is in
      let fit = fit_from last h (behind r.id) are in
      let from_on : place.entity ≤ r.id.entity = entity_not_down r.id place (first_not_before place h.rows r is) in
      let here : in_window r ≡ false = out r form.entity (λ x. other x.entity) in
      let none : window_of (rows_from (behind r.id) h.rows) ≡ [] =
      window_none (rows_from (behind r.id) h.rows) (λ i d below. out _ (fit i d below).entity (λ x.
      let up : r.id.entity ≤ _ = entity_up r.id _ (after_found r.id _ (from_All (behind r.id) h.rows i d below)) in
      other (let xe = x.entity in let pe = walk.entity in omega (arith, up, from_on, xe, pe)))) in
      let all : window_of (rows_from place h.rows) ≡ [] =
      ap (λ (l : List Row). window_of l) (rows_from-found place h.rows r are.in_order is)
      ∙ window_of-append (r ∷ []) (rows_from (behind r.id) h.rows)
      ∙ (λ i. window_out r here i ++ none i) in
      ap (take limit) (sym (append-nil found) ∙ ap (λ (l : List Change). found ++ keys_of l) (sym all)) ∙ walk.left

  -- the rows behind a found one, up to a place of its key and from it on
  cut : (last : ℕ) (h : Held) (place : RowId) (r : Row) (q : RowId) → AreVersions last h → first_from place h.rows ≡ Some r → is_before r.id q ≡ true
      → window_of (rows_from place h.rows) ≡ window_of (r ∷ []) ++ (window_of (rows_before q (rows_from (behind r.id) h.rows)) ++ window_of (rows_from q h.rows))
  cut last h place r q are is after =
      let xs = rows_from (behind r.id) h.rows in
      let not_back : is_before q (behind r.id) ≡ false = before_behind q r.id ∙ ap not after in
      ap (λ (l : List Row). window_of l) (rows_from-found place h.rows r are.in_order is)
      ∙ window_of-append (r ∷ []) xs
      ∙ ap (λ (l : List Change). window_of (r ∷ []) ++ l)
      (ap (λ (l : List Row). window_of l) (parts q xs (ascends-from (behind r.id) h.rows are.in_order) ∙ ap (λ (l : List Row). rows_before q xs ++ l) (deeper (behind r.id) q h.rows not_back))
      ∙ window_of-append (rows_before q xs) (rows_from q h.rows))

  -- what is in the part between
  middle : (last : ℕ) (h : Held) (r : Row) (q : RowId) → AreVersions last h → q.entity ≡ r.id.entity → q.key ≡ r.id.key → All (λ x. IsVersion last x × Between r.id q x.id) (rows_before q (rows_from (behind r.id) h.rows))
  middle last h r q are same_entity same_key =
      let xs = rows_from (behind r.id) h.rows in
      let fit = All-filter (λ (x : Row). is_before x.id q) (IsVersion last) xs (fit_from last h (behind r.id) are) in
      let above = All-filter (λ (x : Row). is_before x.id q) (λ (x : Row). is_before x.id (behind r.id) ≡ false) xs (from_All (behind r.id) h.rows) in
      let under = filter_passes (λ (x : Row). is_before x.id q) xs in
      λ i d below. (fit i d below, between r.id q _ same_entity same_key (after_found r.id _ (above i d below)) (under i d below))

  -- where the row is found, and what comes behind
  abbrev Comes : List Row → RowId → Row → RowId → List (List ℕ) → Type 0
  Comes rs place r q keys = keys_of (window_of (rows_from place rs)) ≡ keys ++ keys_of (window_of (rows_from q rs))

  comes_plain : (last : ℕ) (h : Held) (place : RowId) (r : Row) (q : RowId) → AreVersions last h → first_from place h.rows ≡ Some r → is_before r.id q ≡ true → q.entity ≡ r.id.entity → q.key ≡ r.id.key
      → window_of (r ∷ []) ≡ [] → ((x : Row) → Between r.id q x.id → InWindow x → ⊥) → Comes h.rows place r q []
  comes_plain last h place r q are is after same_entity same_key here none =
      ap keys_of
      (cut last h place r q are is after
      ∙ (λ i. here i ++ (window_none (rows_before q (rows_from (behind r.id) h.rows)) (λ j d below. let m = middle last h r q are same_entity same_key j d below in out _ m.0.entity (none _ m.1)) i ++ window_of (rows_from q h.rows))))

  -- the row tells its key
  comes_key : (last : ℕ) (h : Held) (place : RowId) (r : Row) (q : RowId) → AreVersions last h → first_from place h.rows ≡ Some r → is_before r.id q ≡ true → q ≡ key_place r.id 18446744073709551615 18446744073709551615
      → to ≤ 18446744073709551615 → is_seen epoch r ≡ true → InWindow r → Comes h.rows place r q (r.id.key ∷ [])
  comes_key last h place r q are is after at small see inside =
      let form = first_All (IsVersion last) place h.rows r are.versions is in
      let same_entity : q.entity ≡ r.id.entity = ap (λ (w : RowId). w.entity) at in
      let same_key : q.key ≡ r.id.key = ap (λ (w : RowId). w.key) at in
      let here : window_of (r ∷ []) ≡ change_of r ∷ [] = window_in r see (in_window_from r form.entity inside) in
      let fit = fit_from last h q are in
      ap keys_of (cut last h place r q are is after ∙ ap (λ (l : List Change). l ++ (window_of (rows_before q (rows_from (behind r.id) h.rows)) ++ window_of (rows_from q h.rows))) here)
      ∙ keys_front r.id.key (change_of r) (window_of (rows_before q (rows_from (behind r.id) h.rows))) (window_of (rows_from q h.rows)) (change_key r)
      (window_All (λ c. c.key ≡ r.id.key) (rows_before q (rows_from (behind r.id) h.rows)) (λ i d below _. change_key _ ∙ (middle last h r q are same_entity same_key i d below).1.key))
      (window_All (λ c. c.key ≢ r.id.key) (rows_from q h.rows) (λ i d below in_it same. past _ (fit i d below) in_it (from_All q h.rows i d below) (sym (change_key _) ∙ same)))
    where
      past : (x : Row) → IsVersion last x → in_window x ≡ true → is_before x.id q ≡ false → x.id.key ≡ r.id.key → ⊥
      past x form in_it not_before same =
          let win = in_window_is x form.entity in_it in
          let entity : x.id.entity ≡ q.entity = win.entity ∙ sym inside.entity ∙ sym (ap (λ (w : RowId). w.entity) at) in
          let key : x.id.key ≡ q.key = same ∙ sym (ap (λ (w : RowId). w.key) at) in
          let rest : is_lt (rest_of x.id q) ≡ false = ge_second _ _ (keys_not_down x.id q not_before entity) (list_same x.id.key q.key key) in
          let high : x.id.tx < to = win.high in
          let up : q.tx ≤ x.id.tx = ge_from x.id.tx q.tx (ge_first _ _ (ap is_lt (sym (rest_parts x.id q)) ∙ rest)) in
          let top : q.tx ≡ 18446744073709551615 = ap (λ (w : RowId). w.tx) at in
          omega (arith, high, up, top, small)

  -- one look: what the row tells, and where the next look begins
  look_by : (last : ℕ) (h : Held) (place : RowId) (r : Row) (q : RowId) (under within see : Bool) → nat_lt r.id.tx from ≡ under → nat_lt r.id.tx to ≡ within → is_seen epoch r ≡ see
      → AreVersions last h → first_from place h.rows ≡ Some r → r.id.entity ≡ entity_number e → is_lt (slice_cmp nat_cmp r.id.key first) ≡ false → to ≤ 18446744073709551615
      → q ≡ cond under (key_place r.id from 0) (cond (within && not see) (behind r.id) (key_place r.id 18446744073709551615 18446744073709551615)) → is_before r.id q ≡ true
      → Comes h.rows place r q (cond (not under && (within && see)) (r.id.key ∷ []) [])
  look_by last h place r q true within see eu ew es are is entity key small at after =
      let form = first_All (IsVersion last) place h.rows r are.versions is in
      let low : r.id.tx < from = ltb-true _ _ eu in
      comes_plain last h place r q are is after (ap (λ (w : RowId). w.entity) at) (ap (λ (w : RowId). w.key) at)
      (window_out r (out r form.entity (λ x. let up : from ≤ r.id.tx = x.low in omega arith)))
      (λ x between win.
      let down : is_lt (ordering_then (nat_cmp x.id.tx from) (nat_cmp x.id.born 0)) ≡ true =
      ap is_lt (sym (rest_parts x.id (key_place r.id from 0))) ∙ ap (λ (w : RowId). is_lt (rest_of x.id w)) (sym at) ∙ between.down in
      let under : x.id.tx < from = lt_by x.id.tx from x.id.born (nat_cmp x.id.tx from) refl down in
      let up : from ≤ x.id.tx = win.low in
      omega (arith, under, up))
  look_by last h place r q false true true eu ew es are is entity key small at after =
      let low : from ≤ r.id.tx = ltb-false _ _ eu in
      let high : r.id.tx < to = ltb-true _ _ ew in
      comes_key last h place r q are is after at small es (record { entity = entity; low = low; high = high; key = key })
  look_by last h place r q false true false eu ew es are is entity key small at after =
      comes_plain last h place r q are is after (ap (λ (w : RowId). w.entity) at) (ap (λ (w : RowId). w.key) at) (window_unseen r es)
      (λ x between win.
      let before : is_before x.id (behind r.id) ≡ true = ap (λ (w : RowId). is_before x.id w) (sym at) ∙ between.under in
      let not_before : is_before x.id (behind r.id) ≡ false = before_behind x.id r.id ∙ ap not between.above in
      cc (before, not_before))
  look_by last h place r q false false see eu ew es are is entity key small at after =
      let form = first_All (IsVersion last) place h.rows r are.versions is in
      let high : to ≤ r.id.tx = ltb-false _ _ ew in
      comes_plain last h place r q are is after (ap (λ (w : RowId). w.entity) at) (ap (λ (w : RowId). w.key) at)
      (window_out r (out r form.entity (λ x. let down : r.id.tx < to = x.high in omega arith)))
      (λ x between win. let up : r.id.tx ≤ x.id.tx = between.up in let down : x.id.tx < to = win.high in omega (arith, up, down, high))

  -- a look keeps the walk
  pub key_on : (limit last : ℕ) (h : Held) (place : RowId) (r : Row) (q : RowId) (found new : List (List ℕ)) → AreVersions last h → first_from place h.rows ≡ Some r → r.id.entity ≡ entity_number e → to ≤ 18446744073709551615
      → q ≡ next_key_place epoch from to r → is_before r.id q ≡ true → new ≡ found ++ keys_with epoch from to r → KeyWalk limit h.rows place found → KeyWalk limit h.rows q new
  key_on limit last h place r q found new are is entity small at after more walk =
      let not_before = first_not_before place h.rows r is in
      let place_up : place.entity ≤ r.id.entity = entity_not_down r.id place not_before in
      let place_low : entity_number e ≤ place.entity = walk.entity in
      let place_of_e : place.entity ≡ entity_number e = omega (arith, place_up, place_low, entity) in
      let same : r.id.entity ≡ place.entity = entity ∙ sym place_of_e in
      let key : is_lt (slice_cmp nat_cmp r.id.key first) ≡ false =
      not_below r.id.key place.key first (ge_first _ _ (keys_not_down r.id place not_before same)) (walk.above place_of_e) in
      let on : q.entity ≡ entity_number e = place_entity q r (nat_lt r.id.tx from) (nat_lt r.id.tx to && not (is_seen epoch r)) at ∙ entity in
      let come = look_by last h place r q (nat_lt r.id.tx from) (nat_lt r.id.tx to) (is_seen epoch r) refl refl refl are is entity key small at after in
      record {
        entity = omega (arith, on);
        above = λ _. ap (λ (l : List ℕ). is_lt (slice_cmp nat_cmp l first)) (place_key q r (nat_lt r.id.tx from) (nat_lt r.id.tx to && not (is_seen epoch r)) at) ∙ key;
        left =
            ap (λ (l : List (List ℕ)). take limit (l ++ keys_of (window_of (rows_from q h.rows)))) (more ∙ ap (λ (t : Bool). found ++ cond (t && (nat_lt r.id.tx to && is_seen epoch r)) (r.id.key ∷ []) []) (le_not from r.id.tx))
            ∙ ap (take limit) (append_assoc found (cond (not (nat_lt r.id.tx from) && (nat_lt r.id.tx to && is_seen epoch r)) (r.id.key ∷ []) []) (keys_of (window_of (rows_from q h.rows)))
            ∙ ap (λ (l : List (List ℕ)). found ++ l) (sym come))
            ∙ walk.left;
      }
    where
      place_entity : (q : RowId) (r : Row) (t u : Bool) → q ≡ cond t (key_place r.id from 0) (cond u (behind r.id) (key_place r.id 18446744073709551615 18446744073709551615)) → q.entity ≡ r.id.entity
      place_entity q r true u at = ap (λ (w : RowId). w.entity) at
      place_entity q r false true at = ap (λ (w : RowId). w.entity) at
      place_entity q r false false at = ap (λ (w : RowId). w.entity) at

      place_key : (q : RowId) (r : Row) (t u : Bool) → q ≡ cond t (key_place r.id from 0) (cond u (behind r.id) (key_place r.id 18446744073709551615 18446744073709551615)) → q.key ≡ r.id.key
      place_key q r true u at = ap (λ (w : RowId). w.key) at
      place_key q r false true at = ap (λ (w : RowId). w.key) at
      place_key q r false false at = ap (λ (w : RowId). w.key) at

  -- ---- looks that pass rows over

  tells_from : (r : Row) → from ≤ r.id.tx → r.id.tx < to → is_seen epoch r ≡ true → tells_key epoch from to r ≡ true
  tells_from r low high see = λ i. le-leb from r.id.tx low i && (lt-ltb r.id.tx to high i && see i)

  untold_by : (r : Row) (s : Bool) → is_seen epoch r ≡ s → r.id.entity ≤ 6 → tells_key epoch from to r ≡ false → window_of (r ∷ []) ≡ []
  untold_by r true see known untold =
      window_out r (out r known (λ x. let told : tells_key epoch from to r ≡ true = tells_from r x.low x.high see in cc (told, untold)))
  untold_by r false see known untold = window_unseen r see

  -- the window is that of the rows that tell their keys
  tells_only : (last : ℕ) (rs : List Row) → All (IsVersion last) rs → window_of (filter (tells_key epoch from to) rs) ≡ window_of rs
  tells_only last rs fit = window_of-kept (tells_key epoch from to) rs (λ i d below untold. untold_by _ (is_seen epoch _) refl (fit i d below).entity untold)

  -- the look goes on at the next place
  skipped_on : (limit last : ℕ) (h : Held) (place next : RowId) (found : List (List ℕ)) → AreVersions last h → IsNextLook epoch from to h.rows place (Some next) → KeyWalk limit h.rows place found → KeyWalk limit h.rows next found
  skipped_on limit last h place next found are skips walk =
      let up : place.entity ≤ next.entity = entity_not_down next place skips.0 in
      let low : entity_number e ≤ place.entity = walk.entity in
      let same_window : window_of (rows_from place h.rows) ≡ window_of (rows_from next h.rows) =
      sym (tells_only last (rows_from place h.rows) (fit_from last h place are))
      ∙ ap (λ (l : List Row). window_of l) (skip (tells_key epoch from to) place next h.rows skips.0 skips.1)
      ∙ tells_only last (rows_from next h.rows) (fit_from last h next are) in
      record {
        entity = omega (arith, up, low);
        above = λ same.
            let place_of_e : place.entity ≡ entity_number e = omega (arith, up, low, same) in
            not_below next.key place.key first (ge_first _ _ (keys_not_down next place skips.0 (same ∙ sym place_of_e))) (walk.above place_of_e);
        left = ap (λ (l : List Change). take limit (found ++ keys_of l)) (sym same_window) ∙ walk.left;
      }

  pub key_skip : (limit last : ℕ) (h : Held) (place : RowId) (look : Option RowId) (next : RowId) (found : List (List ℕ)) → AreVersions last h → look ≡ Some next → IsNextLook epoch from to h.rows place look → KeyWalk limit h.rows place found → KeyWalk limit h.rows next found
  key_skip limit last h place look next found are is skips walk =
      let F : Option RowId → Type 0 = λ o. IsNextLook epoch from to h.rows place o in
      skipped_on limit last h place next found are (subst F is skips) walk

  skipped_all : (limit last : ℕ) (h : Held) (place : RowId) (found : List (List ℕ)) → AreVersions last h → IsNextLook epoch from to h.rows place None → KeyWalk limit h.rows place found → take limit found ≡ take limit (keys_of (window_of h.rows))
  skipped_all limit last h place found are skips walk =
      let nothing : window_of (rows_from place h.rows) ≡ [] =
      sym (tells_only last (rows_from place h.rows) (fit_from last h place are))
      ∙ ap (λ (l : List Row). window_of l) (none_from (tells_key epoch from to) place h.rows skips) in
      ap (take limit) (sym (append-nil found) ∙ ap (λ (l : List Change). found ++ keys_of l) (sym nothing)) ∙ walk.left

  -- there is no next place
  pub key_passed : (limit last : ℕ) (h : Held) (place : RowId) (look : Option RowId) (found : List (List ℕ)) → AreVersions last h → look ≡ None → IsNextLook epoch from to h.rows place look → KeyWalk limit h.rows place found → take limit found ≡ take limit (keys_of (window_of h.rows))
  key_passed limit last h place look found are is skips walk =
      let F : Option RowId → Type 0 = λ o. IsNextLook epoch from to h.rows place o in
      skipped_all limit last h place found are (subst F is skips) walk

  pub key_full : (limit : ℕ) (rs : List Row) (place : RowId) (found : List (List ℕ)) → length found ≤ limit → limit ≤ length found → KeyWalk limit rs place found → found ≡ take limit (window_keys (changes_seen epoch rs) e first from to)
  key_full limit rs place found short full walk = sym (taken_all limit found (keys_of (window_of (rows_from place rs))) short full) ∙ walk.left

  pub key_all : (limit : ℕ) (rs : List Row) (found : List (List ℕ)) → length found ≤ limit → take limit found ≡ take limit (keys_of (window_of rs)) → found ≡ take limit (window_keys (changes_seen epoch rs) e first from to)
  key_all limit rs found short all = sym (take-all limit found short) ∙ all

keys_with-short_by : (k : List ℕ) (t : Bool) → length (cond t (k ∷ []) []) ≤ 1
keys_with-short_by k true = omega arith
keys_with-short_by k false = omega arith

-- one look adds one at most
pub keys_short : (limit epoch from to : ℕ) (r : Row) (found new : List (List ℕ)) → length found < limit → new ≡ found ++ keys_with epoch from to r → length new ≤ limit
keys_short limit epoch from to r found new few is =
    let e : length new ≡ length (found ++ keys_with epoch from to r) = ap length is in
    omega (arith, e, length-append found (keys_with epoch from to r), keys_with-short_by r.id.key (tells_key epoch from to r), few)

-- ---- places of a key that are behind a row of it

number_less : (a n : ℕ) → a < n → nat_cmp a n ≡ Less
number_less a n h = ap (λ t. cond t Less (cond (a == n) Equal Greater)) (lt-ltb a n h)

place_up : (id : RowId) (tx born : ℕ) → is_lt (ordering_then (nat_cmp id.tx tx) (nat_cmp id.born born)) ≡ true → is_before id (key_place id tx born) ≡ true
place_up id tx born h =
    ap is_lt (cmp_parts id (key_place id tx born))
    ∙ (λ i. is_lt (ordering_then (tied_itself nat_cmp_total id.entity i) (ordering_then (tied_itself nat_list_cmp_total id.key i) (rest_of id (key_place id tx born)))))
    ∙ ap is_lt (rest_parts id (key_place id tx born))
    ∙ h

pub before_window : (id : RowId) (from : ℕ) → id.tx < from → is_before id (key_place id from 0) ≡ true
before_window id from h = place_up id from 0 (ap (λ o. is_lt (ordering_then o (nat_cmp id.born 0))) (number_less id.tx from h))

before_past_by : (id : RowId) (m : ℕ) (t : Bool) → nat_lt id.tx m ≡ t → id.tx ≤ m → id.born < m → is_lt (ordering_then (nat_cmp id.tx m) (nat_cmp id.born m)) ≡ true
before_past_by id m true e up low = ap (λ o. is_lt (ordering_then o (nat_cmp id.born m))) (number_less id.tx m (ltb-true _ _ e))
before_past_by id m false e up low =
    let down : m ≤ id.tx = ltb-false _ _ e in
    let same : id.tx ≡ m = omega arith in
    λ i. is_lt (ordering_then (nat_same id.tx m same i) (number_less id.born m low i))

pub before_past : (id : RowId) (m : ℕ) → id.tx ≤ m → id.born < m → is_before id (key_place id m m) ≡ true
before_past id m up low = place_up id m m (before_past_by id m (nat_lt id.tx m) refl up low)

pub before_version : (id : RowId) → is_before id (behind id) ≡ true
before_version id = before_behind id id ∙ ap not (before_itself id)
