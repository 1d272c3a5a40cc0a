-- Laws of what is written: a change that comes to the rows, a row that is killed, and rows that are removed.
use Rattle.std.proofs.Common.{◌≡◌, ◌≢◌, ℕ, ◌+◌, ◌<◌, ◌≤◌, Bool, true, false, not, cond, ◌&&◌, ◌||◌, List, [], ◌∷◌, ◌++◌, length, map, All, Option, Some, None, IfSome, IsSome, IsNone, is_some, IsSomeAnd, IsTrue, refl, sym, ap, subst, ◌∙◌, arith, ltb-true, ltb-false, leb-true, eqb-true, eq-eqb, get_or}
use Rattle.std.specs.Prelude.{◌==◌, nat_le, nat_lt}
use Rattle.std.specs.List.{filter}
use Rattle.std.specs.Ordering.{nat_cmp, ordering_then, is_lt}
use Rattle.std.specs.declared.cmp.Ordering.{Ordering}
use Rattle.std.specs.declared.cmp.Ordering.TheVariants.{Less, Equal, Greater}
use Rattle.std.specs.Cmp.Lexicographic.{slice_cmp}
use Rattle.std.proofs.lemmas.Bool.{lt-ltb, le-ltb, le-leb, eqb-false, cases_Bool}
use Rattle.std.proofs.lemmas.List.Elements.{All-cons, All-head, All-tail, All-nil, All-map, All-filter, filter_passes}
use Rattle.std.proofs.lemmas.List.Sorted.{All-permutation}
use Rattle.agg_outside.specs.declared.rows.RowId.{RowId}
use Rattle.agg_outside.specs.declared.rows.Row.{Row}
use Rattle.agg_outside.specs.declared.rows.RowWrite.{RowWrite}
use Rattle.agg_outside.specs.declared.rows.RowWrite.TheVariants.{Insert, Kill, Remove, Floor}
use Rattle.agg_outside.specs.Rows as rows
use Rattle.agg_outside.specs.Rows.{id_cmp, is_same, ascends, ascends_after, insert_row, kill_row, remove_row, row_at, Held, written, applied, CanWrite, CanApply}
use Rattle.agg_outside.specs.RowOrder.{same_is, same_itself, insert-ascends, kill-ascends, ascends-after, ascends_after-before, before_trans, before_then_not, before_not_back, before_not_same, kill-after, remove-after, after_not_same, applied-ascends}
use Rattle.agg_model.specs.declared.entity.Entity.{Entity}
use Rattle.agg_model.specs.declared.change.Act.{Act}
use Rattle.agg_model.specs.declared.change.Act.TheVariants.{Put, Del, Mark}
use Rattle.agg_model.specs.declared.change.Change.{Change}
use Rattle.agg_model.specs.Act.{act_number, act_value}
use Rattle.agg_model.specs.Entity.{entity_number}
use Rattle.agg_model.proofs.EntityLaws.{entity_number-below}
use Rattle.agg_model.specs.Place.{place_of, place_cmp, is_before}
use Rattle.agg_model.proofs.PlaceOrder.{is_before-back, is_before-else, place_cmp-Equal}
use Rattle.agg_model.specs.Batch.{HasNoRepeats}
use Rattle.agg_model.specs.Arranged.{put_in, arranged_from}
use Rattle.agg_model.proofs.ArrangedLaws.{put_in-IsPermutation}
use Rattle.row_epochs.specs.Seen.{is_seen, seen, shown, view, SameUpTo, SameFrom, is_dead, dead, without_dead}
use Rattle.row_epochs.specs.Changes.{IsNew, entity_of, act_of, change_of, changes_seen, id_born, row_born, writes_of, kills_of}
use Rattle.row_epochs.specs.Versions.{IsVersion, AreApart, AllApart, AreVersions, IsAlive}
use Rattle.row_epochs.specs.Places.{ids_of}
use Rattle.row_epochs.proofs.RowWalks.{entity_back, entity_number-entity_of}

both : (a b : Bool) → (cond a b false) ≡ true → (a ≡ true) × (b ≡ true)
both true b h = (refl, h)
both false b h = cc h

-- ---- a change and its row

act_back : (a : Act) → act_of (act_number a) (act_value a) ≡ a
unfolding act_of
act_back (Put value) = refl
act_back Del = refl
act_back Mark = refl

act_number-small : (a : Act) → act_number a ≤ 2
act_number-small (Put value) = omega arith
act_number-small Del = omega arith
act_number-small Mark = omega arith

change_back : (epoch : ℕ) (c : Change) → change_of (row_born epoch c) ≡ c
unfolding change_of row_born
change_back epoch c = λ i. record { tx = c.tx; entity = entity_back c.entity i; key = c.key; act = act_back c.act i }

-- ---- which epochs see a row

module _ (epoch : ℕ) where
  -- a row as it is just after a write at an epoch: it isn't killed at it, and one that is born at it is alive
  pub record IsWritten (row : Row) : Type 0 where
    pub born : row.id.born ≤ epoch
    pub killed : row.killed < epoch
    pub fresh : epoch ≤ row.id.born → row.killed ≡ 0
    pub entity : row.id.entity ≤ 6
    pub act : row.act ≤ 2

  seen_by : (row : Row) (b k : Bool) → nat_le row.id.born epoch ≡ b → (row.killed == 0) ≡ k → b ≡ true → (k ≡ false → nat_lt epoch row.killed ≡ false) → is_seen epoch row ≡ k
  unfolding is_seen
  seen_by row true true eb ek is gone = λ i. eb i && (ek i || nat_lt epoch row.killed)
  seen_by row true false eb ek is gone = λ i. eb i && (ek i || gone refl i)
  seen_by row false k eb ek is gone = cc is

  -- the epoch sees of written rows those that are alive
  pub seen-written : (row : Row) → IsWritten row → is_seen epoch row ≡ (row.killed == 0)
  seen-written row is =
      let low : row.killed ≤ epoch = let k = is.killed in omega arith in
      seen_by row (nat_le row.id.born epoch) (row.killed == 0) refl refl (le-leb row.id.born epoch is.born) (λ _. le-ltb epoch row.killed low)

  -- the same of versions up to it
  pub seen-version : (row : Row) → IsVersion epoch row → is_seen epoch row ≡ (row.killed == 0)
  seen-version row is =
      seen_by row (nat_le row.id.born epoch) (row.killed == 0) refl refl (le-leb row.id.born epoch is.born) (λ _. le-ltb epoch row.killed is.killed)

-- a row isn't seen before it is born
unseen_by : (epoch : ℕ) (row : Row) (b : Bool) → nat_le row.id.born epoch ≡ b → epoch < row.id.born → is_seen epoch row ≡ false
unfolding is_seen
unseen_by epoch row true e h = let low : row.id.born ≤ epoch = leb-true _ _ e in absurd (omega arith)
unseen_by epoch row false e h = ap (λ (b : Bool). b && (row.killed == 0 || nat_lt epoch row.killed)) e

unseen : (epoch : ℕ) (row : Row) → epoch < row.id.born → is_seen epoch row ≡ false
unseen epoch row h = unseen_by epoch row (nat_le row.id.born epoch) refl h

-- a row that is seen is born, and is alive or killed later
pub record SeenAt (epoch : ℕ) (row : Row) : Type 0 where
  pub born : row.id.born ≤ epoch
  pub killed : row.killed ≢ 0 → epoch < row.killed

seen_is_by : (epoch : ℕ) (row : Row) (b k l : Bool) → nat_le row.id.born epoch ≡ b → (row.killed == 0) ≡ k → nat_lt epoch row.killed ≡ l → (b && (k || l)) ≡ true → SeenAt epoch row
seen_is_by epoch row true true l eb ek el h = record { born = leb-true _ _ eb; killed = λ n. absurd (n (eqb-true _ _ ek)) }
seen_is_by epoch row true false true eb ek el h = record { born = leb-true _ _ eb; killed = λ n. ltb-true _ _ el }
seen_is_by epoch row true false false eb ek el h = cc h
seen_is_by epoch row false k l eb ek el h = cc h

pub seen_is : (epoch : ℕ) (row : Row) → is_seen epoch row ≡ true → SeenAt epoch row
unfolding is_seen
seen_is epoch row h = seen_is_by epoch row (nat_le row.id.born epoch) (row.killed == 0) (nat_lt epoch row.killed) refl refl refl h

-- ---- filters

pub filter_agree-on : (p q : Row → Bool) (rs : List Row) → All (λ r. p r ≡ q r) rs → filter p rs ≡ filter q rs
filter_agree-on p q [] h = refl
filter_agree-on p q (r ∷ rs) h =
    let rest : filter p rs ≡ filter q rs = filter_agree-on p q rs (All-tail (λ r. p r ≡ q r) r rs h) in
    λ i. cond (All-head (λ r. p r ≡ q r) r rs h i) (r ∷ rest i) (rest i)

-- versions up to an epoch are seen at the next one as they are at it
pub seen-next : (epoch : ℕ) (rs : List Row) → All (IsVersion epoch) rs → seen (epoch + 1) rs ≡ seen epoch rs
seen-next epoch rs all =
    filter_agree-on (is_seen (epoch + 1)) (is_seen epoch) rs (λ i d below. one _ (all i d below))
  where
    one : (r : Row) → IsVersion epoch r → is_seen (epoch + 1) r ≡ is_seen epoch r
    one r is =
        let up : r.id.born ≤ epoch + 1 = let b = is.born in omega arith in
        let down : r.killed ≤ epoch + 1 = let k = is.killed in omega arith in
        seen-version (epoch + 1) r (record { born = up; killed = down; entity = is.entity; act = is.act }) ∙ sym (seen-version epoch r is)

-- ---- a row that comes

-- rows behind an id come behind it
insert-front : (new : Row) (p : Row → Bool) (rs : List Row) → All (λ r. rows.is_before r.id new.id ≡ false) rs → insert_row new (filter p rs) ≡ new ∷ filter p rs
insert-front new p [] all = refl
insert-front new p (r ∷ rs) all =
    let P = λ (x : Row). rows.is_before x.id new.id ≡ false in
    by (p r) (All-head P r rs all) (insert-front new p rs (All-tail P r rs all))
  where
    by : (t : Bool) → rows.is_before r.id new.id ≡ false → insert_row new (filter p rs) ≡ new ∷ filter p rs → insert_row new (cond t (r ∷ filter p rs) (filter p rs)) ≡ new ∷ cond t (r ∷ filter p rs) (filter p rs)
    by true n h = rw n refl
    by false n h = h

behind_all : (low : Row) (new : Row) (rs : List Row) → rows.is_before low.id new.id ≡ false → ascends_after low.id rs ≡ true → All (λ r. rows.is_before r.id new.id ≡ false) rs
behind_all low new [] n s = All-nil (λ (r : Row). rows.is_before r.id new.id ≡ false)
behind_all low new (r ∷ rs) n s =
    let parts = both _ _ s in
    let here : rows.is_before r.id new.id ≡ false = not_back r.id (rows.is_before r.id new.id) refl parts.0 in
    All-cons (λ (x : Row). rows.is_before x.id new.id ≡ false) r rs here (behind_all r new rs here parts.1)
  where
    not_back : (id : RowId) (t : Bool) → rows.is_before id new.id ≡ t → rows.is_before low.id id ≡ true → t ≡ false
    not_back id true e up = let wrong : rows.is_before low.id new.id ≡ true = before_trans low.id id new.id up e in cc (wrong, n)
    not_back id false e up = refl

insert-filter-by : (new r : Row) (p : Row → Bool) (rs : List Row) (t u : Bool) → rows.is_before r.id new.id ≡ t → p r ≡ u → p new ≡ true → ascends (r ∷ rs) ≡ true → filter p (insert_row new rs) ≡ insert_row new (filter p rs)
    → filter p (cond t (r ∷ insert_row new rs) (new ∷ r ∷ rs)) ≡ insert_row new (cond u (r ∷ filter p rs) (filter p rs))
insert-filter-by new r p rs true true e f is s rest = rw (f, e) (ap (λ (l : List Row). r ∷ l) rest)
insert-filter-by new r p rs true false e f is s rest = rw f rest
insert-filter-by new r p rs false true e f is s rest = rw (is, f, e) refl
insert-filter-by new r p rs false false e f is s rest = rw (is, f) (sym (insert-front new p rs (behind_all r new rs e s)))

-- a row that passes a test comes to those that pass
pub insert-filter : (new : Row) (p : Row → Bool) (rs : List Row) → p new ≡ true → ascends rs ≡ true → filter p (insert_row new rs) ≡ insert_row new (filter p rs)
insert-filter new p [] is s = rw is refl
insert-filter new p (r ∷ rs) is s =
    insert-filter-by new r p rs (rows.is_before r.id new.id) (p r) refl refl is s (insert-filter new p rs is (ascends-after r.id rs s))

-- one that doesn't pass leaves them as they are
pub insert-filtered : (new : Row) (p : Row → Bool) (rs : List Row) → p new ≡ false → filter p (insert_row new rs) ≡ filter p rs
insert-filtered new p [] not = rw not refl
insert-filtered new p (r ∷ rs) not = by (rows.is_before r.id new.id) (insert-filtered new p rs not)
  where
    by : (t : Bool) → filter p (insert_row new rs) ≡ filter p rs → filter p (cond t (r ∷ insert_row new rs) (new ∷ r ∷ rs)) ≡ filter p (r ∷ rs)
    by true rest = ap (λ (l : List Row). cond (p r) (r ∷ l) l) rest
    by false rest = rw not refl

-- ---- the changes of rows

tie_last : (x y z u : Ordering) → ordering_then x (ordering_then y z) ≢ Equal → is_lt (ordering_then x (ordering_then y (ordering_then z u))) ≡ is_lt (ordering_then x (ordering_then y z))
tie_last Less y z u n = refl
tie_last Greater y z u n = refl
tie_last Equal Less z u n = refl
tie_last Equal Greater z u n = refl
tie_last Equal Equal Less u n = refl
tie_last Equal Equal Equal u n = absurd (n refl)
tie_last Equal Equal Greater u n = refl

-- the comparison of a row's id and a change, but for when it was born
abbrev row_cmp : Row → Change → Ordering
row_cmp r c = ordering_then (nat_cmp r.id.entity (entity_number c.entity)) (ordering_then (slice_cmp nat_cmp r.id.key c.key) (nat_cmp r.id.tx c.tx))

row_cmp-known : (r : Row) (c : Change) → r.id.entity ≤ 6 → row_cmp r c ≡ place_cmp (place_of (change_of r)) (place_of c)
unfolding place_cmp place_of change_of
row_cmp-known r c known = λ i. ordering_then (nat_cmp (sym (entity_number-entity_of r.id.entity known) i) (entity_number c.entity)) (ordering_then (slice_cmp nat_cmp r.id.key c.key) (nat_cmp r.id.tx c.tx))

before-row_cmp : (epoch : ℕ) (r : Row) (c : Change) → row_cmp r c ≢ Equal → rows.is_before r.id (id_born epoch c) ≡ is_lt (row_cmp r c)
unfolding id_cmp
before-row_cmp epoch r c n = tie_last (nat_cmp r.id.entity (entity_number c.entity)) (slice_cmp nat_cmp r.id.key c.key) (nat_cmp r.id.tx c.tx) (nat_cmp r.id.born epoch) n

lt-before : (r : Row) (c : Change) → is_lt (place_cmp (place_of (change_of r)) (place_of c)) ≡ is_before (place_of (change_of r)) (place_of c)
unfolding is_before
lt-before r c = refl

-- of rows of different places the places decide
before-places : (epoch : ℕ) (r : Row) (c : Change) → r.id.entity ≤ 6 → place_of (change_of r) ≢ place_of c → rows.is_before r.id (id_born epoch c) ≡ is_before (place_of (change_of r)) (place_of c)
before-places epoch r c known apart =
    before-row_cmp epoch r c (λ same. apart (place_cmp-Equal (place_of (change_of r)) (place_of c) (sym (row_cmp-known r c known) ∙ same)))
    ∙ ap is_lt (row_cmp-known r c known) ∙ lt-before r c

born_id : (epoch : ℕ) (c : Change) → (row_born epoch c).id ≡ id_born epoch c
unfolding row_born
born_id epoch c = refl

put_in-rows-by : (epoch : ℕ) (c : Change) (r : Row) (rs : List Row) (t : Bool) → is_before (place_of c) (place_of (change_of r)) ≡ t → r.id.entity ≤ 6 → place_of (change_of r) ≢ place_of c
    → map change_of (insert_row (row_born epoch c) rs) ≡ put_in c (map change_of rs)
    → map change_of (insert_row (row_born epoch c) (r ∷ rs)) ≡ cond t (c ∷ change_of r ∷ map change_of rs) (change_of r ∷ put_in c (map change_of rs))
put_in-rows-by epoch c r rs true e known apart rest =
    let not_before : rows.is_before r.id (row_born epoch c).id ≡ false =
    ap (λ (id : RowId). rows.is_before r.id id) (born_id epoch c) ∙ before-places epoch r c known apart ∙ is_before-back (place_of c) (place_of (change_of r)) e in
    rw not_before (ap (λ (d : Change). d ∷ change_of r ∷ map change_of rs) (change_back epoch c))
put_in-rows-by epoch c r rs false e known apart rest =
    let before : rows.is_before r.id (row_born epoch c).id ≡ true =
    ap (λ (id : RowId). rows.is_before r.id id) (born_id epoch c) ∙ before-places epoch r c known apart ∙ is_before-else (place_of c) (place_of (change_of r)) e (λ same. apart (sym same)) in
    rw before (ap (λ (l : List Change). change_of r ∷ l) rest)

-- the row of a change that comes puts the change in at its place
put_in-rows : (epoch : ℕ) (c : Change) (rs : List Row) → All (λ r. r.id.entity ≤ 6) rs → All (λ r. place_of (change_of r) ≢ place_of c) rs → map change_of (insert_row (row_born epoch c) rs) ≡ put_in c (map change_of rs)
put_in-rows epoch c [] known new = ap (λ (d : Change). d ∷ []) (change_back epoch c)
put_in-rows epoch c (r ∷ rs) known new =
    let P = λ (x : Row). place_of (change_of x) ≢ place_of c in
    put_in-rows-by epoch c r rs (is_before (place_of c) (place_of (change_of r))) refl (All-head (λ x. x.id.entity ≤ 6) r rs known) (All-head P r rs new)
    (put_in-rows epoch c rs (All-tail (λ x. x.id.entity ≤ 6) r rs known) (All-tail P r rs new))

-- ---- one change comes

-- of a row that is seen, the change's place is another
abbrev NewFor : ℕ → Change → Row → Type 0
NewFor epoch c r = is_seen epoch r ≡ true → place_of (change_of r) ≢ place_of c

new_rows-by : (epoch : ℕ) (c : Change) (r : Row) (rs : List Row) (t : Bool) → is_seen epoch r ≡ t → IsNew c (map change_of (cond t (r ∷ seen epoch rs) (seen epoch rs))) → (IsNew c (changes_seen epoch rs) → All (NewFor epoch c) rs) → All (NewFor epoch c) (r ∷ rs)
new_rows-by epoch c r rs true e new rest =
    let P = λ (x : Change). place_of x ≢ place_of c in
    All-cons (NewFor epoch c) r rs (λ _. All-head P (change_of r) (changes_seen epoch rs) new) (rest (All-tail P (change_of r) (changes_seen epoch rs) new))
new_rows-by epoch c r rs false e new rest = All-cons (NewFor epoch c) r rs (λ is. cc (is, e)) (rest new)

new_rows : (epoch : ℕ) (c : Change) (rs : List Row) → IsNew c (changes_seen epoch rs) → All (NewFor epoch c) rs
new_rows epoch c [] new = All-nil (NewFor epoch c)
new_rows epoch c (r ∷ rs) new = new_rows-by epoch c r rs (is_seen epoch r) refl new (new_rows epoch c rs)

same_places : (r : Row) (c : Change) → r.id.entity ≡ entity_number c.entity → r.id.key ≡ c.key → r.id.tx ≡ c.tx → place_of (change_of r) ≡ place_of c
unfolding place_of change_of
same_places r c e k n =
    λ i. record { entity = (ap (λ (m : ℕ). entity_number (entity_of m)) e ∙ ap entity_number (entity_back c.entity)) i; key = k i; number = n i }

-- a row of the same place isn't alive
not_alive : (epoch : ℕ) (c : Change) (r : Row) (t : Bool) → (r.killed == 0) ≡ t → IsWritten epoch r → NewFor epoch c r → r.id.entity ≡ entity_number c.entity → r.id.key ≡ c.key → r.id.tx ≡ c.tx → t ≡ false
not_alive epoch c r true e is new same_entity same_key same_tx = absurd (new (seen-written epoch r is ∙ e) (same_places r c same_entity same_key same_tx))
not_alive epoch c r false e is new same_entity same_key same_tx = refl

is_other : (epoch : ℕ) (c : Change) (r : Row) (t : Bool) → is_same r.id (id_born epoch c) ≡ t → IsWritten epoch r → NewFor epoch c r → t ≡ false
is_other epoch c r true e is new =
    let same : r.id ≡ id_born epoch c = same_is r.id (id_born epoch c) e in
    let born : r.id.born ≡ epoch = ap (λ (w : RowId). w.born) same in
    let alive : r.killed ≡ 0 = is.fresh (omega arith) in
    let dead_too : (r.killed == 0) ≡ false =
    not_alive epoch c r (r.killed == 0) refl is new (ap (λ (w : RowId). w.entity) same) (ap (λ (w : RowId). w.key) same) (ap (λ (w : RowId). w.tx) same) in
    let alive_too : (r.killed == 0) ≡ true = eq-eqb r.killed 0 alive in
    cc (dead_too, alive_too)
is_other epoch c r false e is new = refl

row_at-none : (id : RowId) (rs : List Row) → All (λ r. is_same r.id id ≡ false) rs → row_at id rs ≡ None
row_at-none id [] all = refl
row_at-none id (r ∷ rs) all =
    let P = λ (x : Row). is_same x.id id ≡ false in
    let here : is_same r.id id ≡ false = All-head P r rs all in
    rw here (row_at-none id rs (All-tail P r rs all))

pub id_is_new : (epoch : ℕ) (c : Change) (rs : List Row) → All (IsWritten epoch) rs → All (NewFor epoch c) rs → row_at (row_born epoch c).id rs ≡ None
id_is_new epoch c rs are new =
    ap (λ (id : RowId). row_at id rs) (born_id epoch c)
    ∙ row_at-none (id_born epoch c) rs (λ i d below. is_other epoch c _ _ refl (are i d below) (new i d below))

All-insert_row : (P : Row → Type 0) (new : Row) (rs : List Row) → P new → All P rs → All P (insert_row new rs)
All-insert_row P new [] h all = All-cons P new [] h (All-nil P)
All-insert_row P new (r ∷ rs) h all = by (rows.is_before r.id new.id) (All-insert_row P new rs h (All-tail P r rs all))
  where
    by : (t : Bool) → All P (insert_row new rs) → All P (cond t (r ∷ insert_row new rs) (new ∷ r ∷ rs))
    by true rest = All-cons P r (insert_row new rs) (All-head P r rs all) rest
    by false rest = All-cons P new (r ∷ rs) h all

AllApart-insert_row : (new : Row) (rs : List Row) → AllApart rs → All (AreApart new) rs → All (λ r. AreApart r new) rs → AllApart (insert_row new rs)
AllApart-insert_row new [] apart one other = (All-nil (AreApart new), tt)
AllApart-insert_row new (r ∷ rs) apart one other =
    by (rows.is_before r.id new.id) (AllApart-insert_row new rs apart.1 (All-tail (AreApart new) r rs one) (All-tail (λ x. AreApart x new) r rs other))
  where
    by : (t : Bool) → AllApart (insert_row new rs) → AllApart (cond t (r ∷ insert_row new rs) (new ∷ r ∷ rs))
    by true rest = (All-insert_row (AreApart r) new rs (All-head (λ x. AreApart x new) r rs other) apart.0, rest)
    by false rest = (one, apart)

-- the row that comes is seen from its epoch on alone
born_seen : (epoch v : ℕ) (c : Change) → is_seen v (row_born epoch c) ≡ true → epoch ≤ v
unfolding row_born
born_seen epoch v c h = (seen_is v (row_born epoch c) h).born

apart_by : (epoch : ℕ) (c : Change) (r : Row) → IsWritten epoch r → NewFor epoch c r → r.id.entity ≡ entity_number c.entity → r.id.key ≡ c.key → r.id.tx ≡ c.tx → (v : ℕ) → epoch ≤ v → is_seen v r ≡ true → ⊥
apart_by epoch c r is new same_entity same_key same_tx v up see =
    let gone : (r.killed == 0) ≡ false = not_alive epoch c r (r.killed == 0) refl is new same_entity same_key same_tx in
    let later : v < r.killed = (seen_is v r see).killed (eqb-false r.killed 0 gone) in
    let low : r.killed < epoch = is.killed in
    omega arith

apart_new : (epoch : ℕ) (c : Change) (r : Row) → IsWritten epoch r → NewFor epoch c r → AreApart (row_born epoch c) r
unfolding row_born
apart_new epoch c r is new = λ e k n v one other. apart_by epoch c r is new (sym e) (sym k) (sym n) v (born_seen epoch v c one) other

apart_old : (epoch : ℕ) (c : Change) (r : Row) → IsWritten epoch r → NewFor epoch c r → AreApart r (row_born epoch c)
unfolding row_born
apart_old epoch c r is new = λ e k n v one other. apart_by epoch c r is new e k n v (born_seen epoch v c other) one

born_written : (epoch : ℕ) (c : Change) → 0 < epoch → IsWritten epoch (row_born epoch c)
unfolding row_born
born_written epoch c up =
    let low : entity_number c.entity < 7 = entity_number-below c.entity in
    record { born = omega arith; killed = up; fresh = λ _. refl; entity = omega arith; act = act_number-small c.act }

-- rows in order of which no two of one place are seen at once, while a batch is written at an epoch
pub record AreWritten (epoch : ℕ) (rs : List Row) : Type 0 where
  pub in_order : ascends rs ≡ true
  pub written_all : All (IsWritten epoch) rs
  pub apart : AllApart rs

comes : (epoch : ℕ) (c : Change) (rs : List Row) → 0 < epoch → AreWritten epoch rs → IsNew c (changes_seen epoch rs) → AreWritten epoch (insert_row (row_born epoch c) rs)
comes epoch c rs up are new =
    let news = new_rows epoch c rs new in record {
      in_order = insert-ascends (row_born epoch c) rs are.in_order (ap is_some (id_is_new epoch c rs are.written_all news));
      written_all = All-insert_row (IsWritten epoch) (row_born epoch c) rs (born_written epoch c up) are.written_all;
      apart = AllApart-insert_row (row_born epoch c) rs are.apart (λ i d below. apart_new epoch c _ (are.written_all i d below) (news i d below)) (λ i d below. apart_old epoch c _ (are.written_all i d below) (news i d below));
    }

born_is_seen : (epoch : ℕ) (c : Change) → 0 < epoch → is_seen epoch (row_born epoch c) ≡ true
unfolding row_born
born_is_seen epoch c up = seen-written epoch (row_born epoch c) (born_written epoch c up)

born_is_unseen : (epoch v : ℕ) (c : Change) → v < epoch → is_seen v (row_born epoch c) ≡ false
unfolding row_born
born_is_unseen epoch v c h = unseen v (row_born epoch c) h

-- what the epoch sees then
comes-changes : (epoch : ℕ) (c : Change) (rs : List Row) → 0 < epoch → AreWritten epoch rs → IsNew c (changes_seen epoch rs) → changes_seen epoch (insert_row (row_born epoch c) rs) ≡ put_in c (changes_seen epoch rs)
comes-changes epoch c rs up are new =
    ap (λ (l : List Row). map change_of l) (insert-filter (row_born epoch c) (is_seen epoch) rs (born_is_seen epoch c up) are.in_order)
    ∙ put_in-rows epoch c (seen epoch rs)
    (All-filter (is_seen epoch) (λ r. r.id.entity ≤ 6) rs (λ i d below. (are.written_all i d below).entity))
    (λ i d below. new_seen i d below)
  where
    new_seen : All (λ (r : Row). place_of (change_of r) ≢ place_of c) (seen epoch rs)
    new_seen = λ i d below. (All-filter (is_seen epoch) (NewFor epoch c) rs (new_rows epoch c rs new)) i d below (filter_passes (is_seen epoch) rs i d below)

-- ---- a batch comes

pub record Wrote (epoch : ℕ) (cs : List Change) (held : Held) : Type 0 where
  pub can : CanApply (writes_of epoch cs) held
  pub are : AreWritten epoch (applied (writes_of epoch cs) held).rows
  pub changes : changes_seen epoch (applied (writes_of epoch cs) held).rows ≡ arranged_from (changes_seen epoch held.rows) cs
  pub earlier : (v : ℕ) → v < epoch → view v (applied (writes_of epoch cs) held).rows ≡ view v held.rows

pub wrote : (epoch : ℕ) (cs : List Change) (held : Held) → 0 < epoch → AreWritten epoch held.rows → HasNoRepeats cs → All (λ c. IsNew c (changes_seen epoch held.rows)) cs → Wrote epoch cs held
wrote epoch [] held up are none new = record { can = tt; are = are; changes = refl; earlier = λ v h. refl }
wrote epoch (c ∷ cs) held up are none new =
    let N = λ (x : Change). IsNew x (changes_seen epoch held.rows) in
    let here : IsNew c (changes_seen epoch held.rows) = All-head N c cs new in
    let rest : All N cs = All-tail N c cs new in
    let acc = changes_seen epoch held.rows in
    let after = comes-changes epoch c held.rows up are here in
    let next : All (λ (x : Change). IsNew x (put_in c acc)) cs = λ k z below.
    let P = λ (x : Change). place_of x ≢ place_of (get_or cs k z) in
    All-permutation P (c ∷ acc) (put_in c acc) (put_in-IsPermutation c acc)
    (All-cons P c acc (λ same. none.0 k z below (sym same)) (rest k z below)) in
    let F : List Change → Type 0 = λ l. All (λ (x : Change). IsNew x l) cs in
    let more = wrote epoch cs (written (Insert (row_born epoch c)) held) up (comes epoch c held.rows up are here) none.1 (subst F (sym after) next) in
    record {
      can = (ap is_some (id_is_new epoch c held.rows are.written_all (new_rows epoch c held.rows here)), more.can);
      are = more.are;
      changes = more.changes ∙ ap (λ (l : List Change). arranged_from l cs) after;
      earlier = λ v h. more.earlier v h ∙ ap (λ (l : List Row). map shown l) (insert-filtered (row_born epoch c) (is_seen v) held.rows (born_is_unseen epoch v c h));
    }

-- a batch that comes to versions up to an epoch, at the next one
pub record WroteBatch (epoch : ℕ) (cs : List Change) (held : Held) : Type 0 where
  pub can : CanApply (writes_of (epoch + 1) cs) held
  pub are : AreVersions (epoch + 1) (applied (writes_of (epoch + 1) cs) held)
  pub changes : changes_seen (epoch + 1) (applied (writes_of (epoch + 1) cs) held).rows ≡ arranged_from (changes_seen epoch held.rows) cs
  pub earlier : SameUpTo epoch held.rows (applied (writes_of (epoch + 1) cs) held).rows

version_written : (epoch : ℕ) (r : Row) → IsVersion epoch r → IsWritten (epoch + 1) r
version_written epoch r is =
    let b = is.born in let k = is.killed in
    record { born = omega arith; killed = omega arith; fresh = λ h. absurd (omega arith); entity = is.entity; act = is.act }

written_version : (epoch : ℕ) (r : Row) → IsWritten epoch r → IsVersion epoch r
written_version epoch r is = let k = is.killed in record { born = is.born; killed = omega arith; entity = is.entity; act = is.act }

pub wrote_batch : (epoch : ℕ) (cs : List Change) (held : Held) → AreVersions epoch held → HasNoRepeats cs → All (λ c. IsNew c (changes_seen epoch held.rows)) cs → WroteBatch epoch cs held
wrote_batch epoch cs held are none new =
    let next : changes_seen (epoch + 1) held.rows ≡ changes_seen epoch held.rows = ap (λ (l : List Row). map change_of l) (seen-next epoch held.rows are.versions) in
    let F : List Change → Type 0 = λ l. All (λ (x : Change). IsNew x l) cs in
    let w = wrote (epoch + 1) cs held (omega arith)
    (record { in_order = are.in_order; written_all = λ i d below. version_written epoch _ (are.versions i d below); apart = are.apart })
    none (subst F (sym next) new) in
    record {
      can = w.can;
      are = record { in_order = w.are.in_order; versions = λ i d below. written_version (epoch + 1) _ (w.are.written_all i d below); apart = w.are.apart };
      changes = w.changes ∙ ap (λ (l : List Change). arranged_from l cs) next;
      earlier = λ v h. w.earlier v (omega arith);
    }

-- ---- kills

-- the row, killed at an epoch where it has the id
abbrev kill_one : RowId → ℕ → Row → Row
kill_one id epoch r = cond (is_same r.id id) (record r { killed = epoch }) r

pub kill_row-map : (id : RowId) (epoch : ℕ) (rs : List Row) → kill_row id epoch rs ≡ map (kill_one id epoch) rs
kill_row-map id epoch [] = refl
kill_row-map id epoch (r ∷ rs) = ap (λ (l : List Row). kill_one id epoch r ∷ l) (kill_row-map id epoch rs)

-- it is alive, or was killed just now
abbrev is_killable : ℕ → Row → Bool
is_killable epoch r = (r.killed == 0) || (r.killed == epoch)

-- rows with the id are killable
abbrev Killable : ℕ → RowId → Row → Type 0
Killable epoch id r = is_same r.id id ≡ true → is_killable epoch r ≡ true

-- the row is seen at fewer epochs than before, and at those before the epoch as it was
record Fades (epoch : ℕ) (r s : Row) : Type 0 where
  same_id : s.id ≡ r.id
  fewer : (v : ℕ) → is_seen v s ≡ true → is_seen v r ≡ true
  earlier : (v : ℕ) → v < epoch → is_seen v s ≡ is_seen v r
  same_shown : shown s ≡ shown r

stays : (epoch : ℕ) (r : Row) → Fades epoch r r
stays epoch r = record { same_id = refl; fewer = λ v h. h; earlier = λ v h. refl; same_shown = refl }

seen_test : (v : ℕ) (r : Row) → is_seen v r ≡ (nat_le r.id.born v && ((r.killed == 0) || nat_lt v r.killed))
unfolding is_seen
seen_test v r = refl

or_true : (b : Bool) → (b || true) ≡ true
or_true true = refl
or_true false = refl

and_true : (b : Bool) → (b && true) ≡ b
and_true true = refl
and_true false = refl

and_first : (a b : Bool) → (a && b) ≡ true → a ≡ true
and_first true b h = refl
and_first false b h = h

killed_seen : (epoch v : ℕ) (r : Row) → v < epoch → is_seen v (record r { killed = epoch }) ≡ nat_le r.id.born v
killed_seen epoch v r h =
    seen_test v (record r { killed = epoch })
    ∙ ap (λ (b : Bool). nat_le r.id.born v && ((epoch == 0) || b)) (lt-ltb v epoch h)
    ∙ ap (λ (b : Bool). nat_le r.id.born v && b) (or_true (epoch == 0))
    ∙ and_true (nat_le r.id.born v)

killable_seen : (epoch v : ℕ) (r : Row) (a b : Bool) → (r.killed == 0) ≡ a → (r.killed == epoch) ≡ b → (a || b) ≡ true → v < epoch → is_seen v r ≡ nat_le r.id.born v
killable_seen epoch v r true b e f h low =
    seen_test v r ∙ ap (λ (t : Bool). nat_le r.id.born v && (t || nat_lt v r.killed)) e ∙ and_true (nat_le r.id.born v)
killable_seen epoch v r false true e f h low =
    let same : r.killed ≡ epoch = eqb-true r.killed epoch f in
    let up : v < r.killed = omega (arith, same, low) in
    seen_test v r
    ∙ ap (λ (t : Bool). nat_le r.id.born v && ((r.killed == 0) || t)) (lt-ltb v r.killed up)
    ∙ ap (λ (t : Bool). nat_le r.id.born v && t) (or_true (r.killed == 0))
    ∙ and_true (nat_le r.id.born v)
killable_seen epoch v r false false e f h low = cc h

killed_fewer : (epoch v : ℕ) (r : Row) → 0 < epoch → is_killable epoch r ≡ true → is_seen v (record r { killed = epoch }) ≡ true → is_seen v r ≡ true
killed_fewer epoch v r up can h =
    let low : v < epoch = (seen_is v (record r { killed = epoch }) h).killed (λ z. absurd (omega (arith, z, up))) in
    killable_seen epoch v r (r.killed == 0) (r.killed == epoch) refl refl can low ∙ sym (killed_seen epoch v r low) ∙ h

kill_fades-by : (epoch : ℕ) (id : RowId) (r : Row) (t : Bool) → 0 < epoch → (t ≡ true → is_killable epoch r ≡ true) → Fades epoch r (cond t (record r { killed = epoch }) r)
kill_fades-by epoch id r true up can = record {
  same_id = refl;
  fewer = λ v h. killed_fewer epoch v r up (can refl) h;
  earlier = λ v h. killed_seen epoch v r h ∙ sym (killable_seen epoch v r (r.killed == 0) (r.killed == epoch) refl refl (can refl) h);
  same_shown = refl;
}
kill_fades-by epoch id r false up can = stays epoch r

kill_fades : (epoch : ℕ) (id : RowId) (r : Row) → 0 < epoch → Killable epoch id r → Fades epoch r (kill_one id epoch r)
kill_fades epoch id r up can = kill_fades-by epoch id r (is_same r.id id) up can

AllApart-map : (epoch : ℕ) (f : Row → Row) (rs : List Row) → All (λ r. Fades epoch r (f r)) rs → AllApart rs → AllApart (map f rs)
AllApart-map epoch f [] fade apart = tt
AllApart-map epoch f (r ∷ rs) fade apart =
    let P = λ (x : Row). Fades epoch x (f x) in
    let here : Fades epoch r (f r) = All-head P r rs fade in
    let rest : All P rs = All-tail P r rs fade in
    (All-map (AreApart (f r)) f rs (λ i d below. one (apart.0 i d below) here (rest i d below)), AllApart-map epoch f rs rest apart.1)
  where
    one : {a b c d : Row} → AreApart a b → Fades epoch a c → Fades epoch b d → AreApart c d
    one {a} {b} {c} {d} apart g h = λ e k n v s t.
        let entity : RowId → ℕ = λ (w : RowId). w.entity in
        let key : RowId → List ℕ = λ (w : RowId). w.key in
        let tx : RowId → ℕ = λ (w : RowId). w.tx in
        apart (sym (ap entity g.same_id) ∙ e ∙ ap entity h.same_id) (sym (ap key g.same_id) ∙ k ∙ ap key h.same_id) (sym (ap tx g.same_id) ∙ n ∙ ap tx h.same_id) v (g.fewer v s) (h.fewer v t)

view-map-by : (v : ℕ) (f : Row → Row) (r : Row) (rs : List Row) (t : Bool) → is_seen v (f r) ≡ t → is_seen v r ≡ t → shown (f r) ≡ shown r → view v (map f rs) ≡ view v rs → view v (map f (r ∷ rs)) ≡ view v (r ∷ rs)
view-map-by v f r rs true e g s rest = rw (e, g) (λ i. s i ∷ rest i)
view-map-by v f r rs false e g s rest = rw (e, g) rest

view-map : (epoch v : ℕ) (f : Row → Row) (rs : List Row) → v < epoch → All (λ r. Fades epoch r (f r)) rs → view v (map f rs) ≡ view v rs
view-map epoch v f [] low fade = refl
view-map epoch v f (r ∷ rs) low fade =
    let P = λ (x : Row). Fades epoch x (f x) in
    let here : Fades epoch r (f r) = All-head P r rs fade in
    view-map-by v f r rs (is_seen v r) (here.earlier v low) refl here.same_shown (view-map epoch v f rs low (All-tail P r rs fade))

-- rows after an id don't have it
none_same : (id : RowId) (rs : List Row) → ascends_after id rs ≡ true → All (λ r. is_same r.id id ≡ false) rs
none_same id [] s = All-nil (λ (r : Row). is_same r.id id ≡ false)
none_same id (r ∷ rs) s =
    let parts = both _ _ s in
    All-cons (λ (x : Row). is_same x.id id ≡ false) r rs (after_not_same r.id id parts.0) (none_same id rs (ascends_after-before id r.id rs parts.0 parts.1))

-- an id of an alive row may be killed
may_kill-by : (epoch : ℕ) (id : RowId) (r : Row) (rs : List Row) (t : Bool) → is_same r.id id ≡ t → ascends (r ∷ rs) ≡ true → IsSomeAnd (cond t (Some r) (row_at id rs)) (λ x. x.killed ≡ 0)
    → (IsSomeAnd (row_at id rs) (λ x. x.killed ≡ 0) → All (Killable epoch id) rs) → All (Killable epoch id) (r ∷ rs)
may_kill-by epoch id r rs true e s alive rest =
    let same : id ≡ r.id = sym (same_is r.id id e) in
    let behind : All (λ (x : Row). is_same x.id r.id ≡ false) rs = none_same r.id rs s in
    All-cons (Killable epoch id) r rs (λ _. ap (λ (b : Bool). b || (r.killed == epoch)) (eq-eqb r.killed 0 alive))
    (λ i d below is. let no : is_same (get_or rs i d).id id ≡ false = ap (λ (w : RowId). is_same (get_or rs i d).id w) same ∙ behind i d below in cc (is, no))
may_kill-by epoch id r rs false e s alive rest = All-cons (Killable epoch id) r rs (λ is. cc (is, e)) (rest alive)

may_kill : (epoch : ℕ) (id : RowId) (rs : List Row) → ascends rs ≡ true → IsAlive rs id → All (Killable epoch id) rs
may_kill epoch id [] s alive = All-nil (Killable epoch id)
may_kill epoch id (r ∷ rs) s alive =
    may_kill-by epoch id r rs (is_same r.id id) refl s alive (may_kill epoch id rs (ascends-after r.id rs s))

pub alive_there : (id : RowId) (o : Option Row) → IsSomeAnd o (λ x. x.killed ≡ 0) → IsSome o
alive_there id None h = absurd h
alive_there id (Some r) h = refl

row_at-kill-by : (j id : RowId) (epoch : ℕ) (r : Row) (rs : List Row) (t u : Bool) → is_same r.id id ≡ t → is_same r.id j ≡ u → is_some (cond u (Some r) (row_at j rs)) ≡ true → (is_some (row_at j rs) ≡ true → is_some (row_at j (map (kill_one id epoch) rs)) ≡ true)
    → is_some (row_at j (cond t (record r { killed = epoch }) r ∷ map (kill_one id epoch) rs)) ≡ true
row_at-kill-by j id epoch r rs true true e f there rest = rw f refl
row_at-kill-by j id epoch r rs true false e f there rest = rw f (rest there)
row_at-kill-by j id epoch r rs false true e f there rest = rw f refl
row_at-kill-by j id epoch r rs false false e f there rest = rw f (rest there)

pub row_at-kill : (j id : RowId) (epoch : ℕ) (rs : List Row) → is_some (row_at j rs) ≡ true → is_some (row_at j (map (kill_one id epoch) rs)) ≡ true
row_at-kill j id epoch [] there = there
row_at-kill j id epoch (r ∷ rs) there =
    row_at-kill-by j id epoch r rs (is_same r.id id) (is_same r.id j) refl refl there (row_at-kill j id epoch rs)

killable_still : (epoch : ℕ) (j id : RowId) (r : Row) (t : Bool) → Killable epoch j r → Killable epoch j (cond t (record r { killed = epoch }) r)
killable_still epoch j id r true can = λ _. ap (λ (b : Bool). (epoch == 0) || b) (eq-eqb epoch epoch refl) ∙ or_true (epoch == 0)
killable_still epoch j id r false can = can

-- the rows while ids are killed
pub record AreKilled (epoch : ℕ) (rs : List Row) : Type 0 where
  pub in_order : ascends rs ≡ true
  pub versions : All (IsVersion epoch) rs
  pub apart : AllApart rs

-- what is asked of an id that is still to be killed
record MayKill (epoch : ℕ) (rs : List Row) (id : RowId) : Type 0 where
  there : is_some (row_at id rs) ≡ true
  killable : All (Killable epoch id) rs

killed_version : (epoch : ℕ) (r : Row) (t : Bool) → IsVersion epoch r → IsVersion epoch (cond t (record r { killed = epoch }) r)
killed_version epoch r true is = record { born = is.born; killed = omega arith; entity = is.entity; act = is.act }
killed_version epoch r false is = is

killed_are : (epoch : ℕ) (id : RowId) (rs : List Row) → 0 < epoch → AreKilled epoch rs → MayKill epoch rs id → AreKilled epoch (kill_row id epoch rs)
killed_are epoch id rs up are may =
    let F : List Row → Type 0 = λ l. All (IsVersion epoch) l in
    record {
      in_order = kill-ascends id epoch rs ∙ are.in_order;
      versions = subst F (sym (kill_row-map id epoch rs)) (All-map (IsVersion epoch) (kill_one id epoch) rs (λ i d below. killed_version epoch _ _ (are.versions i d below)));
      apart = subst AllApart (sym (kill_row-map id epoch rs)) (AllApart-map epoch (kill_one id epoch) rs (λ i d below. kill_fades epoch id _ up (may.killable i d below)) are.apart);
    }

may_still : (epoch : ℕ) (id j : RowId) (rs : List Row) → MayKill epoch rs j → MayKill epoch (kill_row id epoch rs) j
may_still epoch id j rs may =
    let F : List Row → Type 0 = λ l. All (Killable epoch j) l in
    record {
      there = ap (λ (l : List Row). is_some (row_at j l)) (kill_row-map id epoch rs) ∙ row_at-kill j id epoch rs may.there;
      killable = subst F (sym (kill_row-map id epoch rs)) (All-map (Killable epoch j) (kill_one id epoch) rs (λ i d below. killable_still epoch j id _ _ (may.killable i d below)));
    }

pub record Killed (epoch floor : ℕ) (ids : List RowId) (held : Held) : Type 0 where
  pub can : CanApply (kills_of epoch floor ids) held
  pub are : AreKilled epoch (applied (kills_of epoch floor ids) held).rows
  pub earlier : (v : ℕ) → v < epoch → view v (applied (kills_of epoch floor ids) held).rows ≡ view v held.rows

killed : (epoch floor : ℕ) (ids : List RowId) (held : Held) → 0 < epoch → AreKilled epoch held.rows → All (MayKill epoch held.rows) ids → Killed epoch floor ids held
killed epoch floor [] held up are may = record { can = (tt, tt); are = are; earlier = λ v h. refl }
killed epoch floor (id ∷ ids) held up are may =
    let here : MayKill epoch held.rows id = All-head (MayKill epoch held.rows) id ids may in
    let rest : All (MayKill epoch held.rows) ids = All-tail (MayKill epoch held.rows) id ids may in
    let more = killed epoch floor ids (written (Kill id epoch) held) up (killed_are epoch id held.rows up are here) (λ i d below. may_still epoch id _ held.rows (rest i d below)) in
    record {
      can = (here.there, more.can);
      are = more.are;
      earlier = λ v h. more.earlier v h ∙ ap (view v) (kill_row-map id epoch held.rows)
          ∙ view-map epoch v (kill_one id epoch) held.rows h (λ i d below. kill_fades epoch id _ up (here.killable i d below));
    }

-- rows of versions up to an epoch that are killed at the next one
pub record KilledRows (epoch floor : ℕ) (ids : List RowId) (held : Held) : Type 0 where
  pub can : CanApply (kills_of (epoch + 1) floor ids) held
  pub are : AreVersions (epoch + 1) (applied (kills_of (epoch + 1) floor ids) held)
  pub earlier : SameUpTo epoch held.rows (applied (kills_of (epoch + 1) floor ids) held).rows

later_version : (epoch : ℕ) (r : Row) → IsVersion epoch r → IsVersion (epoch + 1) r
later_version epoch r is = let b = is.born in let k = is.killed in record { born = omega arith; killed = omega arith; entity = is.entity; act = is.act }

pub killed_rows : (epoch floor : ℕ) (ids : List RowId) (held : Held) → AreVersions epoch held → All (IsAlive held.rows) ids → KilledRows epoch floor ids held
killed_rows epoch floor ids held are alive =
    let k = killed (epoch + 1) floor ids held (omega arith)
    (record { in_order = are.in_order; versions = λ i d below. later_version epoch _ (are.versions i d below); apart = are.apart })
    (λ i d below. record { there = alive_there (get_or ids i d) _ (alive i d below); killable = may_kill (epoch + 1) (get_or ids i d) held.rows are.in_order (alive i d below) }) in
    record {
      can = k.can;
      are = record { in_order = k.are.in_order; versions = k.are.versions; apart = k.are.apart };
      earlier = λ v h. k.earlier v (omega arith);
    }

pub raised_rows : (epoch : ℕ) (held : Held) → AreVersions epoch held → AreVersions (epoch + 1) held
raised_rows epoch held are = record { in_order = are.in_order; versions = λ i d below. later_version epoch _ (are.versions i d below); apart = are.apart }

-- ---- removals

abbrev pub removals : List RowId → List RowWrite
removals ids = map (λ id. Remove id) ids

removed : List RowId → List Row → List Row
removed [] rs = rs
removed (id ∷ ids) rs = removed ids (remove_row id rs)

applied-removals : (ids : List RowId) (held : Held) → applied (removals ids) held ≡ record { rows = removed ids held.rows; floor = held.floor }
unfolding removed
applied-removals [] held = refl
applied-removals (id ∷ ids) held = applied-removals ids (written (Remove id) held)

-- removals of other ids leave the first row
removed-skip : (r : Row) (ids : List RowId) (rs : List Row) → All (λ id. is_same r.id id ≡ false) ids → removed ids (r ∷ rs) ≡ r ∷ removed ids rs
unfolding removed
removed-skip r [] rs other = refl
removed-skip r (id ∷ ids) rs other =
    let P = λ (x : RowId). is_same r.id x ≡ false in
    let here : is_same r.id id ≡ false = All-head P id ids other in
    rw here (removed-skip r ids (remove_row id rs) (All-tail P id ids other))

can-skip : (r : Row) (ids : List RowId) (rs : List Row) (floor : ℕ) → All (λ id. is_same r.id id ≡ false) ids → CanApply (removals ids) (record { rows = rs; floor = floor }) → CanApply (removals ids) (record { rows = r ∷ rs; floor = floor })
can-skip r [] rs floor other can = tt
can-skip r (id ∷ ids) rs floor other can =
    let P = λ (x : RowId). is_same r.id x ≡ false in
    let here : is_same r.id id ≡ false = All-head P id ids other in
    let more = can-skip r ids (remove_row id rs) floor (All-tail P id ids other) can.1 in
    let F : List Row → Type 0 = λ l. CanApply (removals ids) (record { rows = l; floor = floor }) in
    (ap (λ (t : Bool). is_some (cond t (Some r) (row_at id rs))) here ∙ can.0, subst F (sym (ap (λ (t : Bool). cond t (remove_row id rs) (r ∷ remove_row id rs)) here)) more)

none_here : (r : Row) (p : Row → Bool) (rs : List Row) → ascends_after r.id rs ≡ true → All (λ id. is_same r.id id ≡ false) (ids_of (filter p rs))
none_here r p rs s =
    All-map (λ (id : RowId). is_same r.id id ≡ false) (λ (x : Row). x.id) (filter p rs)
    (All-filter p (λ x. is_same r.id x.id ≡ false) rs (each rs s))
  where
    each : (rs : List Row) → ascends_after r.id rs ≡ true → All (λ x. is_same r.id x.id ≡ false) rs
    each [] s = All-nil (λ (x : Row). is_same r.id x.id ≡ false)
    each (x ∷ xs) s =
        let parts = both _ _ s in
        All-cons (λ (y : Row). is_same r.id y.id ≡ false) x xs (before_not_same r.id x.id parts.0) (each xs (ascends_after-before r.id x.id xs parts.0 parts.1))

remove_own : (r : Row) (rs : List Row) → ascends (r ∷ rs) ≡ true → remove_row r.id (r ∷ rs) ≡ rs
remove_own r rs s = rw (same_itself r.id) (remove-after r.id rs s)

removed-filter-by : (p : Row → Bool) (r : Row) (rs : List Row) (t : Bool) → ascends (r ∷ rs) ≡ true → removed (ids_of (filter p rs)) rs ≡ filter (λ x. not (p x)) rs
    → removed (ids_of (cond t (r ∷ filter p rs) (filter p rs))) (r ∷ rs) ≡ cond (not t) (r ∷ filter (λ x. not (p x)) rs) (filter (λ x. not (p x)) rs)
unfolding removed
removed-filter-by p r rs true s rest = ap (removed (ids_of (filter p rs))) (remove_own r rs s) ∙ rest
removed-filter-by p r rs false s rest = removed-skip r (ids_of (filter p rs)) rs (none_here r p rs s) ∙ ap (λ (l : List Row). r ∷ l) rest

-- the rows of a test are removed, so the others are left
removed-filter : (p : Row → Bool) (rs : List Row) → ascends rs ≡ true → removed (ids_of (filter p rs)) rs ≡ filter (λ x. not (p x)) rs
unfolding removed
removed-filter p [] s = refl
removed-filter p (r ∷ rs) s = removed-filter-by p r rs (p r) s (removed-filter p rs (ascends-after r.id rs s))

can_remove-by : (p : Row → Bool) (r : Row) (rs : List Row) (floor : ℕ) (t : Bool) → ascends (r ∷ rs) ≡ true → CanApply (removals (ids_of (filter p rs))) (record { rows = rs; floor = floor })
    → CanApply (removals (ids_of (cond t (r ∷ filter p rs) (filter p rs)))) (record { rows = r ∷ rs; floor = floor })
can_remove-by p r rs floor true s rest =
    let F : List Row → Type 0 = λ l. CanApply (removals (ids_of (filter p rs))) (record { rows = l; floor = floor }) in
    (ap (λ (t : Bool). is_some (cond t (Some r) (row_at r.id rs))) (same_itself r.id), subst F (sym (remove_own r rs s)) rest)
can_remove-by p r rs floor false s rest = can-skip r (ids_of (filter p rs)) rs floor (none_here r p rs s) rest

can_remove : (p : Row → Bool) (rs : List Row) (floor : ℕ) → ascends rs ≡ true → CanApply (removals (ids_of (filter p rs))) (record { rows = rs; floor = floor })
can_remove p [] floor s = tt
can_remove p (r ∷ rs) floor s = can_remove-by p r rs floor (p r) s (can_remove p rs floor (ascends-after r.id rs s))

AllApart-filter-by : (p : Row → Bool) (r : Row) (rs : List Row) (t : Bool) → All (AreApart r) rs → AllApart (filter p rs) → AllApart (cond t (r ∷ filter p rs) (filter p rs))
AllApart-filter-by p r rs true all rest = (All-filter p (AreApart r) rs all, rest)
AllApart-filter-by p r rs false all rest = rest

AllApart-filter : (p : Row → Bool) (rs : List Row) → AllApart rs → AllApart (filter p rs)
AllApart-filter p [] apart = tt
AllApart-filter p (r ∷ rs) apart = AllApart-filter-by p r rs (p r) apart.0 (AllApart-filter p rs apart.1)

ascends_after-filter-by : (p : Row → Bool) (low : RowId) (r : Row) (rs : List Row) (t : Bool) → rows.is_before low r.id ≡ true → ascends_after r.id rs ≡ true → ((w : RowId) → ascends_after w rs ≡ true → ascends_after w (filter p rs) ≡ true) → ascends_after low (cond t (r ∷ filter p rs) (filter p rs)) ≡ true
ascends_after-filter-by p low r rs true up s rest = rw up (rest r.id s)
ascends_after-filter-by p low r rs false up s rest = rest low (ascends_after-before low r.id rs up s)

ascends_after-filter : (p : Row → Bool) (low : RowId) (rs : List Row) → ascends_after low rs ≡ true → ascends_after low (filter p rs) ≡ true
ascends_after-filter p low [] s = refl
ascends_after-filter p low (r ∷ rs) s =
    let parts = both _ _ s in
    ascends_after-filter-by p low r rs (p r) parts.0 parts.1 (λ w h. ascends_after-filter p w rs h)

ascends-filter-by : (p : Row → Bool) (r : Row) (rs : List Row) (t : Bool) → ascends_after r.id rs ≡ true → ascends (filter p rs) ≡ true → ascends (cond t (r ∷ filter p rs) (filter p rs)) ≡ true
ascends-filter-by p r rs true s rest = ascends_after-filter p r.id rs s
ascends-filter-by p r rs false s rest = rest

pub ascends-filter : (p : Row → Bool) (rs : List Row) → ascends rs ≡ true → ascends (filter p rs) ≡ true
ascends-filter p [] s = refl
ascends-filter p (r ∷ rs) s = ascends-filter-by p r rs (p r) s (ascends-filter p rs (ascends-after r.id rs s))

-- a row that was killed by an epoch isn't seen from it on
dead_unseen_by : (oldest v : ℕ) (r : Row) (k l : Bool) → (r.killed == 0) ≡ k → nat_le r.killed oldest ≡ l → (not k && l) ≡ true → oldest ≤ v → is_seen v r ≡ false
dead_unseen_by oldest v r true l e f h up = cc h
dead_unseen_by oldest v r false true e f h up =
    let low : r.killed ≤ oldest = leb-true r.killed oldest f in
    let down : r.killed ≤ v = omega (arith, low, up) in
    seen_test v r ∙ (λ i. nat_le r.id.born v && (e i || le-ltb v r.killed down i)) ∙ and_false (nat_le r.id.born v)
  where
    and_false : (b : Bool) → (b && false) ≡ false
    and_false true = refl
    and_false false = refl
dead_unseen_by oldest v r false false e f h up = cc h

pub dead_test : (oldest : ℕ) (r : Row) → is_dead oldest r ≡ (not (r.killed == 0) && nat_le r.killed oldest)
unfolding is_dead
dead_test oldest r = refl

dead_unseen : (oldest v : ℕ) (r : Row) → oldest ≤ v → is_dead oldest r ≡ true → is_seen v r ≡ false
dead_unseen oldest v r up h =
    dead_unseen_by oldest v r (r.killed == 0) (nat_le r.killed oldest) refl refl (sym (dead_test oldest r) ∙ h) up

seen-without-by : (oldest v : ℕ) (r : Row) (rs : List Row) (t : Bool) → is_dead oldest r ≡ t → oldest ≤ v → seen v (without_dead oldest rs) ≡ seen v rs → seen v (cond (not t) (r ∷ without_dead oldest rs) (without_dead oldest rs)) ≡ seen v (r ∷ rs)
seen-without-by oldest v r rs true e up rest = rw (dead_unseen oldest v r up e) rest
seen-without-by oldest v r rs false e up rest = ap (λ (l : List Row). cond (is_seen v r) (r ∷ l) l) rest

seen-without : (oldest v : ℕ) (rs : List Row) → oldest ≤ v → seen v (without_dead oldest rs) ≡ seen v rs
seen-without oldest v [] up = refl
seen-without oldest v (r ∷ rs) up = seen-without-by oldest v r rs (is_dead oldest r) refl up (seen-without oldest v rs up)

pub record Purged (epoch oldest : ℕ) (held : Held) : Type 0 where
  pub can : CanApply (removals (ids_of (dead oldest held.rows))) held
  pub is : applied (removals (ids_of (dead oldest held.rows))) held ≡ record held { rows = without_dead oldest held.rows }
  pub are : AreVersions epoch (record held { rows = without_dead oldest held.rows })
  pub later : SameFrom oldest held.rows (without_dead oldest held.rows)

pub purged : (epoch oldest : ℕ) (held : Held) → AreVersions epoch held → Purged epoch oldest held
purged epoch oldest held are = record {
  can = can_remove (is_dead oldest) held.rows held.floor are.in_order;
  is = applied-removals (ids_of (dead oldest held.rows)) held ∙ ap (λ (l : List Row). record held { rows = l }) (removed-filter (is_dead oldest) held.rows are.in_order);
  are = record {
    in_order = ascends-filter (λ r. not (is_dead oldest r)) held.rows are.in_order;
    versions = All-filter (λ r. not (is_dead oldest r)) (IsVersion epoch) held.rows are.versions;
    apart = AllApart-filter (λ r. not (is_dead oldest r)) held.rows are.apart;
  };
  later = λ v up. ap (λ (l : List Row). map shown l) (seen-without oldest v held.rows up);
}
