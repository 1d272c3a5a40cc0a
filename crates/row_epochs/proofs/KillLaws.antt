-- Laws of notes of killed rows.
use Rattle.std.proofs.Common.{◌≡◌, inl, inr, ℕ, ◌+◌, ◌<◌, Bool, true, false, not, cond, ◌&&◌, List, [], ◌∷◌, ◌++◌, map, All, Option, Some, None, IfSome, is_some, IsTrue, refl, sym, ap, subst, ◌∙◌, arith, eqb-true, append-nil, append_assoc, get_or, take, zero, suc, length}
use Rattle.std.specs.Prelude.{◌==◌, nat_le}
use Rattle.std.specs.Option.{ForSome}
use Rattle.std.specs.List.{filter}
use Rattle.std.specs.declared.cmp.Ordering.{Ordering}
use Rattle.std.specs.declared.cmp.Ordering.TheVariants.{Less, Equal, Greater}
use Rattle.std.specs.Ordering.{is_lt, ordering_reverse, match_ordering}
use Rattle.std.specs.Cmp.{tied_itself}
use Rattle.std.specs.BTreeMap.{BTreeMap, insert_entry}
use Rattle.std.proofs.lemmas.List.Elements.{All-cons, All-head, All-tail, All-nil, All-append}
use Rattle.agg_outside.specs.declared.rows.RowId.{RowId}
use Rattle.agg_outside.specs.declared.rows.Row.{Row}
use Rattle.agg_outside.specs.declared.rows.RowWrite.{RowWrite}
use Rattle.agg_outside.specs.Rows.{Held, id_cmp, is_before, is_same, ascends, ascends_after, row_at, rows_from, kill_row, insert_row, applied}
use Rattle.agg_outside.specs.RowOrder.{id_cmp_total, same_itself, before_not_same, three_ways, ascends-after, ascends_after-before, kill-after, kill-ascends, row_at-after}
use Rattle.agg_model.specs.declared.change.Change.{Change}
use Rattle.row_epochs.specs.Seen.{dead, without_dead}
use Rattle.row_epochs.specs.Changes.{row_born, writes_of, kills_of}
use Rattle.row_epochs.specs.Places.{ids_of, first_place}
use Rattle.row_epochs.specs.Versions.{AreVersions, IsAlive}
use Rattle.row_epochs.specs.Kills.{is_killed, kill_of, kills_in, AreKillsNoted, dead_kills, later_kills, noted, with_kills}
use Rattle.row_epochs.proofs.WriteLaws.{insert-filtered, alive_there, kill_row-map, row_at-kill, dead_test}
use Rattle.row_epochs.proofs.RowWalks.{rows_from-first}
use Rattle.row_epochs.proofs.Answering.{fall}

both : (a b : Bool) → (cond a b false) ≡ true → (a ≡ true) × (b ≡ true)
both true b h = (refl, h)
both false b h = cc h

-- ---- places among notes

less : (r : Ordering) → is_lt r ≡ true → r ≡ Less
less Less h = refl
less Equal h = cc h
less Greater h = cc h

greater : (a b : RowId) → is_before a b ≡ true → id_cmp b a ≡ Greater
greater a b h = id_cmp_total.antisymm b a ∙ ap ordering_reverse (less (id_cmp a b) h)

insert-last : (es : List (RowId × ℕ)) (id : RowId) (k : ℕ) → All (λ e. is_before e.0 id ≡ true) es → insert_entry id_cmp es id k ≡ es ++ (id, k) ∷ []
insert-last [] id k all = refl
insert-last (e ∷ es) id k all =
    let P = λ (x : RowId × ℕ). is_before x.0 id ≡ true in
    ap (λ (o : Ordering). match_ordering o ((id, k) ∷ e ∷ es) ((e.0, k) ∷ es) (e ∷ insert_entry id_cmp es id k)) (greater e.0 id (All-head P e es all))
    ∙ ap (λ (l : List (RowId × ℕ)). e ∷ l) (insert-last es id k (All-tail P e es all))

insert-first-by : (id : RowId) (k : ℕ) (r : Row) (rs : List Row) (t : Bool) → is_before id r.id ≡ true → insert_entry id_cmp (kills_in rs) id k ≡ (id, k) ∷ kills_in rs
    → insert_entry id_cmp (map kill_of (cond t (r ∷ filter is_killed rs) (filter is_killed rs))) id k ≡ (id, k) ∷ map kill_of (cond t (r ∷ filter is_killed rs) (filter is_killed rs))
insert-first-by id k r rs true up rest =
    ap (λ (o : Ordering). match_ordering o ((id, k) ∷ kill_of r ∷ kills_in rs) ((r.id, k) ∷ kills_in rs) (kill_of r ∷ insert_entry id_cmp (kills_in rs) id k)) (less (id_cmp id r.id) up)
insert-first-by id k r rs false up rest = rest

insert-first : (id : RowId) (k : ℕ) (rs : List Row) → ascends_after id rs ≡ true → insert_entry id_cmp (kills_in rs) id k ≡ (id, k) ∷ kills_in rs
insert-first id k [] s = refl
insert-first id k (r ∷ rs) s =
    let parts = both _ _ s in
    insert-first-by id k r rs (is_killed r) parts.0 (insert-first id k rs (ascends_after-before id r.id rs parts.0 parts.1))

-- ---- a row is killed

killed_now : (epoch : ℕ) → 0 < epoch → not (epoch == 0) ≡ true
killed_now epoch up = by (epoch == 0) refl
  where
    by : (t : Bool) → (epoch == 0) ≡ t → not t ≡ true
    by true e = let none : epoch ≡ 0 = eqb-true epoch 0 e in absurd (omega (arith, up, none))
    by false e = refl

put_before : (id : RowId) (epoch : ℕ) (r : Row) (rs : List Row) (t : Bool) → is_before r.id id ≡ true → insert_entry id_cmp (kills_in rs) id epoch ≡ kills_in (kill_row id epoch rs)
    → insert_entry id_cmp (map kill_of (cond t (r ∷ filter is_killed rs) (filter is_killed rs))) id epoch ≡ map kill_of (cond t (r ∷ filter is_killed (kill_row id epoch rs)) (filter is_killed (kill_row id epoch rs)))
put_before id epoch r rs true up rest =
    ap (λ (o : Ordering). match_ordering o ((id, epoch) ∷ kill_of r ∷ kills_in rs) ((r.id, epoch) ∷ kills_in rs) (kill_of r ∷ insert_entry id_cmp (kills_in rs) id epoch)) (greater r.id id up)
    ∙ ap (λ (l : List (RowId × ℕ)). kill_of r ∷ l) rest
put_before id epoch r rs false up rest = rest

put_same-by : (epoch : ℕ) (r : Row) (rs : List Row) (t : Bool) → ascends_after r.id rs ≡ true → insert_entry id_cmp (map kill_of (cond t (r ∷ filter is_killed rs) (filter is_killed rs))) r.id epoch ≡ (r.id, epoch) ∷ kills_in rs
put_same-by epoch r rs true s =
    ap (λ (o : Ordering). match_ordering o ((r.id, epoch) ∷ kill_of r ∷ kills_in rs) ((r.id, epoch) ∷ kills_in rs) (kill_of r ∷ insert_entry id_cmp (kills_in rs) r.id epoch)) (tied_itself id_cmp_total r.id)
put_same-by epoch r rs false s = insert-first r.id epoch rs s

kill_own : (epoch : ℕ) (r : Row) (rs : List Row) → 0 < epoch → ascends_after r.id rs ≡ true → kills_in (kill_row r.id epoch (r ∷ rs)) ≡ (r.id, epoch) ∷ kills_in rs
kill_own epoch r rs up s =
    let dead : Row = record r { killed = epoch } in
    let rest = kill_row r.id epoch rs in
    ap (λ (t : Bool). kills_in (cond t dead r ∷ rest)) (same_itself r.id)
    ∙ ap (λ (t : Bool). map kill_of (cond t (dead ∷ filter is_killed rest) (filter is_killed rest))) (killed_now epoch up)
    ∙ ap (λ (l : List Row). (r.id, epoch) ∷ kills_in l) (kill-after r.id epoch rs s)

-- a row that is there is noted by one more entry, or a new one in place of its own
pub put_kill : (id : RowId) (epoch : ℕ) (rs : List Row) → 0 < epoch → ascends rs ≡ true → is_some (row_at id rs) ≡ true → insert_entry id_cmp (kills_in rs) id epoch ≡ kills_in (kill_row id epoch rs)
put_kill id epoch [] up s there = cc there
put_kill id epoch (r ∷ rs) up s there = elim (three_ways r.id id) [
  | inl before ↦
      let other : is_same r.id id ≡ false = before_not_same r.id id before in
      put_before id epoch r rs (is_killed r) before
      (put_kill id epoch rs up (ascends-after r.id rs s) (ap (λ (t : Bool). is_some (cond t (Some r) (row_at id rs))) (sym other) ∙ there))
      ∙ ap (λ (t : Bool). kills_in (cond t (record r { killed = epoch }) r ∷ kill_row id epoch rs)) (sym other)
  | inr rest ↦ elim rest [
    | inl same ↦
        subst (λ (w : RowId). insert_entry id_cmp (kills_in (r ∷ rs)) w epoch ≡ kills_in (kill_row w epoch (r ∷ rs))) same
        (put_same-by epoch r rs (is_killed r) s ∙ sym (kill_own epoch r rs up s))
    | inr after ↦
        let gone : row_at id (r ∷ rs) ≡ None = row_at-after id (r ∷ rs) (ap (λ (t : Bool). cond t (ascends_after r.id rs) false) after ∙ s) in
        let not_there : is_some (row_at id (r ∷ rs)) ≡ false = ap is_some gone in
        cc (not_there, there)
  ]
]

still_there : (j id : RowId) (epoch : ℕ) (rs : List Row) → is_some (row_at j rs) ≡ true → is_some (row_at j (kill_row id epoch rs)) ≡ true
still_there j id epoch rs there = ap (λ (l : List Row). is_some (row_at j l)) (kill_row-map id epoch rs) ∙ row_at-kill j id epoch rs there

-- rows are killed
with_kills-is : (epoch floor : ℕ) (ids : List RowId) (h : Held) → 0 < epoch → ascends h.rows ≡ true → All (λ id. is_some (row_at id h.rows) ≡ true) ids → with_kills epoch (kills_in h.rows) ids ≡ kills_in (applied (kills_of epoch floor ids) h).rows
with_kills-is epoch floor [] h up s there = refl
with_kills-is epoch floor (id ∷ ids) h up s there =
    let P = λ (w : RowId). is_some (row_at w h.rows) ≡ true in
    let rest : All P ids = All-tail P id ids there in
    ap (λ (l : List (RowId × ℕ)). with_kills epoch l ids) (put_kill id epoch h.rows up s (All-head P id ids there))
    ∙ with_kills-is epoch floor ids (record h { rows = kill_row id epoch h.rows }) up (kill-ascends id epoch h.rows ∙ s) (λ i d below. still_there _ id epoch h.rows (rest i d below))

put_next : (epoch : ℕ) (es : List (RowId × ℕ)) (ids : List RowId) (i : ℕ) (id : RowId) → i < length ids → id ≡ get_or ids i id → with_kills epoch es (take (suc i) ids) ≡ insert_entry id_cmp (with_kills epoch es (take i ids)) id epoch
put_next epoch es [] i id h is = absurd (omega arith)
put_next epoch es (x ∷ xs) zero id h is = ap (λ (w : RowId). insert_entry id_cmp es w epoch) (sym is)
put_next epoch es (x ∷ xs) (suc i) id h is =
    let low : i < length xs = omega arith in
    put_next epoch (insert_entry id_cmp es x epoch) xs i id low is

-- one more id is noted
pub put_more : (epoch : ℕ) (es old new : List (RowId × ℕ)) (ids : List RowId) (i : ℕ) (id copy : RowId) → i < length ids → id ≡ get_or ids i id → with_kills epoch es (take i ids) ≡ old → copy ≡ id → new ≡ insert_entry id_cmp old copy epoch
    → with_kills epoch es (take (i + 1) ids) ≡ new
put_more epoch es old new ids i id copy h is before same now =
    let more : suc i ≡ i + 1 = omega arith in
    ap (λ (n : ℕ). with_kills epoch es (take n ids)) (sym more)
    ∙ put_next epoch es ids i id h is
    ∙ (λ j. insert_entry id_cmp (before j) (sym same j) epoch)
    ∙ sym now

pub noted_kills : (k : BTreeMap RowId ℕ) (o : Option (BTreeMap RowId ℕ)) (old : BTreeMap RowId ℕ) (epoch floor : ℕ) (ids : List RowId) (h : Held) → o ≡ Some old → k.entries ≡ with_kills epoch old.entries ids → 0 < epoch → ascends h.rows ≡ true → All (IsAlive h.rows) ids → AreKillsNoted o h.rows
    → AreKillsNoted (Some k) (applied (kills_of epoch floor ids) h).rows
noted_kills k o old epoch floor ids h some is up s alive all =
    let F : Option (BTreeMap RowId ℕ) → Type 0 = λ x. AreKillsNoted x h.rows in
    let here : old.entries ≡ kills_in h.rows = subst F some all in
    is ∙ ap (λ (l : List (RowId × ℕ)). with_kills epoch l ids) here
    ∙ with_kills-is epoch floor ids h up s (λ i d below. alive_there (get_or ids i d) (row_at (get_or ids i d) h.rows) (alive i d below))

-- ---- all rows are gone over

pub noted-append : (es : List (RowId × ℕ)) (xs ys : List Row) → noted es (xs ++ ys) ≡ noted (noted es xs) ys
noted-append es [] ys = refl
noted-append es (x ∷ xs) ys = noted-append (cond (is_killed x) (insert_entry id_cmp es x.id x.killed) es) xs ys

noted-is-by : (es : List (RowId × ℕ)) (r : Row) (rs : List Row) (t : Bool) → ascends_after r.id rs ≡ true → All (λ e. ascends_after e.0 (r ∷ rs) ≡ true) es
    → ((fs : List (RowId × ℕ)) → All (λ e. ascends_after e.0 rs ≡ true) fs → noted fs rs ≡ fs ++ kills_in rs)
    → noted (cond t (insert_entry id_cmp es r.id r.killed) es) rs ≡ es ++ map kill_of (cond t (r ∷ filter is_killed rs) (filter is_killed rs))
noted-is-by es r rs t s all rest = by t
  where
    P : RowId × ℕ → Type 0
    P = λ e. ascends_after e.0 rs ≡ true

    later : All (λ (e : RowId × ℕ). ascends_after e.0 rs ≡ true) es
    later = λ i d below. let parts = both _ _ (all i d below) in ascends_after-before _ r.id rs parts.0 parts.1

    by : (u : Bool) → noted (cond u (insert_entry id_cmp es r.id r.killed) es) rs ≡ es ++ map kill_of (cond u (r ∷ filter is_killed rs) (filter is_killed rs))
    by true =
        ap (λ (l : List (RowId × ℕ)). noted l rs) (insert-last es r.id r.killed (λ i d below. (both _ _ (all i d below)).0))
        ∙ rest (es ++ kill_of r ∷ []) (All-append (λ (e : RowId × ℕ). ascends_after e.0 rs ≡ true) es (kill_of r ∷ []) later (All-cons (λ (e : RowId × ℕ). ascends_after e.0 rs ≡ true) (kill_of r) [] s (All-nil (λ (e : RowId × ℕ). ascends_after e.0 rs ≡ true))))
        ∙ append_assoc es (kill_of r ∷ []) (kills_in rs)
    by false = rest es later

noted-is : (es : List (RowId × ℕ)) (rs : List Row) → ascends rs ≡ true → All (λ e. ascends_after e.0 rs ≡ true) es → noted es rs ≡ es ++ kills_in rs
noted-is es [] s all = sym (append-nil es)
noted-is es (r ∷ rs) s all = noted-is-by es r rs (is_killed r) s all (λ fs more. noted-is fs rs (ascends-after r.id rs s) more)

pub noted_first : (es : List (RowId × ℕ)) (place : RowId) (rs : List Row) → es ≡ [] → place ≡ first_place → ascends rs ≡ true → noted es (rows_from place rs) ≡ kills_in rs
noted_first es place rs none first s =
    ap (λ (l : List (RowId × ℕ)). noted l (rows_from place rs)) none
    ∙ ap (λ (p : RowId). noted [] (rows_from p rs)) first
    ∙ ap (noted []) (rows_from-first rs)
    ∙ noted-is [] rs s (All-nil (λ (e : RowId × ℕ). ascends_after e.0 rs ≡ true))

-- ---- what is dead, and what is left

dead_by : (oldest : ℕ) (r : Row) (rs : List Row) (t u : Bool) → nat_le r.killed oldest ≡ u → dead_kills oldest (kills_in rs) ≡ ids_of (dead oldest rs)
    → dead_kills oldest (map kill_of (cond t (r ∷ filter is_killed rs) (filter is_killed rs))) ≡ ids_of (cond (t && u) (r ∷ dead oldest rs) (dead oldest rs))
dead_by oldest r rs true true e rest = rw e (ap (λ (l : List RowId). r.id ∷ l) rest)
dead_by oldest r rs true false e rest = rw e rest
dead_by oldest r rs false u e rest = rest

-- the noted ones are those that are dead
pub dead_kills-is : (oldest : ℕ) (rs : List Row) → dead_kills oldest (kills_in rs) ≡ ids_of (dead oldest rs)
dead_kills-is oldest [] = refl
dead_kills-is oldest (r ∷ rs) =
    dead_by oldest r rs (is_killed r) (nat_le r.killed oldest) refl (dead_kills-is oldest rs)
    ∙ ap (λ (t : Bool). ids_of (cond t (r ∷ dead oldest rs) (dead oldest rs))) (sym (dead_test oldest r))

later_by : (oldest : ℕ) (r : Row) (rs : List Row) (t u : Bool) → is_killed r ≡ t → nat_le r.killed oldest ≡ u → later_kills oldest (kills_in rs) ≡ kills_in (without_dead oldest rs)
    → later_kills oldest (map kill_of (cond t (r ∷ filter is_killed rs) (filter is_killed rs))) ≡ kills_in (cond (not (t && u)) (r ∷ without_dead oldest rs) (without_dead oldest rs))
later_by oldest r rs true true f e rest = rw e rest
later_by oldest r rs true false f e rest = rw (e, f) (ap (λ (l : List (RowId × ℕ)). kill_of r ∷ l) rest)
later_by oldest r rs false u f e rest = rw f rest

later_kills-is : (oldest : ℕ) (rs : List Row) → later_kills oldest (kills_in rs) ≡ kills_in (without_dead oldest rs)
later_kills-is oldest [] = refl
later_kills-is oldest (r ∷ rs) =
    later_by oldest r rs (is_killed r) (nat_le r.killed oldest) refl refl (later_kills-is oldest rs)
    ∙ ap (λ (t : Bool). kills_in (cond (not t) (r ∷ without_dead oldest rs) (without_dead oldest rs))) (sym (dead_test oldest r))

-- the notes without those that are dead
pub noted_later : (k : BTreeMap RowId ℕ) (o : Option (BTreeMap RowId ℕ)) (old : BTreeMap RowId ℕ) (oldest : ℕ) (rs : List Row) → o ≡ Some old → k.entries ≡ later_kills oldest old.entries → AreKillsNoted o rs → AreKillsNoted (Some k) (without_dead oldest rs)
noted_later k o old oldest rs some is all =
    let F : Option (BTreeMap RowId ℕ) → Type 0 = λ x. AreKillsNoted x rs in
    is ∙ ap (later_kills oldest) (subst F some all) ∙ later_kills-is oldest rs

-- ---- a batch comes

born_alive : (epoch : ℕ) (c : Change) → is_killed (row_born epoch c) ≡ false
unfolding row_born
born_alive epoch c = refl

kills_in-batch : (epoch : ℕ) (cs : List Change) (h : Held) → kills_in (applied (writes_of epoch cs) h).rows ≡ kills_in h.rows
kills_in-batch epoch [] h = refl
kills_in-batch epoch (c ∷ cs) h =
    kills_in-batch epoch cs (record h { rows = insert_row (row_born epoch c) h.rows })
    ∙ ap (map kill_of) (insert-filtered (row_born epoch c) is_killed h.rows (born_alive epoch c))

pub noted_batch : (o : Option (BTreeMap RowId ℕ)) (epoch : ℕ) (cs : List Change) (h : Held) → AreKillsNoted o h.rows → AreKillsNoted o (applied (writes_of epoch cs) h).rows
noted_batch None epoch cs h all = tt
noted_batch (Some k) epoch cs h all = all ∙ sym (kills_in-batch epoch cs h)

-- ---- at the calls

-- a batch that is written
pub batch_noted : (old : Option Held) (o : Option (BTreeMap RowId ℕ)) (epoch : ℕ) (cs : List Change) (writes : List RowWrite) → writes ≡ writes_of epoch cs → IfSome old (λ h. AreKillsNoted o h.rows) → (h : Held) → old ≡ Some h → AreKillsNoted o (applied writes h).rows
batch_noted old o epoch cs writes is all h told =
    let F : List RowWrite → Type 0 = λ ws. AreKillsNoted o (applied ws h).rows in
    subst F (sym is) (noted_batch o epoch cs h (fall old (λ (x : Held). AreKillsNoted o x.rows) all h told))

-- rows that are killed
pub kills_noted : (old told : Option Held) (o new : Option (BTreeMap RowId ℕ)) (epoch next floor : ℕ) (ids : List RowId) (writes : List RowWrite) → old ≡ told → writes ≡ kills_of next floor ids → IfSome old (AreVersions epoch) → IfSome old (λ h. AreKillsNoted o h.rows) → ForSome told (λ h. All (IsAlive h.rows) ids)
    → ((h : Held) (bound : ℕ) → IsTrue (ascends h.rows) → All (IsAlive h.rows) ids → AreKillsNoted o h.rows → AreKillsNoted new (applied (kills_of next bound ids) h).rows) → (h : Held) → old ≡ Some h → AreKillsNoted new (applied writes h).rows
kills_noted old told o new epoch next floor ids writes same is are all alive note h there =
    let F : List RowWrite → Type 0 = λ ws. AreKillsNoted new (applied ws h).rows in
    subst F (sym is) (note h floor (fall old (AreVersions epoch) are h there).in_order (alive h (sym same ∙ there)) (fall old (λ (x : Held). AreKillsNoted o x.rows) all h there))

-- rows that are removed
pub purge_noted : (o new : Option (BTreeMap RowId ℕ)) (oldest : ℕ) (writes : List RowWrite) (h : Held) → applied writes h ≡ record h { rows = without_dead oldest h.rows } → AreKillsNoted o h.rows → ((rows : List Row) → AreKillsNoted o rows → AreKillsNoted new (without_dead oldest rows)) → AreKillsNoted new (applied writes h).rows
purge_noted o new oldest writes h is all forget =
    let F : Held → Type 0 = λ k. AreKillsNoted new k.rows in
    subst F (sym is) (forget h.rows all)
