-- Laws of the looks that pass over rows that aren't noted.
use Rattle.std.proofs.Common.{◌≡◌, ◌≢◌, ℕ, zero, suc, ◌+◌, ◌<◌, ◌≤◌, Bool, true, false, cond, ◌&&◌, ◌||◌, not, List, [], ◌∷◌, length, get_or, All, Option, Some, None, IfSome, IfNone, refl, sym, ap, subst, ◌∙◌, arith, eqb-true, eq-eqb, ltb-true, ltb-false, leb-true}
use Rattle.std.specs.Prelude.{◌==◌, nat_lt, nat_le}
use Rattle.std.specs.List.{Contains}
use Rattle.std.specs.List.Sorted.{IsSorted, IsPartitionedBy, IsPartitionPoint}
use Rattle.std.specs.Ordering.{is_lt}
use Rattle.std.specs.BTreeSet.{BTreeSet}
use Rattle.std.proofs.lemmas.List.Elements.{All-head, All-tail, All-cons, All-nil, All-contains, All-filter}
use Rattle.std.proofs.lemmas.List.Sorted.{sorted_far, ranks_by}
use Rattle.agg_outside.specs.declared.rows.RowId.{RowId}
use Rattle.agg_outside.specs.declared.rows.Row.{Row}
use Rattle.agg_outside.specs.Rows.{Held, id_cmp, is_before, insert_row, applied}
use Rattle.agg_outside.specs.RowOrder.{id_cmp_total, before_itself, not_then_before}
use Rattle.agg_model.specs.declared.change.Change.{Change}
use Rattle.row_epochs.specs.Seen.{is_seen, is_dead, without_dead}
use Rattle.row_epochs.specs.Changes.{row_born, writes_of}
use Rattle.row_epochs.specs.Versions.{AreVersions}
use Rattle.hot_keeper.specs.declared.notes.Note.{Note}
use Rattle.hot_keeper.specs.Notes.{HasNote, IsNoted, AreNoted}
use Rattle.hot_keeper.specs.Pruning.{does_prune, pruned, epoch_pruned}
use Rattle.hot_keeper.specs.Windows.{tells_key}
use Rattle.hot_keeper.specs.Skips.{AreKilledBy, AreAmong, IsFirstAmong, IsNextLook}
use Rattle.hot_keeper.proofs.PruneLaws.{pruned_no}

-- ---- rows that tell their keys are noted

both : (a b : Bool) → (a && b) ≡ true → (a ≡ true) × (b ≡ true)
both true b h = (refl, h)
both false b h = cc h

seen_alive-by : (epoch : ℕ) (r : Row) (b k l : Bool) → (r.killed == 0) ≡ k → nat_lt epoch r.killed ≡ l → (b && (k || l)) ≡ true → r.killed ≤ epoch → r.killed ≡ 0
seen_alive-by epoch r true true l e f see low = eqb-true r.killed 0 e
seen_alive-by epoch r true false true e f see low = let up : epoch < r.killed = ltb-true _ _ f in absurd (omega (arith, up, low))
seen_alive-by epoch r true false false e f see low = cc see
seen_alive-by epoch r false k l e f see low = cc see

-- an epoch that isn't before a row's kill sees it only alive
seen_alive : (epoch : ℕ) (r : Row) → is_seen epoch r ≡ true → r.killed ≤ epoch → r.killed ≡ 0
unfolding is_seen
seen_alive epoch r see low = seen_alive-by epoch r (nat_le r.id.born epoch) (r.killed == 0) (nat_lt epoch r.killed) refl refl see low

one_among : (n : BTreeSet Note) (ids : List RowId) (last epoch from to : ℕ) (r : Row) → last ≤ epoch → IsNoted n r → r.killed ≤ last → ((id : RowId) → HasNote n id → from ≤ id.tx → id.tx < to → Contains ids id) → tells_key epoch from to r ≡ true → Contains ids r.id
one_among n ids last epoch from to r up noted kill all tells =
    let parts = both _ _ tells in
    let rest = both _ _ parts.1 in
    all r.id (noted (seen_alive epoch r rest.1 (omega (arith, up, kill)))) (leb-true _ _ parts.0) (ltb-true _ _ rest.0)

pub among_noted : (n : BTreeSet Note) (ids : List RowId) (last epoch from to : ℕ) (rs : List Row) → last ≤ epoch → All (IsNoted n) rs → AreKilledBy last rs → ((id : RowId) → HasNote n id → from ≤ id.tx → id.tx < to → Contains ids id) → AreAmong epoch from to ids rs
among_noted n ids last epoch from to rs up noted kills all = λ i d below. one_among n ids last epoch from to (get_or rs i d) up (noted i d below) (kills i d below) all

pub noted_some : (o : Option (BTreeSet Note)) (n : BTreeSet Note) (rs : List Row) → o ≡ Some n → AreNoted o rs → All (IsNoted n) rs
noted_some None n rs is all = cc is
noted_some (Some m) n rs is all = let F : BTreeSet Note → Type 0 = λ x. All (IsNoted x) rs in subst F (cc is) all

-- ---- the first id from a place on

pub point_before : (ids : List RowId) (place : RowId) (n : ℕ) → n ≤ length ids → IsPartitionPoint (λ x. is_before x place ≡ true) (λ x. is_before x place ≡ false) ids n → (i : ℕ) (d : RowId) → i < n → is_before (get_or ids i d) place ≡ true
point_before ids place n within point i d low = point.0 i d (omega (arith, within, low)) low

pub point_rest : (ids : List RowId) (place : RowId) (n : ℕ) → IsPartitionPoint (λ x. is_before x place ≡ true) (λ x. is_before x place ≡ false) ids n → (i : ℕ) (d : RowId) → n ≤ i → i < length ids → is_before (get_or ids i d) place ≡ false
point_rest ids place n point i d up low = point.1 i d up low

far : (ids : List RowId) → IsSorted id_cmp ids → (i j : ℕ) (d : RowId) → i ≤ j → j < length ids → is_before (get_or ids j d) (get_or ids i d) ≡ false
far ids up i j d le low = sorted_far (λ (x y : RowId). is_lt (id_cmp x y)) (ranks_by id_cmp_total (λ (x : RowId). x)) ids up i j d le low

pub ids_partitioned : (ids : List RowId) (place : RowId) → IsSorted id_cmp ids → IsPartitionedBy (λ x. is_before x place) ids
ids_partitioned ids place up = λ i j d le low before. not_then_before (get_or ids i d) (get_or ids j d) place (far ids up i j d le low) before

pub first_none : (ids : List RowId) (place : RowId) (n : ℕ) → length ids ≤ n → ((i : ℕ) (d : RowId) → i < n → is_before (get_or ids i d) place ≡ true) → IsFirstAmong ids place None
first_none ids place n short before = λ i d below. before i d (omega (arith, short, below))

same_item : (ids : List RowId) (n : ℕ) (d e : RowId) → n < length ids → get_or ids n d ≡ get_or ids n e
same_item [] n d e low = absurd (omega arith)
same_item (x ∷ ids) zero d e low = refl
same_item (x ∷ ids) (suc n) d e low = same_item ids n d e (omega arith)

pub first_some : (ids : List RowId) (place next own : RowId) (n : ℕ) → IsSorted id_cmp ids → n < length ids → next ≡ get_or ids n own → ((i : ℕ) (d : RowId) → i < n → is_before (get_or ids i d) place ≡ true) → ((i : ℕ) (d : RowId) → n ≤ i → i < length ids → is_before (get_or ids i d) place ≡ false) → IsFirstAmong ids place (Some next)
first_some ids place next own n up low is before rest = (
  ap (λ (x : RowId). is_before x place) is ∙ rest n own (omega arith) low,
  λ i d below after. by i d below after (nat_lt i n) refl,
)
  where
    by : (i : ℕ) (d : RowId) → i < length ids → is_before (get_or ids i d) place ≡ false → (t : Bool) → nat_lt i n ≡ t → is_before (get_or ids i d) next ≡ false
    by i d below after true e = let passed : is_before (get_or ids i d) place ≡ true = before i d (ltb-true _ _ e) in cc (passed, after)
    by i d below after false e =
        let on : n ≤ i = ltb-false _ _ e in
        ap (λ (x : RowId). is_before (get_or ids i d) x) (is ∙ same_item ids n own d low) ∙ far ids up n i d on below

pub next_among : (ids : List RowId) (place : RowId) (next : Option RowId) (epoch from to : ℕ) (rs : List Row) → IsFirstAmong ids place next → AreAmong epoch from to ids rs → IsNextLook epoch from to rs place next
next_among ids place None epoch from to rs first among =
    λ i d below tells after. let passed = All-contains (λ (x : RowId). is_before x place ≡ true) ids (get_or rs i d).id first (among i d below tells) in cc (passed, after)
next_among ids place (Some next) epoch from to rs first among = (
  first.0,
  λ i d below tells after. All-contains (λ (x : RowId). is_before x place ≡ false → is_before x next ≡ false) ids (get_or rs i d).id first.1 (among i d below tells) after,
)

pub next_itself : (place : RowId) (epoch from to : ℕ) (rs : List Row) → IsNextLook epoch from to rs place (Some place)
next_itself place epoch from to rs = (before_itself place, λ i d below tells after. after)

-- ---- the last kill

pub killed_versions : (epoch : ℕ) (h : Held) → AreVersions epoch h → AreKilledBy epoch h.rows
killed_versions epoch h are = λ i d below. (are.versions i d below).killed

killed_insert : (last : ℕ) (new : Row) (rs : List Row) → new.killed ≤ last → AreKilledBy last rs → AreKilledBy last (insert_row new rs)
killed_insert last new [] low all = All-cons (λ (r : Row). r.killed ≤ last) new [] low all
killed_insert last new (r ∷ rs) low all = by (is_before r.id new.id) (killed_insert last new rs low (All-tail (λ (x : Row). x.killed ≤ last) r rs all))
  where
    by : (t : Bool) → AreKilledBy last (insert_row new rs) → AreKilledBy last (cond t (r ∷ insert_row new rs) (new ∷ r ∷ rs))
    by true rest = All-cons (λ (x : Row). x.killed ≤ last) r (insert_row new rs) (All-head (λ (x : Row). x.killed ≤ last) r rs all) rest
    by false rest = All-cons (λ (x : Row). x.killed ≤ last) new (r ∷ rs) low all

born_alive : (epoch : ℕ) (c : Change) → (row_born epoch c).killed ≡ 0
unfolding row_born
born_alive epoch c = refl

-- the rows of a batch come
pub killed_batch : (last epoch : ℕ) (cs : List Change) (h : Held) → AreKilledBy last h.rows → AreKilledBy last (applied (writes_of epoch cs) h).rows
killed_batch last epoch [] h all = all
killed_batch last epoch (c ∷ cs) h all =
    let alive : (row_born epoch c).killed ≡ 0 = born_alive epoch c in
    killed_batch last epoch cs (record h { rows = insert_row (row_born epoch c) h.rows }) (killed_insert last (row_born epoch c) h.rows (omega (arith, alive)) all)

pub killed_purged : (last oldest : ℕ) (rs : List Row) → AreKilledBy last rs → AreKilledBy last (without_dead oldest rs)
killed_purged last oldest rs all = All-filter (λ r. not (is_dead oldest r)) (λ (r : Row). r.killed ≤ last) rs all

unlike : (a b : ℕ) → a ≢ b → (a == b) ≡ false
unlike a b other = by (a == b) refl
  where
    by : (t : Bool) → (a == b) ≡ t → t ≡ false
    by true e = absurd (other (eqb-true a b e))
    by false e = refl

killed_pruned-by : (last epoch after tx floor limit : ℕ) (h : Held) (t : Bool) → does_prune tx floor limit h ≡ t → after ≡ epoch_pruned epoch tx floor limit h → AreVersions after (pruned (epoch + 1) tx floor limit h) → AreKilledBy last h.rows → AreKilledBy (cond (epoch == after) last after) (pruned (epoch + 1) tx floor limit h).rows
killed_pruned-by last epoch after tx floor limit h true does is are all =
    let up : after ≡ epoch + 1 = is ∙ ap (λ b. cond b (epoch + 1) epoch) does in
    let other : (epoch == after) ≡ false = unlike epoch after (λ same. omega (arith, up, same)) in
    let F : Bool → Type 0 = λ b. AreKilledBy (cond b last after) (pruned (epoch + 1) tx floor limit h).rows in
    subst F (sym other) (killed_versions after (pruned (epoch + 1) tx floor limit h) are)
killed_pruned-by last epoch after tx floor limit h false does is are all =
    let stays : after ≡ epoch = is ∙ ap (λ b. cond b (epoch + 1) epoch) does in
    let F : Bool → Type 0 = λ b. AreKilledBy (cond b last after) (pruned (epoch + 1) tx floor limit h).rows in
    let G : Held → Type 0 = λ k. AreKilledBy last k.rows in
    subst F (sym (eq-eqb epoch after (sym stays))) (subst G (sym (pruned_no (epoch + 1) tx floor limit h does)) all)

-- rows are killed, where the epoch rises
pub killed_pruned : (last epoch after tx floor limit : ℕ) (h : Held) → after ≡ epoch_pruned epoch tx floor limit h → AreVersions after (pruned (epoch + 1) tx floor limit h) → AreKilledBy last h.rows → AreKilledBy (cond (epoch == after) last after) (pruned (epoch + 1) tx floor limit h).rows
killed_pruned last epoch after tx floor limit h is are all = killed_pruned-by last epoch after tx floor limit h (does_prune tx floor limit h) refl is are all

-- whatever is told
pub killed_told : (last epoch after later tx floor limit : ℕ) (old new : Option Held) → later ≡ cond (epoch == after) last after → IfSome old (λ h. new ≡ Some (pruned (epoch + 1) tx floor limit h)) → IfSome old (λ h. after ≡ epoch_pruned epoch tx floor limit h) → IfNone old (new ≡ None) → IfSome new (AreVersions after) → IfSome old (λ h. AreKilledBy last h.rows) → IfSome new (λ k. AreKilledBy later k.rows)
killed_told last epoch after later tx floor limit None new is ok rise silent sound all =
    let F : Option Held → Type 0 = λ o. IfSome o (λ k. AreKilledBy later k.rows) in
    subst F (sym silent) tt
killed_told last epoch after later tx floor limit (Some h) new is ok rise silent sound all =
    let F : Option Held → Type 0 = λ o. IfSome o (AreVersions after) in
    let G : ℕ → Type 0 = λ n. AreKilledBy n (pruned (epoch + 1) tx floor limit h).rows in
    let H : Option Held → Type 0 = λ o. IfSome o (λ k. AreKilledBy later k.rows) in
    subst H (sym ok) (subst G (sym is) (killed_pruned last epoch after tx floor limit h rise (subst F ok sound) all))
