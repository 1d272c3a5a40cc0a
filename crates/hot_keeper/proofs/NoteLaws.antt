-- Laws of notes of rows.
use Rattle.std.proofs.Common.{◌≡◌, ℕ, zero, suc, ◌<◌, ◌≤◌, Bool, true, false, not, cond, ◌&&◌, List, [], ◌∷◌, length, map, All, Option, Some, None, refl, sym, ap, subst, ◌∙◌, arith, get_or}
use Rattle.std.specs.List.{filter, Contains}
use Rattle.std.specs.declared.cmp.Ordering.{Ordering}
use Rattle.std.specs.declared.cmp.Ordering.TheVariants.{Less, Equal, Greater}
use Rattle.std.specs.Ordering.{nat_cmp, ordering_then, is_gt, is_le}
use Rattle.std.specs.Cmp.Lexicographic.{slice_cmp}
use Rattle.std.specs.BTreeSet.{BTreeSet, keys_from, keys_between}
use Rattle.std.specs.BTreeMap.Range.{range_contains}
use Rattle.std.specs.declared.ops.Bound.TheVariants.{Included, Excluded}
use Rattle.std.proofs.lemmas.Cmp.{ranked}
use Rattle.std.proofs.lemmas.Map.Views.{contains-keys_from, btree_set_contains_iff}
use Rattle.std.proofs.lemmas.List.Elements.{All-head, All-tail, All-cons, All-nil}
use Rattle.agg_outside.specs.declared.rows.RowId.{RowId}
use Rattle.agg_outside.specs.declared.rows.Row.{Row}
use Rattle.agg_outside.specs.Rows.{Held, id_cmp, is_before, is_same, insert_row, kill_row, applied}
use Rattle.agg_outside.specs.RowOrder.{id_cmp_same}
use Rattle.agg_model.specs.declared.change.Change.{Change}
use Rattle.row_epochs.specs.Changes.{row_born, id_born, writes_of, kills_of}
use Rattle.row_epochs.specs.Places.{ids_of}
use Rattle.hot_keeper.specs.declared.notes.Note.{Note}
use Rattle.hot_keeper.specs.Notes.{note_cmp, note_of, first_note, HasNote, IsNoted, AreNoted}
use Rattle.hot_keeper.specs.NoteOrder.{note_cmp_total}

-- ---- the order of notes

nat_up-by : (a b : ℕ) (r : Ordering) → r ≡ nat_cmp a b → a ≤ b → is_gt r ≡ false
nat_up-by a b Less e h = refl
nat_up-by a b Equal e h = refl
nat_up-by a b Greater e h = let over : b < a = ranked a b Greater e in absurd (omega arith)

nat_up : (a b : ℕ) → a ≤ b → is_gt (nat_cmp a b) ≡ false
nat_up a b h = nat_up-by a b (nat_cmp a b) refl h

nat_over-by : (a b : ℕ) (r : Ordering) → r ≡ nat_cmp a b → b < a → is_gt r ≡ true
nat_over-by a b Less e h = let under : a < b = ranked a b Less e in absurd (omega arith)
nat_over-by a b Equal e h = let same : a ≡ b = ranked a b Equal e in absurd (omega (arith, same))
nat_over-by a b Greater e h = refl

then_up : (r s : Ordering) → is_gt r ≡ false → is_gt s ≡ false → is_gt (ordering_then r s) ≡ false
then_up Less s h k = refl
then_up Equal s h k = k
then_up Greater s h k = h

then_over : (r s : Ordering) → is_gt r ≡ true → is_le (ordering_then r s) ≡ false
then_over Less s h = cc h
then_over Equal s h = cc h
then_over Greater s h = refl

le_up : (r : Ordering) → is_gt r ≡ false → is_le r ≡ true
le_up Less h = refl
le_up Equal h = refl
le_up Greater h = cc h

key_up : (key : List ℕ) → is_gt (slice_cmp nat_cmp [] key) ≡ false
key_up [] = refl
key_up (b ∷ bs) = refl

-- the first note of a number is before all from it on
pub note_up : (tx : ℕ) (id : RowId) → tx ≤ id.tx → is_gt (note_cmp (first_note tx) (note_of id)) ≡ false
unfolding note_cmp id_cmp
note_up tx id h =
    then_up _ _ (nat_up tx id.tx h)
    (then_up _ _ (nat_up 0 id.entity (omega arith)) (then_up _ _ (key_up id.key) (then_up _ _ (nat_up tx id.tx h) (nat_up 0 id.born (omega arith)))))

note_from : (tx : ℕ) (id : RowId) → tx ≤ id.tx → is_le (note_cmp (first_note tx) (note_of id)) ≡ true
note_from tx id h = le_up _ (note_up tx id h)

note_under : (tx : ℕ) (id : RowId) → id.tx < tx → is_le (note_cmp (first_note tx) (note_of id)) ≡ false
unfolding note_cmp
note_under tx id h = then_over _ _ (nat_over-by tx id.tx (nat_cmp tx id.tx) refl h)

note_exact : (x y : Note) → note_cmp x y ≡ Equal → x ≡ y
unfolding note_cmp
note_exact x y e = ap note_of (id_cmp_same x.id y.id (second (nat_cmp x.id.tx y.id.tx) (id_cmp x.id y.id) e))
  where
    second : (r s : Ordering) → ordering_then r s ≡ Equal → s ≡ Equal
    second Less s e = cc e
    second Equal s e = e
    second Greater s e = cc e

-- ---- items of lists

contains_map : {A B : Type 0} (f : A → B) (xs : List A) (x : A) → Contains xs x → Contains (map f xs) (f x)
contains_map f [] x (k, b, e) = absurd (omega arith)
contains_map f (y ∷ ys) x (zero, b, e) = (0, omega arith, ap f e)
contains_map f (y ∷ ys) x (suc k, b, e) =
    let low : k < length ys = omega arith in
    let rest = contains_map f ys x (k, low, e) in
    let below : rest.0 < length (map f ys) = rest.1 in
    (suc rest.0, omega arith, rest.2)

contains_more : {A : Type 0} (y x : A) (ys : List A) → Contains ys x → Contains (y ∷ ys) x
contains_more y x ys (k, b, e) = (suc k, omega arith, e)

contains_head : {A : Type 0} (y x : A) (ys : List A) → y ≡ x → Contains (y ∷ ys) x
contains_head y x ys e = (0, omega arith, e)

contains_filter-by : {A : Type 0} (p : A → Bool) (y x : A) (ys : List A) (t : Bool) → Contains (filter p ys) x → Contains (cond t (y ∷ filter p ys) (filter p ys)) x
contains_filter-by p y x ys true rest = contains_more y x (filter p ys) rest
contains_filter-by p y x ys false rest = rest

contains_filter : {A : Type 0} (p : A → Bool) (xs : List A) (x : A) → p x ≡ true → Contains xs x → Contains (filter p xs) x
contains_filter p [] x is (k, b, e) = absurd (omega arith)
contains_filter {A} p (y ∷ ys) x is (zero, b, e) =
    let F : Bool → Type 0 = λ t. Contains (cond t (y ∷ filter p ys) (filter p ys)) x in
    subst F (sym (ap p e ∙ is)) (contains_head y x (filter p ys) e)
contains_filter p (y ∷ ys) x is (suc k, b, e) =
    let low : k < length ys = omega arith in
    contains_filter-by p y x ys (p y) (contains_filter p ys x is (k, low, e))

pub unmap : (P : RowId → Type 0) (rs : List Row) → All P (ids_of rs) → All (λ r. P r.id) rs
unmap P [] all = All-nil (λ (r : Row). P r.id)
unmap P (r ∷ rs) all = All-cons (λ (x : Row). P x.id) r rs (All-head P r.id (ids_of rs) all) (unmap P rs (All-tail P r.id (ids_of rs) all))

-- ---- what is noted within a range

both_true : (a b : Bool) → a ≡ true → b ≡ true → (a && b) ≡ true
both_true true b p q = q
both_true false b p q = cc p

-- the ids of the notes in a range have each noted id of it
pub in_range : (n : BTreeSet Note) (from to : ℕ) (first end : Note) (id : RowId) → first ≡ first_note from → end ≡ first_note to → HasNote n id → from ≤ id.tx → id.tx < to
    → Contains (map (λ (x : Note). x.id) (keys_between note_cmp (Included first) (Excluded end) n)) id
in_range n from to first end id is ends has low high =
    let there : Contains n.keys (note_of id) = (btree_set_contains_iff note_cmp_total note_exact n (note_of id)).0 has in
    let inside : range_contains note_cmp (Included (first_note from)) (Excluded (first_note to)) (note_of id) ≡ true =
    both_true _ _ (note_from from id low) (ap not (note_under to id high)) in
    let F : Note → Note → Type 0 = λ a b. Contains (map (λ (x : Note). x.id) (keys_between note_cmp (Included a) (Excluded b) n)) id in
    subst (λ a. F a end) (sym is) (subst (λ b. F (first_note from) b) (sym ends)
    (contains_map (λ (x : Note). x.id) _ (note_of id) (contains_filter (range_contains note_cmp (Included (first_note from)) (Excluded (first_note to))) n.keys (note_of id) inside there)))

-- ---- noted rows

pub noted_more : (n m : BTreeSet Note) → ((id : RowId) → HasNote n id → HasNote m id) → (rs : List Row) → All (IsNoted n) rs → All (IsNoted m) rs
noted_more n m more rs all = λ i d below alive. more _ (all i d below alive)

-- those from a number on
pub noted_rest : (n m : BTreeSet Note) (tx : ℕ) (first : Note) → first ≡ first_note tx → m.keys ≡ keys_from (note_cmp first) n → (rs : List Row) → All (IsNoted n) rs → All (λ r. r.killed ≡ 0 → tx ≤ r.id.tx) rs → All (IsNoted m) rs
noted_rest n m tx first is keys rs all high =
    λ i d below alive.
    let id = (get_or rs i d).id in
    contains-keys_from note_cmp_total n m first (note_of id) keys
    ∙ both_true _ _ (ap (λ (x : Note). is_le (note_cmp x (note_of id))) is ∙ note_from tx id (high i d below alive)) (all i d below alive)

born_id : (epoch : ℕ) (c : Change) → (row_born epoch c).id ≡ id_born epoch c
unfolding row_born
born_id epoch c = refl

noted_insert : (n : BTreeSet Note) (new : Row) (rs : List Row) → IsNoted n new → All (IsNoted n) rs → All (IsNoted n) (insert_row new rs)
noted_insert n new [] has all = All-cons (IsNoted n) new [] has (All-nil (IsNoted n))
noted_insert n new (r ∷ rs) has all = by (is_before r.id new.id) (noted_insert n new rs has (All-tail (IsNoted n) r rs all))
  where
    by : (t : Bool) → All (IsNoted n) (insert_row new rs) → All (IsNoted n) (cond t (r ∷ insert_row new rs) (new ∷ r ∷ rs))
    by true rest = All-cons (IsNoted n) r (insert_row new rs) (All-head (IsNoted n) r rs all) rest
    by false rest = All-cons (IsNoted n) new (r ∷ rs) has all

-- the rows of a batch come
pub noted_batch : (n : BTreeSet Note) (epoch : ℕ) (cs : List Change) (h : Held) → All (HasNote n) (map (λ c. id_born epoch c) cs) → All (IsNoted n) h.rows → All (IsNoted n) (applied (writes_of epoch cs) h).rows
noted_batch n epoch [] h have all = all
noted_batch n epoch (c ∷ cs) h have all =
    let F : RowId → Type 0 = HasNote n in
    let here : HasNote n (row_born epoch c).id = subst F (sym (born_id epoch c)) (All-head (HasNote n) (id_born epoch c) (map (λ d. id_born epoch d) cs) have) in
    noted_batch n epoch cs (record h { rows = insert_row (row_born epoch c) h.rows }) (All-tail (HasNote n) (id_born epoch c) (map (λ d. id_born epoch d) cs) have)
    (noted_insert n (row_born epoch c) h.rows (λ alive. here) all)

noted_kill : (n : BTreeSet Note) (id : RowId) (epoch : ℕ) (rs : List Row) → 0 < epoch → All (IsNoted n) rs → All (IsNoted n) (kill_row id epoch rs)
noted_kill n id epoch [] up all = All-nil (IsNoted n)
noted_kill n id epoch (r ∷ rs) up all =
    let rest = noted_kill n id epoch rs up (All-tail (IsNoted n) r rs all) in
    by (is_same r.id id) rest
  where
    by : (t : Bool) → All (IsNoted n) (kill_row id epoch rs) → All (IsNoted n) (cond t (record r { killed = epoch }) r ∷ kill_row id epoch rs)
    by true rest = All-cons (IsNoted n) (record r { killed = epoch }) (kill_row id epoch rs) (λ dead. absurd (omega (arith, up, dead))) rest
    by false rest = All-cons (IsNoted n) r (kill_row id epoch rs) (All-head (IsNoted n) r rs all) rest

-- rows are killed
pub noted_kills : (n : BTreeSet Note) (epoch floor : ℕ) (ids : List RowId) (h : Held) → 0 < epoch → All (IsNoted n) h.rows → All (IsNoted n) (applied (kills_of epoch floor ids) h).rows
noted_kills n epoch floor [] h up all = all
noted_kills n epoch floor (id ∷ ids) h up all =
    noted_kills n epoch floor ids (record h { rows = kill_row id epoch h.rows }) up (noted_kill n id epoch h.rows up all)

-- ---- from rows to what may be told of them

pub are_more : (o : Option (BTreeSet Note)) (P : List Row → Type 0) → (rs qs : List Row) → ((n : BTreeSet Note) → All (IsNoted n) rs → All (IsNoted n) qs) → AreNoted o rs → AreNoted o qs
are_more None P rs qs f all = tt
are_more (Some n) P rs qs f all = f n all
