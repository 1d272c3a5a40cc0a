-- Laws of what is read ahead of prunes.
use Rattle.std.proofs.Common.{◌≡◌, ℕ, zero, suc, ◌+◌, ◌<◌, ◌≤◌, Bool, true, false, not, cond, ◌&&◌, List, [], ◌∷◌, ◌++◌, length, take, drop, min, map, All, Option, Some, None, IfSome, IfNone, refl, sym, ap, subst, ◌∙◌, arith, append-nil, append_assoc, ltb-true, ltb-false, get_or}
use Rattle.std.specs.Prelude.{nat_le, nat_lt}
use Rattle.std.specs.List.{filter}
use Rattle.std.proofs.lemmas.Bool.{lt-ltb, le-ltb}
use Rattle.std.proofs.lemmas.List.{take-append-le, take-map, length-map, length-append, map-append}
use Rattle.std.proofs.lemmas.List.Elements.{All-cons, All-nil, All-head, All-tail, filter-append}
use Rattle.agg_outside.specs.declared.rows.RowId.{RowId}
use Rattle.agg_outside.specs.declared.rows.Row.{Row}
use Rattle.agg_outside.specs.Rows.{Held, is_before, ascends, ascends_after, rows_from, insert_row, applied}
use Rattle.agg_outside.specs.RowOrder.{before_trans, ascends-after, ascends_after-before}
use Rattle.agg_model.specs.declared.change.Change.{Change}
use Rattle.row_epochs.specs.Seen.{is_alive, seen, without_dead}
use Rattle.row_epochs.specs.Changes.{row_born, writes_of}
use Rattle.row_epochs.specs.Places.{ids_of, first_place}
use Rattle.row_epochs.specs.Versions.{AreVersions}
use Rattle.row_epochs.proofs.Answering.{tell, fall, made}
use Rattle.row_epochs.proofs.RowWalks.{rows_from-first}
use Rattle.row_epochs.proofs.WriteLaws.{insert-filtered, ascends-filter, dead_test}
use Rattle.hot_keeper.specs.declared.ahead.ReadAhead.{ReadAhead}
use Rattle.hot_keeper.specs.Pruning.{has_low_number, low_rows, does_prune, pruned}
use Rattle.hot_keeper.specs.ReadAhead.{rest_from, IsAhead, AreAhead}
use Rattle.hot_keeper.proofs.PieceLaws.{Walk, low, low_present, rows_from-filter, take-all}
use Rattle.hot_keeper.proofs.PruneLaws.{pruned_no}
use Rattle.hot_keeper.proofs.PruneLeft.{low_pruned, drop-all}

both : (a b : Bool) → (cond a b false) ≡ true → (a ≡ true) × (b ≡ true)
both true b h = (refl, h)
both false b h = cc h

-- nothing is read
pub ahead_first : (ids : List RowId) (place : RowId) (rs : List Row) → ids ≡ [] → place ≡ first_place → IsAhead ids (Some place) rs
ahead_first ids place rs none first = (λ i. none i ++ ids_of (rows_from (first i) rs)) ∙ ap ids_of (rows_from-first rs)

-- ---- a piece is read

ahead_step : (tx : ℕ) (rs : List Row) (place : RowId) (piece : List Row) (next : Option RowId) (ids new : List RowId) → (next ≡ None → rows_from place rs ≡ piece) → ((q : RowId) → next ≡ Some q → rows_from place rs ≡ piece ++ rows_from q rs)
    → new ≡ ids ++ ids_of (low tx piece) → IsAhead ids (Some place) (low tx rs) → IsAhead new next (low tx rs)
ahead_step tx rs place piece None ids new ends goes is ahead =
    append-nil new ∙ is
    ∙ ap (λ (l : List Row). ids ++ ids_of l) (ap (low tx) (sym (ends refl)) ∙ rows_from-filter (has_low_number tx) place rs)
    ∙ ahead
ahead_step tx rs place piece (Some q) ids new ends goes is ahead =
    let parts : low tx piece ++ rows_from q (low tx rs) ≡ rows_from place (low tx rs) =
    ap (λ (l : List Row). low tx piece ++ l) (sym (rows_from-filter (has_low_number tx) q rs))
    ∙ sym (filter-append (has_low_number tx) piece (rows_from q rs))
    ∙ ap (low tx) (sym (goes q refl))
    ∙ rows_from-filter (has_low_number tx) place rs in
    ap (λ (l : List RowId). l ++ ids_of (rows_from q (low tx rs))) is
    ∙ append_assoc ids (ids_of (low tx piece)) (ids_of (rows_from q (low tx rs)))
    ∙ ap (λ (l : List RowId). ids ++ l) (sym (map-append (λ (r : Row). r.id) (low tx piece) (rows_from q (low tx rs))) ∙ ap ids_of parts)
    ∙ ahead

pub ahead_on : (tx present epoch : ℕ) (h : Held) (place : RowId) (piece : List Row) (next : Option RowId) (ids new : List RowId) → present ≡ epoch → AreVersions epoch h → Walk present h.rows place piece next → new ≡ ids ++ ids_of (low tx piece)
    → IsAhead ids (Some place) (low_rows tx h.rows) → IsAhead new next (low_rows tx h.rows)
ahead_on tx present epoch h place piece next ids new same are w is ahead =
    let F : List Row → Type 0 = λ l. IsAhead ids (Some place) l in
    let G : List Row → Type 0 = λ l. IsAhead new next l in
    let all : low tx (seen present h.rows) ≡ low_rows tx h.rows = low_present tx present epoch h same are in
    subst G all (ahead_step tx (seen present h.rows) place piece next ids new w.ends w.goes_on is (subst F (sym all) ahead))

-- ---- the first ids

all_read : (ids : List RowId) (place : Option RowId) (rs : List Row) → place ≡ None → IsAhead ids place rs → ids ≡ ids_of rs
all_read ids place rs none ahead = sym (append-nil ids) ∙ ap (λ (p : Option RowId). ids ++ ids_of (rest_from p rs)) (sym none) ∙ ahead

ahead_ids-by : (limit : ℕ) (ids : List RowId) (place : Option RowId) (rs : List Row) (t : Bool) → nat_lt limit (length ids) ≡ t → (length ids ≤ limit → place ≡ None) → IsAhead ids place rs
    → (take limit ids ≡ ids_of (take limit rs)) × (t ≡ nat_lt limit (length rs))
ahead_ids-by limit ids place rs true e enough ahead =
    let more : limit < length ids = ltb-true limit (length ids) e in
    let long : length ids + length (ids_of (rest_from place rs)) ≡ length rs = sym (length-append ids (ids_of (rest_from place rs))) ∙ ap length ahead ∙ length-map rs (λ (r : Row). r.id) in (
      sym (take-append-le limit ids (ids_of (rest_from place rs)) (omega (arith, more))) ∙ ap (take limit) ahead ∙ take-map (λ (r : Row). r.id) limit rs,
      sym (lt-ltb limit (length rs) (omega (arith, more, long))),
    )
ahead_ids-by limit ids place rs false e enough ahead =
    let few : length ids ≤ limit = ltb-false limit (length ids) e in
    let all : ids ≡ ids_of rs = all_read ids place rs (enough few) ahead in
    let long : length ids ≡ length rs = ap length all ∙ length-map rs (λ (r : Row). r.id) in (
      ap (take limit) all ∙ take-map (λ (r : Row). r.id) limit rs,
      sym (le-ltb limit (length rs) (omega (arith, few, long))),
    )

pub ahead_ids : (limit : ℕ) (ids : List RowId) (place : Option RowId) (rs : List Row) → (length ids ≤ limit → place ≡ None) → IsAhead ids place rs
    → (take limit ids ≡ ids_of (take limit rs)) × (nat_lt limit (length ids) ≡ nat_lt limit (length rs))
ahead_ids limit ids place rs enough ahead = ahead_ids-by limit ids place rs (nat_lt limit (length ids)) refl enough ahead

-- a list that is cut at a place within it
pub cut_at : {A : Type 0} (n m : ℕ) (xs : List A) → m ≡ min n (length xs) → (take m xs ≡ take n xs) × (drop m xs ≡ drop n xs)
cut_at {A} n m xs is = by (nat_lt (length xs) n) refl
  where
    by : (t : Bool) → nat_lt (length xs) n ≡ t → (take m xs ≡ take n xs) × (drop m xs ≡ drop n xs)
    by true e =
        let few : length xs < n = ltb-true (length xs) n e in
        let all : m ≡ length xs = omega (arith, is, few) in
        let most : length xs ≤ n = omega (arith, few) in
        let enough : length xs ≤ m = omega (arith, all) in
        (take-all m xs enough ∙ sym (take-all n xs most), drop-all m xs enough ∙ sym (drop-all n xs most))
    by false e =
        let more : n ≤ length xs = ltb-false (length xs) n e in
        let same : m ≡ n = omega (arith, is, more) in
        (ap (λ k. take k xs) same, ap (λ k. drop k xs) same)

-- ---- what is left of them

-- rows behind one that isn't before a place
all_from : (p : RowId) (x : RowId) (rs : List Row) → is_before x p ≡ false → ascends_after x rs ≡ true → rows_from p rs ≡ rs
all_from p x [] h s = refl
all_from p x (r ∷ rs) h s =
    let parts = both _ _ s in
    let here : is_before r.id p ≡ false = not_before (is_before r.id p) refl parts.0 in
    ap (λ (t : Bool). cond t (rows_from p rs) (r ∷ rows_from p rs)) here
    ∙ ap (λ (l : List Row). r ∷ l) (all_from p r.id rs here parts.1)
  where
    not_before : (t : Bool) → is_before r.id p ≡ t → is_before x r.id ≡ true → t ≡ false
    not_before true e up = let wrong : is_before x p ≡ true = before_trans x r.id p up e in cc (wrong, h)
    not_before false e up = refl

cut_one : (p : RowId) (i : RowId) (ids : List RowId) (x : Row) (xs : List Row) (t : Bool) (G : Type 0) → is_before x.id p ≡ t → ascends_after x.id xs ≡ true → i ∷ (ids ++ ids_of (cond t (rows_from p xs) (x ∷ rows_from p xs))) ≡ x.id ∷ ids_of xs
    → (ids ++ ids_of (rows_from p xs) ≡ ids_of xs → G) → G
cut_one p i ids x xs true G e s is rest = rest (cc is)
cut_one p i ids x xs false G e s is rest =
    let same : rows_from p xs ≡ xs = all_from p x.id xs e s in
    let tail : ids ++ (x.id ∷ ids_of (rows_from p xs)) ≡ ids_of xs = cc is in
    let long : length ids + length (x.id ∷ ids_of (rows_from p xs)) ≡ length (ids_of xs) = sym (length-append ids (x.id ∷ ids_of (rows_from p xs))) ∙ ap length tail in
    let as_many : length (ids_of (rows_from p xs)) ≡ length (ids_of xs) = ap (λ (l : List Row). length (ids_of l)) same in
    absurd (omega (arith, long, as_many))

cut_some : (p : RowId) (n : ℕ) (ids : List RowId) (rs : List Row) → ascends rs ≡ true → n ≤ length ids → ids ++ ids_of (rows_from p rs) ≡ ids_of rs → drop n ids ++ ids_of (rows_from p (drop n rs)) ≡ ids_of (drop n rs)
cut_some p zero ids rs s h is = is
cut_some p (suc n) [] rs s h is = absurd (omega arith)
cut_some p (suc n) (i ∷ ids) [] s h is = cc is
cut_some p (suc n) (i ∷ ids) (x ∷ xs) s h is =
    let low : n ≤ length ids = omega arith in
    cut_one p i ids x xs (is_before x.id p) (drop n ids ++ ids_of (rows_from p (drop n xs)) ≡ ids_of (drop n xs)) refl s is (λ tail. cut_some p n ids xs (ascends-after x.id xs s) low tail)

drop_ids : (n : ℕ) (rs : List Row) → drop n (ids_of rs) ≡ ids_of (drop n rs)
drop_ids zero rs = refl
drop_ids (suc n) [] = refl
drop_ids (suc n) (r ∷ rs) = drop_ids n rs

cut_all : (n : ℕ) (ids : List RowId) (rs : List Row) → ids ++ [] ≡ ids_of rs → drop n ids ++ [] ≡ ids_of (drop n rs)
cut_all n ids rs is = append-nil (drop n ids) ∙ ap (drop n) (sym (append-nil ids) ∙ is) ∙ drop_ids n rs

ahead_rest-by : (limit : ℕ) (ids : List RowId) (place : Option RowId) (rs : List Row) → ascends rs ≡ true → (length ids ≤ limit → place ≡ None) → IsAhead ids place rs → IsAhead (drop limit ids) place (drop limit rs)
ahead_rest-by limit ids None rs s enough ahead = cut_all limit ids rs ahead
ahead_rest-by limit ids (Some p) rs s enough ahead = by (nat_lt limit (length ids)) refl
  where
    by : (t : Bool) → nat_lt limit (length ids) ≡ t → IsAhead (drop limit ids) (Some p) (drop limit rs)
    by true e = let more : limit < length ids = ltb-true limit (length ids) e in cut_some p limit ids rs s (omega (arith, more)) ahead
    by false e = let few : length ids ≤ limit = ltb-false limit (length ids) e in cc (enough few)

pub ahead_rest : (tx limit : ℕ) (ids : List RowId) (place : Option RowId) (rs : List Row) → ascends rs ≡ true → (length ids ≤ limit → place ≡ None) → IsAhead ids place (low_rows tx rs) → IsAhead (drop limit ids) place (drop limit (low_rows tx rs))
ahead_rest tx limit ids place rs s enough ahead =
    ahead_rest-by limit ids place (low_rows tx rs) (ascends-filter (has_low_number tx) (filter is_alive rs) (ascends-filter is_alive rs s)) enough ahead

-- ---- after a prune

pub ahead_pruned : (a : ReadAhead) (epoch tx floor limit : ℕ) (h : Held) → ascends h.rows ≡ true → a.tx ≡ tx → IsAhead a.ids.items a.place (drop limit (low_rows tx h.rows)) → AreAhead (Some a) (pruned (epoch + 1) tx floor limit h).rows
ahead_pruned a epoch tx floor limit h s same ahead =
    let F : List Row → Type 0 = λ l. IsAhead a.ids.items a.place l in
    let G : ℕ → Type 0 = λ n. IsAhead a.ids.items a.place (low_rows n (pruned (epoch + 1) tx floor limit h).rows) in
    subst G (sym same) (subst F (sym (low_pruned (epoch + 1) tx floor limit h (omega arith) s)) ahead)

-- ---- rows come and go

-- a fact of the first items, and of one more
pub all_more : {A : Type 0} (P : A → Type 0) (xs : List A) (i : ℕ) (x : A) → i < length xs → x ≡ get_or xs i x → All P (take i xs) → P x → All P (take (suc i) xs)
all_more P [] i x h is all here = absurd (omega arith)
all_more P (y ∷ ys) zero x h is all here = All-cons P y [] (subst P is here) (All-nil P)
all_more P (y ∷ ys) (suc i) x h is all here =
    let low : i < length ys = omega arith in
    All-cons P y (take (suc i) ys) (All-head P y (take i ys) all) (all_more P ys i x low is (All-tail P y (take i ys) all) here)

-- alive, and with a low number
is_low : ℕ → Row → Bool
is_low tx r = is_alive r && has_low_number tx r

low_both-by : (tx : ℕ) (r : Row) (rs : List Row) (a : Bool) → low_rows tx rs ≡ filter (is_low tx) rs → filter (has_low_number tx) (cond a (r ∷ filter is_alive rs) (filter is_alive rs)) ≡ cond (a && has_low_number tx r) (r ∷ filter (is_low tx) rs) (filter (is_low tx) rs)
low_both-by tx r rs true rest = ap (λ (l : List Row). cond (has_low_number tx r) (r ∷ l) l) rest
low_both-by tx r rs false rest = rest

is_low-is : (tx : ℕ) (r : Row) → is_low tx r ≡ (is_alive r && has_low_number tx r)
unfolding is_low
is_low-is tx r = refl

low_both : (tx : ℕ) (rs : List Row) → low_rows tx rs ≡ filter (is_low tx) rs
low_both tx [] = refl
low_both tx (r ∷ rs) =
    low_both-by tx r rs (is_alive r) (low_both tx rs)
    ∙ ap (λ (t : Bool). cond t (r ∷ filter (is_low tx) rs) (filter (is_low tx) rs)) (sym (is_low-is tx r))

born_high : (tx epoch : ℕ) (c : Change) → tx ≤ c.tx → is_low tx (row_born epoch c) ≡ false
unfolding is_low row_born
born_high tx epoch c h = le-ltb c.tx tx h

low_batch : (tx epoch : ℕ) (cs : List Change) (h : Held) → All (λ c. tx ≤ c.tx) cs → low_rows tx (applied (writes_of epoch cs) h).rows ≡ low_rows tx h.rows
low_batch tx epoch [] h all = refl
low_batch tx epoch (c ∷ cs) h all =
    let P = λ (x : Change). tx ≤ x.tx in
    let new = insert_row (row_born epoch c) h.rows in
    low_batch tx epoch cs (record h { rows = new }) (All-tail P c cs all)
    ∙ low_both tx new
    ∙ insert-filtered (row_born epoch c) (is_low tx) h.rows (born_high tx epoch c (All-head P c cs all))
    ∙ sym (low_both tx h.rows)

pub ahead_batch : (a : ReadAhead) (o : Option ReadAhead) (epoch : ℕ) (cs : List Change) (h : Held) → Some a ≡ o → All (λ c. a.tx ≤ c.tx) cs → AreAhead o h.rows → AreAhead (Some a) (applied (writes_of epoch cs) h).rows
ahead_batch a o epoch cs h some all ahead =
    let F : List Row → Type 0 = λ l. IsAhead a.ids.items a.place l in
    let G : Option ReadAhead → Type 0 = λ x. AreAhead x h.rows in
    subst F (sym (low_batch a.tx epoch cs h all)) (subst G (sym some) ahead)

alive_without-by : (oldest : ℕ) (r : Row) (rs : List Row) (a : Bool) → is_alive r ≡ a → filter is_alive (without_dead oldest rs) ≡ filter is_alive rs
    → filter is_alive (cond (not (not a && nat_le r.killed oldest)) (r ∷ without_dead oldest rs) (without_dead oldest rs)) ≡ cond a (r ∷ filter is_alive rs) (filter is_alive rs)
alive_without-by oldest r rs true e rest = rw e (ap (λ (l : List Row). r ∷ l) rest)
alive_without-by oldest r rs false e rest = by (nat_le r.killed oldest)
  where
    by : (t : Bool) → filter is_alive (cond (not t) (r ∷ without_dead oldest rs) (without_dead oldest rs)) ≡ filter is_alive rs
    by true = rest
    by false = rw e rest

alive_without : (oldest : ℕ) (rs : List Row) → filter is_alive (without_dead oldest rs) ≡ filter is_alive rs
alive_without oldest [] = refl
alive_without oldest (r ∷ rs) =
    ap (λ (t : Bool). filter is_alive (cond (not t) (r ∷ without_dead oldest rs) (without_dead oldest rs))) (dead_test oldest r)
    ∙ alive_without-by oldest r rs (is_alive r) refl (alive_without oldest rs)

pub are_ahead_purged : (o : Option ReadAhead) (oldest : ℕ) (rs : List Row) → AreAhead o rs → AreAhead o (without_dead oldest rs)
are_ahead_purged None oldest rs ahead = tt
are_ahead_purged (Some a) oldest rs ahead =
    let F : List Row → Type 0 = λ l. IsAhead a.ids.items a.place l in
    subst F (ap (filter (has_low_number a.tx)) (sym (alive_without oldest rs))) ahead

-- ---- at the calls

pub read_for : (ids : List RowId) (place : Option RowId) (begun tx : ℕ) (told : Option Held) → begun ≡ tx → IfSome told (λ h. IsAhead ids place (low_rows begun h.rows)) → (h : Held) → told ≡ Some h → IsAhead ids place (low_rows tx h.rows)
read_for ids place begun tx told same ahead h there =
    let F : ℕ → Type 0 = λ n. IsAhead ids place (low_rows n h.rows) in
    subst F same (fall told (λ (x : Held). IsAhead ids place (low_rows begun x.rows)) ahead h there)

-- where nothing is killed
pub ahead_kept : (a : ReadAhead) (now told : Option Held) (tx epoch floor limit : ℕ) → now ≡ told → a.tx ≡ tx → IfSome told (AreVersions epoch) → IfSome told (λ h. IsAhead a.ids.items a.place (drop limit (low_rows tx h.rows)))
    → ((h : Held) → told ≡ Some h → does_prune tx floor limit h ≡ false) → IfSome now (λ k. AreAhead (Some a) k.rows)
ahead_kept a now told tx epoch floor limit same read are ahead same_rows =
    tell now (λ k. AreAhead (Some a) k.rows) (λ h there.
    let was : told ≡ Some h = sym same ∙ there in
    let F : Held → Type 0 = λ k. AreAhead (Some a) k.rows in
    subst F (pruned_no (epoch + 1) tx floor limit h (same_rows h was))
    (ahead_pruned a epoch tx floor limit h (fall told (AreVersions epoch) are h was).in_order read (fall told (λ (x : Held). IsAhead a.ids.items a.place (drop limit (low_rows tx x.rows))) ahead h was)))

-- and where something is
pub ahead_left : (a : ReadAhead) (told new : Option Held) (tx epoch floor limit : ℕ) → a.tx ≡ tx → IfSome told (AreVersions epoch) → IfSome told (λ h. IsAhead a.ids.items a.place (drop limit (low_rows tx h.rows)))
    → IfSome told (λ h. new ≡ Some (pruned (epoch + 1) tx floor limit h)) → IfNone told (new ≡ None) → IfSome new (λ k. AreAhead (Some a) k.rows)
ahead_left a told new tx epoch floor limit read are ahead ok silent =
    made told new (λ (h : Held). pruned (epoch + 1) tx floor limit h) (λ (k : Held). AreAhead (Some a) k.rows)
    (λ h there. ahead_pruned a epoch tx floor limit h (fall told (AreVersions epoch) are h there).in_order read (fall told (λ (x : Held). IsAhead a.ids.items a.place (drop limit (low_rows tx x.rows))) ahead h there))
    ok silent

pub none_ahead : (told : Option Held) (a : Option ReadAhead) → a ≡ None → IfSome told (λ k. AreAhead a k.rows)
none_ahead told a none = tell told (λ k. AreAhead a k.rows) (λ h there. let F : Option ReadAhead → Type 0 = λ o. AreAhead o h.rows in subst F (sym none) tt)
