-- Laws of what a prune leaves: the alive rows with low numbers that it doesn't kill, and the notes of rows.
use Rattle.std.proofs.Common.{◌≡◌, ◌↔◌, ℕ, zero, suc, ◌+◌, ◌<◌, ◌≤◌, Bool, true, false, not, cond, ◌||◌, List, [], ◌∷◌, length, take, drop, All, Option, Some, None, IfSome, IfNone, Result, Ok, Err, OnOk, OnErr, refl, sym, ap, subst, ◌∙◌, arith, eq-eqb, eqb-true, ltb-false}
use Rattle.std.specs.Prelude.{◌==◌, nat_lt}
use Rattle.std.specs.BTreeSet.{BTreeSet}
use Rattle.std.proofs.lemmas.List.Elements.{All-cons, All-nil, All-filter}
use Rattle.agg_outside.specs.declared.rows.RowId.{RowId}
use Rattle.agg_outside.specs.declared.rows.Row.{Row}
use Rattle.agg_outside.specs.Rows.{Held, is_same, ascends_after, ascends, kill_row, applied}
use Rattle.agg_outside.specs.RowOrder.{same_itself, ascends-after, kill-after, kill-ascends}
use Rattle.row_epochs.specs.Seen.{is_alive, is_dead, without_dead}
use Rattle.row_epochs.specs.Changes.{kills_of}
use Rattle.row_epochs.specs.Places.{ids_of}
use Rattle.row_epochs.specs.Versions.{Versions}
use Rattle.hot_keeper.specs.declared.notes.Note.{Note}
use Rattle.hot_keeper.specs.Pruning.{has_low_number, low_rows, pruned_ids, does_prune, pruned}
use Rattle.hot_keeper.specs.Notes.{IsNoted, AreNoted}
use Rattle.hot_keeper.proofs.NoteLaws.{noted_kills}
use Rattle.hot_keeper.proofs.PruneLaws.{pruned_yes, pruned_no}

-- ---- one kill

low_head : (tx : ℕ) (a l : Bool) (r : Row) (rs : List Row) → is_alive r ≡ a → has_low_number tx r ≡ l → low_rows tx (r ∷ rs) ≡ cond a (cond l (r ∷ low_rows tx rs) (low_rows tx rs)) (low_rows tx rs)
low_head tx true l r rs e f = rw e (ap (λ (b : Bool). cond b (r ∷ low_rows tx rs) (low_rows tx rs)) f)
low_head tx false l r rs e f = rw e refl

dead_now : (r : Row) (epoch : ℕ) → 0 < epoch → is_alive (record r { killed = epoch }) ≡ false
dead_now r epoch up = by (epoch == 0) refl
  where
    by : (t : Bool) → (epoch == 0) ≡ t → t ≡ false
    by true e = let none : epoch ≡ 0 = eqb-true epoch 0 e in absurd (omega (arith, up, none))
    by false e = refl

low_dead : (tx epoch : ℕ) (r : Row) (rs : List Row) → 0 < epoch → low_rows tx (record r { killed = epoch } ∷ rs) ≡ low_rows tx rs
low_dead tx epoch r rs up = low_head tx false (has_low_number tx (record r { killed = epoch })) (record r { killed = epoch }) rs (dead_now r epoch up) refl

-- a row that isn't low goes, killed or not
low_passed : (tx epoch : ℕ) (id : RowId) (r : Row) (rs : List Row) (t : Bool) → 0 < epoch → low_rows tx (r ∷ rs) ≡ low_rows tx rs → ((qs : List Row) → low_rows tx (r ∷ qs) ≡ low_rows tx qs) → low_rows tx (cond t (record r { killed = epoch }) r ∷ rs) ≡ low_rows tx rs
low_passed tx epoch id r rs true up e all = low_dead tx epoch r rs up
low_passed tx epoch id r rs false up e all = all rs

heads : {A : Type 0} (x y : A) (xs ys : List A) → x ∷ xs ≡ y ∷ ys → (x ≡ y) × (xs ≡ ys)
heads x y xs ys e = (cc e, cc e)

one_kill-by : (tx epoch : ℕ) (x : Row) (rs : List Row) (r : Row) (low : List Row) (a l : Bool) → is_alive x ≡ a → has_low_number tx x ≡ l → 0 < epoch → ascends (x ∷ rs) ≡ true → low_rows tx (x ∷ rs) ≡ r ∷ low
    → (low_rows tx rs ≡ r ∷ low → low_rows tx (kill_row r.id epoch rs) ≡ low) → low_rows tx (kill_row r.id epoch (x ∷ rs)) ≡ low
one_kill-by tx epoch x rs r low true true e f up s is rest =
    let parts = heads x r (low_rows tx rs) low (sym (low_head tx true true x rs e f) ∙ is) in
    let same : is_same x.id r.id ≡ true = ap (λ (y : Row). is_same x.id y.id) (sym parts.0) ∙ same_itself x.id in
    let after : ascends_after r.id rs ≡ true = ap (λ (y : Row). ascends_after y.id rs) (sym parts.0) ∙ s in
    ap (λ (t : Bool). low_rows tx (cond t (record x { killed = epoch }) x ∷ kill_row r.id epoch rs)) same
    ∙ low_dead tx epoch x (kill_row r.id epoch rs) up
    ∙ ap (low_rows tx) (kill-after r.id epoch rs after)
    ∙ parts.1
one_kill-by tx epoch x rs r low true false e f up s is rest =
    low_passed tx epoch r.id x (kill_row r.id epoch rs) (is_same x.id r.id) up (low_head tx true false x (kill_row r.id epoch rs) e f) (λ qs. low_head tx true false x qs e f)
    ∙ rest (sym (low_head tx true false x rs e f) ∙ is)
one_kill-by tx epoch x rs r low false l e f up s is rest =
    low_passed tx epoch r.id x (kill_row r.id epoch rs) (is_same x.id r.id) up (low_head tx false l x (kill_row r.id epoch rs) e f) (λ qs. low_head tx false l x qs e f)
    ∙ rest (sym (low_head tx false l x rs e f) ∙ is)

-- the first low row is killed
one_kill : (tx epoch : ℕ) (rs : List Row) (r : Row) (low : List Row) → 0 < epoch → ascends rs ≡ true → low_rows tx rs ≡ r ∷ low → low_rows tx (kill_row r.id epoch rs) ≡ low
one_kill tx epoch [] r low up s is = cc is
one_kill tx epoch (x ∷ rs) r low up s is =
    one_kill-by tx epoch x rs r low (is_alive x) (has_low_number tx x) refl refl up s is (λ e. one_kill tx epoch rs r low up (ascends-after x.id rs s) e)

-- the first so many are killed
low_kills-by : (tx epoch floor limit : ℕ) (low : List Row) (h : Held) → 0 < epoch → ascends h.rows ≡ true → low_rows tx h.rows ≡ low → low_rows tx (applied (kills_of epoch floor (ids_of (take limit low))) h).rows ≡ drop limit low
low_kills-by tx epoch floor zero low h up s is = is
low_kills-by tx epoch floor (suc limit) [] h up s is = is
low_kills-by tx epoch floor (suc limit) (r ∷ low) h up s is =
    low_kills-by tx epoch floor limit low (record h { rows = kill_row r.id epoch h.rows }) up (kill-ascends r.id epoch h.rows ∙ s) (one_kill tx epoch h.rows r low up s is)

none_taken : (limit : ℕ) (low : List Row) → (nat_lt 0 (length (take limit low))) ≡ false → drop limit low ≡ low
none_taken zero low h = refl
none_taken (suc limit) [] h = refl
none_taken (suc limit) (r ∷ low) h = let few : length (take (suc limit) (r ∷ low)) ≤ 0 = ltb-false _ _ h in absurd (omega arith)

first_false : (a b : Bool) → (a || b) ≡ false → a ≡ false
first_false true b h = h
first_false false b h = refl

low_pruned-by : (epoch tx floor limit : ℕ) (h : Held) (t : Bool) → does_prune tx floor limit h ≡ t → 0 < epoch → ascends h.rows ≡ true → low_rows tx (pruned epoch tx floor limit h).rows ≡ drop limit (low_rows tx h.rows)
low_pruned-by epoch tx floor limit h true does up s =
    ap (λ (k : Held). low_rows tx k.rows) (pruned_yes epoch tx floor limit h does) ∙ low_kills-by tx epoch floor limit (low_rows tx h.rows) h up s refl
low_pruned-by epoch tx floor limit h false does up s =
    ap (λ (k : Held). low_rows tx k.rows) (pruned_no epoch tx floor limit h does) ∙ sym (none_taken limit (low_rows tx h.rows) (first_false _ _ does))

-- what a prune leaves of the low rows
pub low_pruned : (epoch tx floor limit : ℕ) (h : Held) → 0 < epoch → ascends h.rows ≡ true → low_rows tx (pruned epoch tx floor limit h).rows ≡ drop limit (low_rows tx h.rows)
low_pruned epoch tx floor limit h up s = low_pruned-by epoch tx floor limit h (does_prune tx floor limit h) refl up s

-- ---- the notes after a prune

noted_pruned-by : (n : BTreeSet Note) (epoch tx floor limit : ℕ) (h : Held) (t : Bool) → does_prune tx floor limit h ≡ t → 0 < epoch → All (IsNoted n) h.rows → All (IsNoted n) (pruned epoch tx floor limit h).rows
noted_pruned-by n epoch tx floor limit h true does up all =
    let F : Held → Type 0 = λ k. All (IsNoted n) k.rows in
    subst F (sym (pruned_yes epoch tx floor limit h does)) (noted_kills n epoch floor (pruned_ids tx limit h.rows) h up all)
noted_pruned-by n epoch tx floor limit h false does up all =
    let F : Held → Type 0 = λ k. All (IsNoted n) k.rows in
    subst F (sym (pruned_no epoch tx floor limit h does)) all

pub are_noted_pruned : (o : Option (BTreeSet Note)) (epoch tx floor limit : ℕ) (h : Held) → AreNoted o h.rows → AreNoted o (pruned (epoch + 1) tx floor limit h).rows
are_noted_pruned None epoch tx floor limit h all = tt
are_noted_pruned (Some n) epoch tx floor limit h all = noted_pruned-by n (epoch + 1) tx floor limit h (does_prune tx floor limit h) refl (omega arith) all

pub are_noted_purged : (o : Option (BTreeSet Note)) (oldest : ℕ) (rs : List Row) → AreNoted o rs → AreNoted o (without_dead oldest rs)
are_noted_purged None oldest rs all = tt
are_noted_purged (Some n) oldest rs all = All-filter (λ r. not (is_dead oldest r)) (IsNoted n) rs all

high_by : (tx : ℕ) (r : Row) (rs : List Row) (a l : Bool) → is_alive r ≡ a → has_low_number tx r ≡ l → low_rows tx (r ∷ rs) ≡ [] → (r.killed ≡ 0 → tx ≤ r.id.tx) × (low_rows tx rs ≡ [])
high_by tx r rs true true e f is = cc (sym (low_head tx true true r rs e f) ∙ is)
high_by tx r rs true false e f is = (λ alive. ltb-false r.id.tx tx f, sym (low_head tx true false r rs e f) ∙ is)
high_by tx r rs false l e f is = (λ alive. absurd (cc (eq-eqb r.killed 0 alive, e)), sym (low_head tx false l r rs e f) ∙ is)

-- where no low row is left, all alive rows are high
all_high : (tx : ℕ) (rs : List Row) → low_rows tx rs ≡ [] → All (λ r. r.killed ≡ 0 → tx ≤ r.id.tx) rs
all_high tx [] is = All-nil (λ (r : Row). r.killed ≡ 0 → tx ≤ r.id.tx)
all_high tx (r ∷ rs) is =
    let parts = high_by tx r rs (is_alive r) (has_low_number tx r) refl refl is in
    All-cons (λ (x : Row). x.killed ≡ 0 → tx ≤ x.id.tx) r rs parts.0 (all_high tx rs parts.1)

pub drop-all : {A : Type 0} (n : ℕ) (xs : List A) → length xs ≤ n → drop n xs ≡ []
drop-all zero [] h = refl
drop-all (suc n) [] h = refl
drop-all zero (x ∷ xs) h = absurd (omega arith)
drop-all (suc n) (x ∷ xs) h = drop-all n xs (omega arith)

pub high_pruned : (epoch tx floor limit left : ℕ) (h : Held) → ascends h.rows ≡ true → (left ≡ 0) ↔ (length (low_rows tx h.rows) ≤ limit) → left ≡ 0 → All (λ r. r.killed ≡ 0 → tx ≤ r.id.tx) (pruned (epoch + 1) tx floor limit h).rows
high_pruned epoch tx floor limit left h s is none =
    all_high tx (pruned (epoch + 1) tx floor limit h).rows (low_pruned (epoch + 1) tx floor limit h (omega arith) s ∙ drop-all limit (low_rows tx h.rows) (is.0 none))

-- ---- what is told after a call

-- a fact of the rows is kept, whether they changed or not
pub told_after : {T E : Type 0} (result : Result T E) (old new : Option Held) (f : Held → Held) (P : List Row → Type 0) → IfSome old (λ h. OnOk result (new ≡ Some (f h))) → OnErr result (new ≡ old) → IfNone old (new ≡ None)
    → ((h : Held) → old ≡ Some h → P h.rows × P (f h).rows) → IfSome new (λ k. P k.rows)
told_after result None new f P ok err silent keep = let F : Option Held → Type 0 = λ o. IfSome o (λ k. P k.rows) in subst F (sym silent) tt
told_after (Ok value) (Some h) new f P ok err silent keep = let F : Option Held → Type 0 = λ o. IfSome o (λ k. P k.rows) in subst F (sym ok) (keep h refl).1
told_after (Err error) (Some h) new f P ok err silent keep = let F : Option Held → Type 0 = λ o. IfSome o (λ k. P k.rows) in subst F (sym err) (keep h refl).0

-- an error tells the same
pub err_told : {T E : Type 0} (result : Result T E) (old new : Versions) → OnErr result (new ≡ record old { faults = new.faults }) → OnErr result (new.told ≡ old.told)
err_told (Ok value) old new err = tt
err_told (Err error) old new err = ap (λ (v : Versions). v.told) err
