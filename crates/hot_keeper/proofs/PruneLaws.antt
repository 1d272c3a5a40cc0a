-- Laws of what a prune kills.
use Rattle.std.proofs.Common.{◌≡◌, ℕ, ◌+◌, ◌<◌, ◌≤◌, Bool, true, false, not, cond, ◌||◌, List, [], ◌∷◌, length, take, All, Option, Some, IfSome, IsSomeAnd, refl, sym, ap, subst, ◌∙◌, arith, eqb-true, get_or, ltb-true, ltb-false, ◌↔◌}
use Rattle.std.specs.Prelude.{◌==◌, nat_lt}
use Rattle.std.specs.List.{filter}
use Rattle.std.proofs.lemmas.List.{length-map}
use Rattle.std.proofs.lemmas.List.Elements.{All-cons, All-nil, All-map, All-filter, All-take, filter_passes}
use Rattle.agg_outside.specs.declared.rows.RowId.{RowId}
use Rattle.agg_outside.specs.declared.rows.Row.{Row}
use Rattle.agg_outside.specs.Rows.{Held, is_same, ascends_after, ascends, row_at, applied}
use Rattle.agg_outside.specs.RowOrder.{same_itself, before_not_same, ascends-after, ascends_after-before}
use Rattle.row_epochs.specs.Seen.{is_alive}
use Rattle.row_epochs.specs.Changes.{kills_of}
use Rattle.row_epochs.specs.Versions.{IsAlive}
use Rattle.row_epochs.proofs.Answering.{tell, fall}
use Rattle.hot_keeper.specs.Pruning.{has_low_number, low_rows, pruned_ids, does_prune, pruned, epoch_pruned}

both : (a b : Bool) → (cond a b false) ≡ true → (a ≡ true) × (b ≡ true)
both true b h = (refl, h)
both false b h = cc h

-- rows after an id have another
others : (id : RowId) (rs : List Row) → ascends_after id rs ≡ true → All (λ r. is_same id r.id ≡ false) rs
others id [] s = All-nil (λ (r : Row). is_same id r.id ≡ false)
others id (r ∷ rs) s =
    let parts = both _ _ s in
    All-cons (λ (x : Row). is_same id x.id ≡ false) r rs (before_not_same id r.id parts.0) (others id rs (ascends_after-before id r.id rs parts.0 parts.1))

-- each row stands under its id
own : (rs : List Row) → ascends rs ≡ true → All (λ r. row_at r.id rs ≡ Some r) rs
own [] s = All-nil (λ (r : Row). row_at r.id [] ≡ Some r)
own (r ∷ rs) s =
    let rest = own rs (ascends-after r.id rs s) in
    let apart = others r.id rs s in
    All-cons (λ (x : Row). row_at x.id (r ∷ rs) ≡ Some x) r rs (ap (λ (t : Bool). cond t (Some r) (row_at r.id rs)) (same_itself r.id))
    (λ i d below. ap (λ (t : Bool). cond t (Some r) (row_at (get_or rs i d).id rs)) (apart i d below) ∙ rest i d below)

alive_one : (rs : List Row) (r : Row) → row_at r.id rs ≡ Some r → is_alive r ≡ true → IsAlive rs r.id
alive_one rs r at alive = let F : Option Row → Type 0 = λ o. IsSomeAnd o (λ x. x.killed ≡ 0) in subst F (sym at) (eqb-true r.killed 0 alive)

-- the rows that are pruned are alive
pub pruned_alive : (tx limit : ℕ) (rs : List Row) → ascends rs ≡ true → All (IsAlive rs) (pruned_ids tx limit rs)
pruned_alive tx limit rs s =
    let at = All-filter is_alive (λ r. row_at r.id rs ≡ Some r) rs (own rs s) in
    let alive = filter_passes is_alive rs in
    let all : All (λ r. IsAlive rs r.id) (filter is_alive rs) = λ i d below. alive_one rs _ (at i d below) (alive i d below) in
    All-map (IsAlive rs) (λ (r : Row). r.id) (take limit (low_rows tx rs))
    (All-take (λ r. IsAlive rs r.id) limit (low_rows tx rs) (All-filter (has_low_number tx) (λ r. IsAlive rs r.id) (filter is_alive rs) all))

pub length_pruned : (tx limit : ℕ) (rs : List Row) (ids : List RowId) → ids ≡ pruned_ids tx limit rs → length ids ≡ length (take limit (low_rows tx rs))
length_pruned tx limit rs ids is = ap length is ∙ length-map (take limit (low_rows tx rs)) (λ (r : Row). r.id)

pub does_prune_is : (tx floor limit present : ℕ) (h : Held) (ids : List RowId) (does : Bool) → ids ≡ pruned_ids tx limit h.rows → present ≡ h.floor → does ≡ (nat_lt 0 (length ids) || not (floor == present)) → does ≡ does_prune tx floor limit h
does_prune_is tx floor limit present h ids does is same told =
    told ∙ (λ i. nat_lt 0 (length_pruned tx limit h.rows ids is i) || not (floor == same i))

pub pruned_yes : (epoch tx floor limit : ℕ) (h : Held) → does_prune tx floor limit h ≡ true → pruned epoch tx floor limit h ≡ applied (kills_of epoch floor (pruned_ids tx limit h.rows)) h
pruned_yes epoch tx floor limit h holds = ap (λ (t : Bool). cond t (applied (kills_of epoch floor (pruned_ids tx limit h.rows)) h) h) holds

pub pruned_no : (epoch tx floor limit : ℕ) (h : Held) → does_prune tx floor limit h ≡ false → pruned epoch tx floor limit h ≡ h
pruned_no epoch tx floor limit h fails = ap (λ (t : Bool). cond t (applied (kills_of epoch floor (pruned_ids tx limit h.rows)) h) h) fails

pub epoch_yes : (epoch tx floor limit : ℕ) (h : Held) → does_prune tx floor limit h ≡ true → epoch_pruned epoch tx floor limit h ≡ epoch + 1
epoch_yes epoch tx floor limit h holds = ap (λ (t : Bool). cond t (epoch + 1) epoch) holds

pub epoch_no : (epoch tx floor limit : ℕ) (h : Held) → does_prune tx floor limit h ≡ false → epoch_pruned epoch tx floor limit h ≡ epoch
epoch_no epoch tx floor limit h fails = ap (λ (t : Bool). cond t (epoch + 1) epoch) fails

-- ---- from the rows before a prune to those after it

-- a kill of these ids is the prune
pub prune_ok : (told2 told0 new : Option Held) (e2 e0 tx floor limit : ℕ) (ids : List RowId) → told2 ≡ told0 → e2 ≡ e0 → ((h : Held) → told0 ≡ Some h → ids ≡ pruned_ids tx limit h.rows) → ((h : Held) → told0 ≡ Some h → does_prune tx floor limit h ≡ true)
    → IfSome told2 (λ h. new ≡ Some (applied (kills_of (e2 + 1) floor ids) h)) → IfSome told0 (λ h. new ≡ Some (pruned (e0 + 1) tx floor limit h))
prune_ok told2 told0 new e2 e0 tx floor limit ids same same_epoch are does ok =
    tell told0 (λ h. new ≡ Some (pruned (e0 + 1) tx floor limit h)) (λ h told.
    fall told2 (λ x. new ≡ Some (applied (kills_of (e2 + 1) floor ids) x)) ok h (same ∙ told)
    ∙ (λ i. Some (applied (kills_of (same_epoch i + 1) floor (are h told i)) h))
    ∙ ap (λ (x : Held). Some x) (sym (pruned_yes (e0 + 1) tx floor limit h (does h told))))

pub moved : (told2 told0 : Option Held) (P Q : Held → Type 0) → told2 ≡ told0 → ((h : Held) → told0 ≡ Some h → P h → Q h) → IfSome told2 P → IfSome told0 Q
moved told2 told0 P Q same turn all = tell told0 Q (λ h told. turn h told (fall told2 P all h (same ∙ told)))

-- one is left exactly where there are more than so many
left_by : (limit n left : ℕ) (more : Bool) → left ≡ cond more 1 0 → more ≡ nat_lt limit n → (left ≡ 0) ↔ (n ≤ limit)
left_by limit n left true is told =
    let up : limit < n = ltb-true limit n (sym told) in
    (λ z. absurd (omega (arith, is, z)), λ h. absurd (omega (arith, up, h)))
left_by limit n left false is told = (λ z. ltb-false limit n (sym told), λ h. is)

pub left_is : (limit n left : ℕ) (more : Bool) → left ≡ cond more 1 0 → more ≡ nat_lt limit n → (left ≡ 0) ↔ (n ≤ limit)
left_is limit n left more is told = left_by limit n left more is told
