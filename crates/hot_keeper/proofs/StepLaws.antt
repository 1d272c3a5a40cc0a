-- Laws of the looks that find the changes of a step.
use Rattle.std.proofs.Common.{◌≡◌, ℕ, zero, suc, ◌<◌, ◌≤◌, Bool, true, false, not, cond, ◌&&◌, List, [], ◌∷◌, ◌++◌, length, map, All, Option, Some, None, refl, sym, ap, subst, ◌∙◌, arith, get_or, leb-true, ltb-true, eq-eqb, eqb-true, append-nil, append_assoc}
use Rattle.std.specs.Prelude.{nat_lt, nat_le}
use Rattle.std.specs.List.{filter, Contains, AllPairs}
use Rattle.std.specs.List.Sorted.{IsSorted}
use Rattle.std.specs.Ordering.{is_lt}
use Rattle.std.specs.BTreeSet.{BTreeSet}
use Rattle.std.proofs.lemmas.List.{map-append}
use Rattle.std.proofs.lemmas.List.Elements.{All-head, All-tail, All-cons, All-nil, All-contains, All-append, filter-append}
use Rattle.std.proofs.lemmas.List.Sorted.{sorted_far, ranks_by}
use Rattle.agg_outside.specs.declared.rows.RowId.{RowId}
use Rattle.agg_outside.specs.declared.rows.Row.{Row}
use Rattle.agg_outside.specs.Rows.{Held, id_cmp, is_before, ascends, first_from, rows_from}
use Rattle.agg_outside.specs.RowOrder.{id_cmp_total, before_itself, before_then_not, not_then_not, before_not_back}
use Rattle.agg_model.specs.declared.change.Change.{Change}
use Rattle.row_epochs.specs.Seen.{is_seen, seen}
use Rattle.row_epochs.specs.Changes.{change_of, changes_seen}
use Rattle.row_epochs.specs.Places.{behind, first_place, ids_of}
use Rattle.row_epochs.specs.Versions.{IsVersion, AreVersions}
use Rattle.row_epochs.proofs.RowWalks.{rows_from-found, rows_from-none_found, rows_from-first, before_behind}
use Rattle.row_epochs.proofs.WriteLaws.{seen-version}
use Rattle.hot_keeper.specs.declared.notes.Note.{Note}
use Rattle.hot_keeper.specs.Windows.{is_within_numbers}
use Rattle.hot_keeper.specs.Notes.{HasNote, IsNoted, is_in_step, changes_in, IsLeft}
use Rattle.hot_keeper.proofs.TimesLaws.{first_not_before}
use Rattle.hot_keeper.proofs.NoteLaws.{unmap}
use Rattle.hot_keeper.proofs.PieceLaws.{Walk}

-- ---- what a look passes over

skip_by : (q : Row → Bool) (p id : RowId) (r : Row) (rs : List Row) (t u w : Bool) → is_before r.id p ≡ t → is_before r.id id ≡ u → q r ≡ w → is_before id p ≡ false → (q r ≡ true → is_before r.id p ≡ false → is_before r.id id ≡ false)
    → filter q (rows_from p rs) ≡ filter q (rows_from id rs) → filter q (cond t (rows_from p rs) (r ∷ rows_from p rs)) ≡ filter q (cond u (rows_from id rs) (r ∷ rows_from id rs))
skip_by q p id r rs true true w e f k up all rest = rest
skip_by q p id r rs true false w e f k up all rest = cc (before_then_not r.id p id e up, f)
skip_by q p id r rs false true true e f k up all rest = cc (all k e, f)
skip_by q p id r rs false true false e f k up all rest = ap (λ (b : Bool). cond b (r ∷ filter q (rows_from p rs)) (filter q (rows_from p rs))) k ∙ rest
skip_by q p id r rs false false w e f k up all rest = ap (λ (l : List Row). cond (q r) (r ∷ l) l) rest

-- where no row that passes a test is between two places
pub skip : (q : Row → Bool) (p id : RowId) (rs : List Row) → is_before id p ≡ false → All (λ r. q r ≡ true → is_before r.id p ≡ false → is_before r.id id ≡ false) rs → filter q (rows_from p rs) ≡ filter q (rows_from id rs)
skip q p id [] up all = refl
skip q p id (r ∷ rs) up all =
    let P = λ (x : Row). q x ≡ true → is_before x.id p ≡ false → is_before x.id id ≡ false in
    skip_by q p id r rs (is_before r.id p) (is_before r.id id) (q r) refl refl refl up (All-head P r rs all) (skip q p id rs up (All-tail P r rs all))

none_by : (q : Row → Bool) (p : RowId) (r : Row) (rs : List Row) (t w : Bool) → is_before r.id p ≡ t → q r ≡ w → (q r ≡ true → is_before r.id p ≡ false → ⊥) → filter q (rows_from p rs) ≡ [] → filter q (cond t (rows_from p rs) (r ∷ rows_from p rs)) ≡ []
none_by q p r rs true w e k never rest = rest
none_by q p r rs false true e k never rest = absurd (never k e)
none_by q p r rs false false e k never rest = ap (λ (b : Bool). cond b (r ∷ filter q (rows_from p rs)) (filter q (rows_from p rs))) k ∙ rest

pub none_from : (q : Row → Bool) (p : RowId) (rs : List Row) → All (λ r. q r ≡ true → is_before r.id p ≡ false → ⊥) rs → filter q (rows_from p rs) ≡ []
none_from q p [] all = refl
none_from q p (r ∷ rs) all =
    let P = λ (x : Row). q x ≡ true → is_before x.id p ≡ false → ⊥ in
    none_by q p r rs (is_before r.id p) (q r) refl refl (All-head P r rs all) (none_from q p rs (All-tail P r rs all))

all_before_by : (p : RowId) (r : Row) (rs : List Row) (t : Bool) → is_before r.id p ≡ t → cond t (rows_from p rs) (r ∷ rows_from p rs) ≡ [] → (is_before r.id p ≡ true) × (rows_from p rs ≡ [])
all_before_by p r rs true e is = (e, is)
all_before_by p r rs false e is = cc is

all_before : (p : RowId) (rs : List Row) → rows_from p rs ≡ [] → All (λ r. is_before r.id p ≡ true) rs
all_before p [] is = All-nil (λ (r : Row). is_before r.id p ≡ true)
all_before p (r ∷ rs) is =
    let parts = all_before_by p r rs (is_before r.id p) refl is in
    All-cons (λ (x : Row). is_before x.id p ≡ true) r rs parts.0 (all_before p rs parts.1)

contains_rest : (y x : RowId) (ys : List RowId) → Contains (y ∷ ys) x → (y ≡ x → ⊥) → Contains ys x
contains_rest y x ys (zero, b, e) other = absurd (other e)
contains_rest y x ys (suc k, b, e) other = let low : k < length ys = omega arith in (k, low, e)

none_contained : (x : RowId) → Contains [] x → ⊥
none_contained x (k, b, e) = absurd (omega arith)

-- each of sorted ids isn't before the first
first_least : (id : RowId) (ids : List RowId) → AllPairs (λ a b. is_before b a ≡ false) (id ∷ ids) → All (λ x. is_before x id ≡ false) (id ∷ ids)
first_least id ids pairs =
    All-cons (λ (x : RowId). is_before x id ≡ false) id ids (before_itself id) (λ i d below. pairs 0 (suc i) d (omega arith) (omega (arith, below)))

rest_sorted : (id : RowId) (ids : List RowId) → AllPairs (λ a b. is_before b a ≡ false) (id ∷ ids) → AllPairs (λ a b. is_before b a ≡ false) ids
rest_sorted id ids pairs = λ i j d up below. pairs (suc i) (suc j) d (omega (arith, up)) (omega (arith, below))

module _ (epoch from to : ℕ) where
  changes_in-append : (xs ys : List Row) → changes_in epoch from to (xs ++ ys) ≡ changes_in epoch from to xs ++ changes_in epoch from to ys
  changes_in-append xs ys =
      ap (map change_of) (filter-append (is_in_step epoch from to) xs ys) ∙ map-append change_of (filter (is_in_step epoch from to) xs) (filter (is_in_step epoch from to) ys)

  -- an id that is passed over
  pub left_passed : (rs : List Row) (place id : RowId) (ids : List RowId) (changes : List Change) → is_before id place ≡ true → IsLeft epoch from to rs place (id ∷ ids) changes → IsLeft epoch from to rs place ids changes
  left_passed rs place id ids changes passed left = record {
    whole = left.whole;
    noted = λ i d below is after. contains_rest id _ ids (left.noted i d below is after) (λ same. cc (ap (λ (x : RowId). is_before x place) same, passed, after));
    sorted = rest_sorted id ids left.sorted;
  }

  -- no row of the step is between the place and the id
  reached : (rs : List Row) (place id : RowId) (ids : List RowId) (changes : List Change) → is_before id place ≡ false → IsLeft epoch from to rs place (id ∷ ids) changes → changes_in epoch from to (rows_from place rs) ≡ changes_in epoch from to (rows_from id rs)
  reached rs place id ids changes up left =
      ap (map change_of) (skip (is_in_step epoch from to) place id rs up
      (λ i d below is after. All-contains (λ (x : RowId). is_before x id ≡ false) (id ∷ ids) _ (first_least id ids left.sorted) (left.noted i d below is after)))

  -- no row is from the id on
  pub left_none : (rs : List Row) (place id : RowId) (ids : List RowId) (changes : List Change) → is_before id place ≡ false → first_from id rs ≡ None → IsLeft epoch from to rs place (id ∷ ids) changes → IsLeft epoch from to rs id ids changes
  left_none rs place id ids changes up none_found left =
      let all = all_before id rs (rows_from-none_found id rs none_found) in
      record {
        whole = ap (λ (l : List Change). changes ++ l) (sym (reached rs place id ids changes up left)) ∙ left.whole;
        noted = λ i d below is after. absurd (let b = all i d below in cc (b, after));
        sorted = rest_sorted id ids left.sorted;
      }

  behind_not : (x y : RowId) → is_before x (behind y) ≡ false → is_before y x ≡ true
  behind_not x y e = by (is_before y x) refl
    where
      by : (t : Bool) → is_before y x ≡ t → t ≡ true
      by true is = refl
      by false is = let f : is_before x (behind y) ≡ true = before_behind x y ∙ ap not is in cc (e, f)

  -- a row is found
  pub left_found : (rs : List Row) (place id : RowId) (row : Row) (ids : List RowId) (changes new : List Change) → ascends rs ≡ true → is_before id place ≡ false → first_from id rs ≡ Some row → new ≡ changes ++ changes_in epoch from to (row ∷ [])
      → IsLeft epoch from to rs place (id ∷ ids) changes → IsLeft epoch from to rs (behind row.id) ids new
  left_found rs place id row ids changes new order up found is left =
      let here : is_before row.id id ≡ false = first_not_before id rs row found in
      let split : rows_from id rs ≡ row ∷ rows_from (behind row.id) rs = rows_from-found id rs row order found in
      record {
        whole =
            ap (λ (l : List Change). l ++ changes_in epoch from to (rows_from (behind row.id) rs)) is
            ∙ append_assoc changes (changes_in epoch from to (row ∷ [])) (changes_in epoch from to (rows_from (behind row.id) rs))
            ∙ ap (λ (l : List Change). changes ++ l) (sym (changes_in-append (row ∷ []) (rows_from (behind row.id) rs)) ∙ ap (changes_in epoch from to) (sym split) ∙ sym (reached rs place id ids changes up left))
            ∙ left.whole;
        noted = λ i d below step after.
            let later : is_before row.id (get_or rs i d).id ≡ true = behind_not (get_or rs i d).id row.id after in
            let behind_place : is_before (get_or rs i d).id place ≡ false = not_then_not place row.id (get_or rs i d).id (not_then_not place id row.id up here) (before_not_back row.id (get_or rs i d).id later) in
            contains_rest id _ ids (left.noted i d below step behind_place) (λ same. cc (ap (λ (x : RowId). is_before row.id x) same, here, later));
        sorted = rest_sorted id ids left.sorted;
      }

  -- ---- its ends

  pub left_first : (rs : List Row) (place : RowId) (ids : List RowId) (changes : List Change) → place ≡ first_place → changes ≡ [] → IsSorted id_cmp ids → All (λ r. is_in_step epoch from to r ≡ true → Contains ids r.id) rs → IsLeft epoch from to rs place ids changes
  left_first rs place ids changes first nothing up all = record {
    whole = (λ i. nothing i ++ changes_in epoch from to (rows_from (first i) rs)) ∙ ap (changes_in epoch from to) (rows_from-first rs);
    noted = λ i d below is after. all i d below is;
    sorted = λ i j d before below. sorted_far (λ (x y : RowId). is_lt (id_cmp x y)) (ranks_by id_cmp_total (λ (x : RowId). x)) ids up i j d (omega (arith, before)) below;
  }

  pub left_last : (rs : List Row) (place : RowId) (ids : List RowId) (changes : List Change) → length ids ≡ 0 → IsLeft epoch from to rs place ids changes → changes ≡ changes_in epoch from to rs
  left_last rs place (id ∷ ids) changes few left = absurd (omega (arith, few))
  left_last rs place [] changes few left =
      sym (append-nil changes)
      ∙ ap (λ (l : List Row). changes ++ map change_of l) (sym (none_from (is_in_step epoch from to) place rs (λ i d below is after. none_contained _ (left.noted i d below is after))))
      ∙ left.whole

  changes_by : (r : Row) (rs : List Row) (s w : Bool) → is_within_numbers from to (change_of r) ≡ w → map change_of (filter (is_in_step epoch from to) rs) ≡ filter (is_within_numbers from to) (changes_seen epoch rs)
      → map change_of (cond (s && w) (r ∷ filter (is_in_step epoch from to) rs) (filter (is_in_step epoch from to) rs)) ≡ filter (is_within_numbers from to) (map change_of (cond s (r ∷ seen epoch rs) (seen epoch rs)))
  changes_by r rs true true e rest = rw e (ap (λ (l : List Change). change_of r ∷ l) rest)
  changes_by r rs true false e rest = rw e rest
  changes_by r rs false w e rest = rest

  in_step-is : (r : Row) → is_in_step epoch from to r ≡ (is_seen epoch r && is_within_numbers from to (change_of r))
  unfolding is_in_step
  in_step-is r = refl

  -- the changes of the step are those that are seen and within its numbers
  pub changes_in-is : (rs : List Row) → changes_in epoch from to rs ≡ filter (is_within_numbers from to) (changes_seen epoch rs)
  changes_in-is [] = refl
  changes_in-is (r ∷ rs) =
      ap (λ (b : Bool). map change_of (cond b (r ∷ filter (is_in_step epoch from to) rs) (filter (is_in_step epoch from to) rs))) (in_step-is r)
      ∙ changes_by r rs (is_seen epoch r) (is_within_numbers from to (change_of r)) refl (changes_in-is rs)

  -- ---- notes have the rows of the step

  both : (a b : Bool) → (a && b) ≡ true → (a ≡ true) × (b ≡ true)
  both true b h = (refl, h)
  both false b h = cc h

  within_is : (r : Row) → is_within_numbers from to (change_of r) ≡ (nat_le from r.id.tx && nat_lt r.id.tx to)
  unfolding is_within_numbers change_of
  within_is r = refl

  one_in_step : (n : BTreeSet Note) (ids : List RowId) (r : Row) → IsVersion epoch r → IsNoted n r → ((id : RowId) → HasNote n id → from ≤ id.tx → id.tx < to → Contains ids id) → is_in_step epoch from to r ≡ true → Contains ids r.id
  one_in_step n ids r is noted all step =
      let parts = both _ _ (sym (in_step-is r) ∙ step) in
      let numbers = both _ _ (sym (within_is r) ∙ parts.1) in
      let alive : r.killed ≡ 0 = eqb-true r.killed 0 (sym (seen-version epoch r is) ∙ parts.0) in
      all r.id (noted alive) (leb-true _ _ numbers.0) (ltb-true _ _ numbers.1)

  pub noted_in_step : (n : BTreeSet Note) (ids : List RowId) (h : Held) → AreVersions epoch h → All (IsNoted n) h.rows → ((id : RowId) → HasNote n id → from ≤ id.tx → id.tx < to → Contains ids id) → All (λ r. is_in_step epoch from to r ≡ true → Contains ids r.id) h.rows
  noted_in_step n ids h are noted all = λ i d below. one_in_step n ids _ (are.versions i d below) (noted i d below) all

-- ---- the notes of all alive rows

of_seen_by : (P : Row → Type 0) (q : Row → Bool) (r : Row) (rs : List Row) (t : Bool) → q r ≡ t → All P (cond t (r ∷ filter q rs) (filter q rs)) → (All P (filter q rs) → All (λ x. q x ≡ true → P x) rs) → All (λ x. q x ≡ true → P x) (r ∷ rs)
of_seen_by P q r rs true e all rest = All-cons (λ (x : Row). q x ≡ true → P x) r rs (λ _. All-head P r (filter q rs) all) (rest (All-tail P r (filter q rs) all))
of_seen_by P q r rs false e all rest = All-cons (λ (x : Row). q x ≡ true → P x) r rs (λ is. cc (is, e)) (rest all)

of_seen : (P : Row → Type 0) (q : Row → Bool) (rs : List Row) → All P (filter q rs) → All (λ x. q x ≡ true → P x) rs
of_seen P q [] all = All-nil (λ (x : Row). q x ≡ true → P x)
of_seen P q (r ∷ rs) all = of_seen_by P q r rs (q r) refl all (of_seen P q rs)

pub notes_first : (n : BTreeSet Note) (present : ℕ) (rs : List Row) (place : RowId) → place ≡ first_place → All (HasNote n) (ids_of (rows_from place (seen present rs))) → All (HasNote n) (ids_of (seen present rs))
notes_first n present rs place first all =
    let F : List Row → Type 0 = λ l. All (HasNote n) (ids_of l) in
    subst F (ap (λ (p : RowId). rows_from p (seen present rs)) first ∙ rows_from-first (seen present rs)) all

ids_of-append : (xs ys : List Row) → ids_of (xs ++ ys) ≡ ids_of xs ++ ids_of ys
ids_of-append xs ys = map-append (λ (r : Row). r.id) xs ys

pub notes_on : (n : BTreeSet Note) (present : ℕ) (rs : List Row) (place q : RowId) (piece : List Row) (next : Option RowId) → Walk present rs place piece next → next ≡ Some q → All (HasNote n) (ids_of piece) → All (HasNote n) (ids_of (rows_from q (seen present rs)))
    → All (HasNote n) (ids_of (rows_from place (seen present rs)))
notes_on n present rs place q piece next w some here rest =
    let F : List RowId → Type 0 = λ l. All (HasNote n) l in
    subst F (sym (ap ids_of (w.goes_on q some) ∙ ids_of-append piece (rows_from q (seen present rs)))) (All-append (HasNote n) (ids_of piece) (ids_of (rows_from q (seen present rs))) here rest)

pub notes_all : (n : BTreeSet Note) (present epoch : ℕ) (h : Held) → present ≡ epoch → AreVersions epoch h → All (HasNote n) (ids_of (seen present h.rows)) → All (IsNoted n) h.rows
notes_all n present epoch h same are all =
    let F : ℕ → Type 0 = λ e. All (HasNote n) (ids_of (seen e h.rows)) in
    let seen_ones = of_seen (λ (r : Row). HasNote n r.id) (is_seen epoch) h.rows (unmap (HasNote n) (seen epoch h.rows) (subst F same all)) in
    λ i d below alive. seen_ones i d below (seen-version epoch _ (are.versions i d below) ∙ eq-eqb _ 0 alive)
