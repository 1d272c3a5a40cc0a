-- Laws of the looks that find the numbers of a key's changes.
use Rattle.std.proofs.Common.{◌≡◌, ℕ, ◌<◌, ◌≤◌, Bool, true, false, not, cond, ◌&&◌, List, [], ◌∷◌, ◌++◌, length, take, map, reverse, All, Some, None, refl, sym, ap, subst, ◌∙◌, arith, append-nil, append_assoc}
use Rattle.std.specs.List.{filter}
use Rattle.std.proofs.lemmas.List.{reverse-append, map-append, length-append}
use Rattle.std.proofs.lemmas.List.Elements.{All-head, All-tail, All-filter, filter-append, filter_passes}
use Rattle.agg_outside.specs.declared.rows.RowId.{RowId}
use Rattle.agg_outside.specs.declared.rows.Row.{Row}
use Rattle.agg_outside.specs.Rows.{Held, is_before, first_from, last_before, rows_from}
use Rattle.agg_outside.specs.RowOrder.{before_itself, before_trans, before_then_not, not_then_not}
use Rattle.agg_model.specs.declared.entity.Entity.{Entity}
use Rattle.agg_model.specs.declared.change.Change.{Change}
use Rattle.agg_model.specs.Contents.{is_of_within, times}
use Rattle.row_epochs.specs.Seen.{is_seen, seen}
use Rattle.row_epochs.specs.Changes.{change_of, changes_seen}
use Rattle.row_epochs.specs.Places.{behind, place_at}
use Rattle.row_epochs.specs.Versions.{IsVersion, AreVersions}
use Rattle.row_epochs.proofs.RowWalks.{rows_from-found, rows_from-none_found, is_of_within-places, before_behind}
use Rattle.row_epochs.proofs.PieceWalks.{taken_all}
use Rattle.hot_keeper.specs.Windows.{numbers_with}
use Rattle.hot_keeper.proofs.PieceLaws.{take-all}
use Rattle.row_epochs.proofs.LastWalks.{rows_before, rows_before-found, rows_before-none_found, found_form}

change_tx : (r : Row) → (change_of r).tx ≡ r.id.tx
unfolding change_of
change_tx r = refl

-- rows from a place on are those that a test leaves
rows_from-test-by : (p : RowId) (r : Row) (rs : List Row) (t : Bool) → rows_from p rs ≡ filter (λ x. not (is_before x.id p)) rs → cond t (rows_from p rs) (r ∷ rows_from p rs) ≡ cond (not t) (r ∷ filter (λ x. not (is_before x.id p)) rs) (filter (λ x. not (is_before x.id p)) rs)
rows_from-test-by p r rs true rest = rest
rows_from-test-by p r rs false rest = ap (λ (l : List Row). r ∷ l) rest

pub rows_from-test : (p : RowId) (rs : List Row) → rows_from p rs ≡ filter (λ x. not (is_before x.id p)) rs
rows_from-test p [] = refl
rows_from-test p (r ∷ rs) = rows_from-test-by p r rs (is_before r.id p) (rows_from-test p rs)

not_true : (b : Bool) → not b ≡ true → b ≡ false
not_true true h = sym h
not_true false h = refl

not_false : (b : Bool) → not b ≡ false → b ≡ true
not_false true h = refl
not_false false h = sym h

pub from_All : (p : RowId) (rs : List Row) → All (λ x. is_before x.id p ≡ false) (rows_from p rs)
from_All p rs =
    let F : List Row → Type 0 = λ l. All (λ x. is_before x.id p ≡ false) l in
    subst F (sym (rows_from-test p rs)) (λ i d below. not_true _ (filter_passes (λ (x : Row). not (is_before x.id p)) rs i d below))

first_by : (P : Row → Type 0) (p : RowId) (row : Row) (rs : List Row) (r : Row) (t : Bool) → cond t (first_from p rs) (Some row) ≡ Some r → P row → (first_from p rs ≡ Some r → P r) → P r
first_by P p row rs r true e here rest = rest e
first_by P p row rs r false e here rest = subst P (cc e) here

-- what all rows have, the one that is found has
pub first_All : (P : Row → Type 0) (p : RowId) (rs : List Row) (r : Row) → All P rs → first_from p rs ≡ Some r → P r
first_All P p [] r all e = cc e
first_All P p (row ∷ rs) r all e = first_by P p row rs r (is_before row.id p) e (All-head P row rs all) (λ is. first_All P p rs r (All-tail P row rs all) is)

first_not_before-by : (p : RowId) (row : Row) (rs : List Row) (r : Row) (t : Bool) → is_before row.id p ≡ t → cond t (first_from p rs) (Some row) ≡ Some r → (first_from p rs ≡ Some r → is_before r.id p ≡ false) → is_before r.id p ≡ false
first_not_before-by p row rs r true e is rest = rest is
first_not_before-by p row rs r false e is rest =
    let F : Row → Type 0 = λ x. is_before x.id p ≡ false in
    let same : row ≡ r = cc is in
    subst F same e

pub first_not_before : (p : RowId) (rs : List Row) (r : Row) → first_from p rs ≡ Some r → is_before r.id p ≡ false
first_not_before p [] r e = cc e
first_not_before p (row ∷ rs) r e = first_not_before-by p row rs r (is_before row.id p) refl e (first_not_before p rs r)

module _ (epoch : ℕ) (e : Entity) (k : List ℕ) (from to : ℕ) where
  -- the numbers that are found among rows
  abbrev pub numbers_of : List Row → List ℕ
  numbers_of rs = map (λ (c : Change). c.tx) (filter (is_of_within e k from to) (map change_of (filter (is_seen epoch) rs)))

  pub times-numbers_of : (rs : List Row) → times (changes_seen epoch rs) e k from to ≡ numbers_of rs
  unfolding times
  times-numbers_of rs = refl

  numbers_of-append : (xs ys : List Row) → numbers_of (xs ++ ys) ≡ numbers_of xs ++ numbers_of ys
  numbers_of-append xs ys =
      ap (λ (l : List Row). map (λ (c : Change). c.tx) (filter (is_of_within e k from to) (map change_of l))) (filter-append (is_seen epoch) xs ys)
      ∙ ap (λ (l : List Change). map (λ (c : Change). c.tx) (filter (is_of_within e k from to) l)) (map-append change_of (seen epoch xs) (seen epoch ys))
      ∙ ap (map (λ (c : Change). c.tx)) (filter-append (is_of_within e k from to) (changes_seen epoch xs) (changes_seen epoch ys))
      ∙ map-append (λ (c : Change). c.tx) (filter (is_of_within e k from to) (changes_seen epoch xs)) (filter (is_of_within e k from to) (changes_seen epoch ys))

  out_by : (r : Row) (t : Bool) → is_of_within e k from to (change_of r) ≡ false → map (λ (c : Change). c.tx) (filter (is_of_within e k from to) (map change_of (cond t (r ∷ []) []))) ≡ []
  out_by r true out = rw out refl
  out_by r false out = refl

  -- a row outside the window tells no number, nor does one that isn't seen
  number_out : (r : Row) → is_of_within e k from to (change_of r) ≡ false → numbers_of (r ∷ []) ≡ []
  number_out r out = out_by r (is_seen epoch r) out

  number_unseen : (r : Row) → is_seen epoch r ≡ false → numbers_of (r ∷ []) ≡ []
  number_unseen r un = ap (λ (t : Bool). map (λ (c : Change). c.tx) (filter (is_of_within e k from to) (map change_of (cond t (r ∷ []) [])))) un

  number_in : (r : Row) → is_seen epoch r ≡ true → is_of_within e k from to (change_of r) ≡ true → numbers_of (r ∷ []) ≡ r.id.tx ∷ []
  number_in r see inside =
      ap (λ (t : Bool). map (λ (c : Change). c.tx) (filter (is_of_within e k from to) (map change_of (cond t (r ∷ []) [])))) see
      ∙ ap (λ (t : Bool). map (λ (c : Change). c.tx) (cond t (change_of r ∷ []) [])) inside
      ∙ ap (λ (n : ℕ). n ∷ []) (change_tx r)

  number_none : (rs : List Row) → All (λ r. is_of_within e k from to (change_of r) ≡ false) rs → numbers_of rs ≡ []
  number_none [] all = refl
  number_none (r ∷ rs) all =
      let P = λ (x : Row). is_of_within e k from to (change_of x) ≡ false in
      numbers_of-append (r ∷ []) rs ∙ (λ i. number_out r (All-head P r rs all) i ++ number_none rs (All-tail P r rs all) i)

  agree_by : (q : Row → Bool) (r : Row) (rs : List Row) (t : Bool) → (t ≡ false → is_of_within e k from to (change_of r) ≡ false) → numbers_of (filter q rs) ≡ numbers_of rs → numbers_of (cond t (r ∷ filter q rs) (filter q rs)) ≡ numbers_of (r ∷ rs)
  agree_by q r rs true out rest =
      numbers_of-append (r ∷ []) (filter q rs) ∙ ap (λ (l : List ℕ). numbers_of (r ∷ []) ++ l) rest ∙ sym (numbers_of-append (r ∷ []) rs)
  agree_by q r rs false out rest =
      rest ∙ sym (numbers_of-append (r ∷ []) rs ∙ ap (λ (l : List ℕ). l ++ numbers_of rs) (number_out r (out refl)))

  -- rows that a test leaves out don't matter where none of them is of the window
  numbers_of-filter : (q : Row → Bool) (rs : List Row) → All (λ r. q r ≡ false → is_of_within e k from to (change_of r) ≡ false) rs → numbers_of (filter q rs) ≡ numbers_of rs
  numbers_of-filter q [] all = refl
  numbers_of-filter q (r ∷ rs) all =
      let P = λ (x : Row). q x ≡ false → is_of_within e k from to (change_of x) ≡ false in
      agree_by q r rs (q r) (All-head P r rs all) (numbers_of-filter q rs (All-tail P r rs all))

  abbrev low : RowId
  low = place_at e k from

  abbrev high : RowId
  high = place_at e k to

  under_by : (a b : Bool) → a ≡ true → (not a && b) ≡ false
  under_by true b h = refl
  under_by false b h = cc h

  over_by : (a b : Bool) → b ≡ false → (not a && b) ≡ false
  over_by true b h = refl
  over_by false b h = h

  in_by : (a b : Bool) → a ≡ false → b ≡ true → (not a && b) ≡ true
  in_by true b h g = cc h
  in_by false b h g = g

  is_under : (last : ℕ) (r : Row) → IsVersion last r → is_before r.id low ≡ true → is_of_within e k from to (change_of r) ≡ false
  is_under last r is h = is_of_within-places e k from to r is.entity ∙ under_by _ _ h

  is_over : (last : ℕ) (r : Row) → IsVersion last r → is_before r.id high ≡ false → is_of_within e k from to (change_of r) ≡ false
  is_over last r is h = is_of_within-places e k from to r is.entity ∙ over_by _ _ h

  is_in : (last : ℕ) (r : Row) → IsVersion last r → is_before r.id low ≡ false → is_before r.id high ≡ true → is_of_within e k from to (change_of r) ≡ true
  is_in last r is h g = is_of_within-places e k from to r is.entity ∙ in_by _ _ h g

  -- ---- from the first number up

  pub record Rising (limit : ℕ) (rs : List Row) (place : RowId) (found : List ℕ) : Type 0 where
    pub above : is_before place low ≡ false
    pub left : take limit (found ++ numbers_of (rows_from place rs)) ≡ take limit (numbers_of rs)

  pub rising_first : (limit last : ℕ) (h : Held) → AreVersions last h → Rising limit h.rows low []
  rising_first limit last h are = record {
    above = before_itself low;
    left =
        ap (λ (l : List Row). take limit (numbers_of l)) (rows_from-test low h.rows)
        ∙ ap (take limit) (numbers_of-filter (λ x. not (is_before x.id low)) h.rows (λ i d below out. is_under last _ (are.versions i d below) (not_false _ out)));
  }

  -- the row that a look finds, and what is behind it
  rising_on : (last : ℕ) (h : Held) (place : RowId) (r : Row) → AreVersions last h → first_from place h.rows ≡ Some r → numbers_of (rows_from place h.rows) ≡ numbers_of (r ∷ []) ++ numbers_of (rows_from (behind r.id) h.rows)
  rising_on last h place r are is =
      ap (λ (l : List Row). numbers_of l) (rows_from-found place h.rows r are.in_order is) ∙ numbers_of-append (r ∷ []) (rows_from (behind r.id) h.rows)

  up_above : (last : ℕ) (h : Held) (place : RowId) (r : Row) → AreVersions last h → first_from place h.rows ≡ Some r → is_before place low ≡ false → is_before (behind r.id) low ≡ false
  up_above last h place r are is above =
      let not_low : is_before r.id low ≡ false = not_then_not low place r.id above (first_not_before place h.rows r is) in
      by (is_before (behind r.id) low) refl not_low
    where
      by : (t : Bool) → is_before (behind r.id) low ≡ t → is_before r.id low ≡ false → t ≡ false
      by true up not_low =
          let step : is_before r.id (behind r.id) ≡ true = before_behind r.id r.id ∙ ap not (before_itself r.id) in
          let wrong : is_before r.id low ≡ true = before_trans r.id (behind r.id) low step up in
          cc (wrong, not_low)
      by false up not_low = refl

  pub rising_seen : (limit last : ℕ) (h : Held) (place : RowId) (r : Row) (found : List ℕ) → AreVersions last h → first_from place h.rows ≡ Some r → is_before r.id high ≡ true → is_seen epoch r ≡ true → Rising limit h.rows place found → Rising limit h.rows (behind r.id) (found ++ r.id.tx ∷ [])
  rising_seen limit last h place r found are is top see rise =
      let form = first_All (IsVersion last) place h.rows r are.versions is in
      let not_low : is_before r.id low ≡ false = not_then_not low place r.id rise.above (first_not_before place h.rows r is) in
      record {
        above = up_above last h place r are is rise.above;
        left =
            ap (take limit) (append_assoc found (r.id.tx ∷ []) (numbers_of (rows_from (behind r.id) h.rows))
            ∙ ap (λ (l : List ℕ). found ++ l) (sym (rising_on last h place r are is ∙ ap (λ (l : List ℕ). l ++ numbers_of (rows_from (behind r.id) h.rows)) (number_in r see (is_in last r form not_low top)))))
            ∙ rise.left;
      }

  pub rising_unseen : (limit last : ℕ) (h : Held) (place : RowId) (r : Row) (found : List ℕ) → AreVersions last h → first_from place h.rows ≡ Some r → is_seen epoch r ≡ false → Rising limit h.rows place found → Rising limit h.rows (behind r.id) found
  rising_unseen limit last h place r found are is un rise = record {
    above = up_above last h place r are is rise.above;
    left =
        ap (λ (l : List ℕ). take limit (found ++ l)) (sym (rising_on last h place r are is ∙ ap (λ (l : List ℕ). l ++ numbers_of (rows_from (behind r.id) h.rows)) (number_unseen r un)))
        ∙ rise.left;
  }

  pub rising_none : (limit : ℕ) (h : Held) (place : RowId) (found : List ℕ) → first_from place h.rows ≡ None → Rising limit h.rows place found → take limit found ≡ take limit (numbers_of h.rows)
  rising_none limit h place found is rise =
      ap (take limit) (sym (append-nil found) ∙ ap (λ (l : List Row). found ++ numbers_of l) (sym (rows_from-none_found place h.rows is))) ∙ rise.left

  -- the row is above the window, and so are those behind it
  pub rising_over : (limit last : ℕ) (h : Held) (place : RowId) (r : Row) (found : List ℕ) → AreVersions last h → first_from place h.rows ≡ Some r → is_before r.id high ≡ false → Rising limit h.rows place found → take limit found ≡ take limit (numbers_of h.rows)
  rising_over limit last h place r found are is over rise =
      let form = first_All (IsVersion last) place h.rows r are.versions is in
      let fit : All (IsVersion last) (rows_from (behind r.id) h.rows) =
      subst (λ (l : List Row). All (IsVersion last) l) (sym (rows_from-test (behind r.id) h.rows)) (All-filter (λ (x : Row). not (is_before x.id (behind r.id))) (IsVersion last) h.rows are.versions) in
      let none : numbers_of (rows_from (behind r.id) h.rows) ≡ [] =
      number_none (rows_from (behind r.id) h.rows) (λ i d below. is_over last _ (fit i d below) (later _ (is_before _ high) refl (from_All (behind r.id) h.rows i d below))) in
      let all : numbers_of (rows_from place h.rows) ≡ [] =
      rising_on last h place r are is ∙ (λ i. number_out r (is_over last r form over) i ++ none i) in
      ap (take limit) (sym (append-nil found) ∙ ap (λ (l : List ℕ). found ++ l) (sym all)) ∙ rise.left
    where
      later : (x : RowId) (t : Bool) → is_before x high ≡ t → is_before x (behind r.id) ≡ false → t ≡ false
      later x true e h =
          let up : is_before r.id x ≡ true = not_false _ (sym (before_behind x r.id) ∙ h) in
          let wrong : is_before r.id high ≡ true = before_trans r.id x high up e in
          cc (wrong, over)
      later x false e h = refl

  -- ---- from the last number down

  pub record Falling (limit : ℕ) (rs : List Row) (place : RowId) (found : List ℕ) : Type 0 where
    pub within : is_before high place ≡ false
    pub left : take limit (found ++ reverse (numbers_of (rows_before place rs))) ≡ take limit (reverse (numbers_of rs))

  pub falling_first : (limit last : ℕ) (h : Held) → AreVersions last h → Falling limit h.rows high []
  falling_first limit last h are = record {
    within = before_itself high;
    left = ap (λ (l : List ℕ). take limit (reverse l)) (numbers_of-filter (λ x. is_before x.id high) h.rows (λ i d below out. is_over last _ (are.versions i d below) out));
  }

  falling_on : (h : Held) (place : RowId) (r : Row) (last : ℕ) → AreVersions last h → last_before place h.rows ≡ Some r → reverse (numbers_of (rows_before place h.rows)) ≡ reverse (numbers_of (r ∷ [])) ++ reverse (numbers_of (rows_before r.id h.rows))
  falling_on h place r last are is =
      let found = rows_before-found place h.rows r are.in_order is in
      ap (λ (l : List Row). reverse (numbers_of l)) found.others
      ∙ ap reverse (numbers_of-append (rows_before r.id h.rows) (r ∷ []))
      ∙ reverse-append (numbers_of (rows_before r.id h.rows)) (numbers_of (r ∷ []))

  down_within : (h : Held) (place : RowId) (r : Row) (last : ℕ) → AreVersions last h → last_before place h.rows ≡ Some r → is_before high place ≡ false → is_before high r.id ≡ false
  down_within h place r last are is within =
      by (is_before high r.id) refl (rows_before-found place h.rows r are.in_order is).before
    where
      by : (t : Bool) → is_before high r.id ≡ t → is_before r.id place ≡ true → t ≡ false
      by true e before = let wrong : is_before high place ≡ true = before_trans high r.id place e before in cc (wrong, within)
      by false e before = refl

  pub falling_seen : (limit last : ℕ) (h : Held) (place : RowId) (r : Row) (found : List ℕ) → AreVersions last h → last_before place h.rows ≡ Some r → is_before r.id low ≡ false → is_seen epoch r ≡ true → Falling limit h.rows place found → Falling limit h.rows r.id (found ++ r.id.tx ∷ [])
  falling_seen limit last h place r found are is not_low see fall =
      let form = found_form last h.rows place r are.versions is in
      let top : is_before r.id high ≡ true = before_then_not r.id place high (rows_before-found place h.rows r are.in_order is).before fall.within in
      record {
        within = down_within h place r last are is fall.within;
        left =
            ap (take limit) (append_assoc found (r.id.tx ∷ []) (reverse (numbers_of (rows_before r.id h.rows)))
            ∙ ap (λ (l : List ℕ). found ++ l) (sym (falling_on h place r last are is ∙ ap (λ (l : List ℕ). reverse l ++ reverse (numbers_of (rows_before r.id h.rows))) (number_in r see (is_in last r form not_low top)))))
            ∙ fall.left;
      }

  pub falling_unseen : (limit last : ℕ) (h : Held) (place : RowId) (r : Row) (found : List ℕ) → AreVersions last h → last_before place h.rows ≡ Some r → is_seen epoch r ≡ false → Falling limit h.rows place found → Falling limit h.rows r.id found
  falling_unseen limit last h place r found are is un fall = record {
    within = down_within h place r last are is fall.within;
    left =
        ap (λ (l : List ℕ). take limit (found ++ l)) (sym (falling_on h place r last are is ∙ ap (λ (l : List ℕ). reverse l ++ reverse (numbers_of (rows_before r.id h.rows))) (number_unseen r un)))
        ∙ fall.left;
  }

  pub falling_none : (limit : ℕ) (h : Held) (place : RowId) (found : List ℕ) → last_before place h.rows ≡ None → Falling limit h.rows place found → take limit found ≡ take limit (reverse (numbers_of h.rows))
  falling_none limit h place found is fall =
      ap (take limit) (sym (append-nil found) ∙ ap (λ (l : List Row). found ++ reverse (numbers_of l)) (sym (rows_before-none_found place h.rows is))) ∙ fall.left

  pub falling_under : (limit last : ℕ) (h : Held) (place : RowId) (r : Row) (found : List ℕ) → AreVersions last h → last_before place h.rows ≡ Some r → is_before r.id low ≡ true → Falling limit h.rows place found → take limit found ≡ take limit (reverse (numbers_of h.rows))
  falling_under limit last h place r found are is under fall =
      let form = found_form last h.rows place r are.versions is in
      let fit = All-filter (λ (x : Row). is_before x.id r.id) (IsVersion last) h.rows are.versions in
      let passed = filter_passes (λ (x : Row). is_before x.id r.id) h.rows in
      let none : numbers_of (rows_before r.id h.rows) ≡ [] =
      number_none (rows_before r.id h.rows) (λ i d below. is_under last _ (fit i d below) (before_trans _ r.id low (passed i d below) under)) in
      let all : reverse (numbers_of (rows_before place h.rows)) ≡ [] =
      falling_on h place r last are is ∙ (λ i. reverse (number_out r (is_under last r form under) i) ++ reverse (none i)) in
      ap (take limit) (sym (append-nil found) ∙ ap (λ (l : List ℕ). found ++ l) (sym all)) ∙ fall.left

  -- ---- what a look adds, and the ends

  rising_look_by : (limit last : ℕ) (h : Held) (place : RowId) (r : Row) (found : List ℕ) (see : Bool) → is_seen epoch r ≡ see → AreVersions last h → first_from place h.rows ≡ Some r → is_before r.id high ≡ true → Rising limit h.rows place found
      → Rising limit h.rows (behind r.id) (found ++ cond see (r.id.tx ∷ []) [])
  rising_look_by limit last h place r found true es are is top rise = rising_seen limit last h place r found are is top es rise
  rising_look_by limit last h place r found false es are is top rise =
      let F : List ℕ → Type 0 = λ l. Rising limit h.rows (behind r.id) l in
      subst F (sym (append-nil found)) (rising_unseen limit last h place r found are is es rise)

  pub rising_look : (limit last : ℕ) (h : Held) (place q : RowId) (r : Row) (found new : List ℕ) → AreVersions last h → first_from place h.rows ≡ Some r → is_before r.id high ≡ true → q ≡ behind r.id → new ≡ found ++ numbers_with epoch r → Rising limit h.rows place found → Rising limit h.rows q new
  rising_look limit last h place q r found new are is top at more rise =
      let F : RowId → Type 0 = λ p. Rising limit h.rows p new in
      let G : List ℕ → Type 0 = λ l. Rising limit h.rows (behind r.id) l in
      subst F (sym at) (subst G (sym more) (rising_look_by limit last h place r found (is_seen epoch r) refl are is top rise))

  falling_look_by : (limit last : ℕ) (h : Held) (place : RowId) (r : Row) (found : List ℕ) (see : Bool) → is_seen epoch r ≡ see → AreVersions last h → last_before place h.rows ≡ Some r → is_before r.id low ≡ false → Falling limit h.rows place found
      → Falling limit h.rows r.id (found ++ cond see (r.id.tx ∷ []) [])
  falling_look_by limit last h place r found true es are is above fall = falling_seen limit last h place r found are is above es fall
  falling_look_by limit last h place r found false es are is above fall =
      let F : List ℕ → Type 0 = λ l. Falling limit h.rows r.id l in
      subst F (sym (append-nil found)) (falling_unseen limit last h place r found are is es fall)

  pub falling_look : (limit last : ℕ) (h : Held) (place : RowId) (r : Row) (found new : List ℕ) → AreVersions last h → last_before place h.rows ≡ Some r → is_before r.id low ≡ false → new ≡ found ++ numbers_with epoch r → Falling limit h.rows place found → Falling limit h.rows r.id new
  falling_look limit last h place r found new are is above more fall =
      let G : List ℕ → Type 0 = λ l. Falling limit h.rows r.id l in
      subst G (sym more) (falling_look_by limit last h place r found (is_seen epoch r) refl are is above fall)

  -- as many as are sought
  pub rising_full : (limit : ℕ) (rs : List Row) (place : RowId) (found : List ℕ) → length found ≤ limit → limit ≤ length found → Rising limit rs place found → found ≡ take limit (times (changes_seen epoch rs) e k from to)
  rising_full limit rs place found short full rise =
      sym (taken_all limit found (numbers_of (rows_from place rs)) short full) ∙ rise.left ∙ ap (take limit) (sym (times-numbers_of rs))

  pub falling_full : (limit : ℕ) (rs : List Row) (place : RowId) (found : List ℕ) → length found ≤ limit → limit ≤ length found → Falling limit rs place found → found ≡ take limit (reverse (times (changes_seen epoch rs) e k from to))
  falling_full limit rs place found short full fall =
      sym (taken_all limit found (reverse (numbers_of (rows_before place rs))) short full) ∙ fall.left ∙ ap (λ (l : List ℕ). take limit (reverse l)) (sym (times-numbers_of rs))

  -- all that there are
  pub rising_all : (limit : ℕ) (rs : List Row) (found : List ℕ) → length found ≤ limit → take limit found ≡ take limit (numbers_of rs) → found ≡ take limit (times (changes_seen epoch rs) e k from to)
  rising_all limit rs found short all = sym (take-all limit found short) ∙ all ∙ ap (take limit) (sym (times-numbers_of rs))

  pub falling_all : (limit : ℕ) (rs : List Row) (found : List ℕ) → length found ≤ limit → take limit found ≡ take limit (reverse (numbers_of rs)) → found ≡ take limit (reverse (times (changes_seen epoch rs) e k from to))
  falling_all limit rs found short all = sym (take-all limit found short) ∙ all ∙ ap (λ (l : List ℕ). take limit (reverse l)) (sym (times-numbers_of rs))

numbers_with-short_by : (n : ℕ) (t : Bool) → length (cond t (n ∷ []) []) ≤ 1
numbers_with-short_by n true = omega arith
numbers_with-short_by n false = omega arith

-- one look adds one at most
pub still_short : (limit epoch : ℕ) (r : Row) (found new : List ℕ) → length found < limit → new ≡ found ++ numbers_with epoch r → length new ≤ limit
still_short limit epoch r found new few is =
    let e : length new ≡ length (found ++ numbers_with epoch r) = ap length is in
    omega (arith, e, length-append found (numbers_with epoch r), numbers_with-short_by r.id.tx (is_seen epoch r), few)
