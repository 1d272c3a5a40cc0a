-- Laws of looks back: the last change of a key that an epoch sees.
use Rattle.std.proofs.Common.{◌≡◌, ℕ, ◌≤◌, Bool, true, false, not, cond, ◌&&◌, List, [], ◌∷◌, ◌++◌, map, All, Option, Some, None, IfSome, IsTrue, refl, sym, ap, subst, ◌∙◌, arith, append_assoc, eqb-true}
use Rattle.std.specs.Option.{option_or}
use Rattle.std.specs.List.{filter}
use Rattle.std.proofs.lemmas.List.Elements.{All-head, All-tail, All-filter, filter-append, filter_passes}
use Rattle.std.proofs.lemmas.List.{map-append}
use Rattle.agg_outside.specs.declared.rows.RowId.{RowId}
use Rattle.agg_outside.specs.declared.rows.Row.{Row}
use Rattle.agg_outside.specs.Rows.{is_before, ascends_after, ascends, last_or, last_before}
use Rattle.agg_outside.specs.RowOrder.{before_itself, before_trans, before_not_back, before_then_not, not_then_not, ascends-after, ascends_after-before}
use Rattle.agg_model.specs.declared.entity.Entity.{Entity}
use Rattle.agg_model.specs.declared.change.Change.{Change}
use Rattle.std.specs.Prelude.{◌==◌, nat_eq}
use Rattle.std.specs.Cmp.{first_so}
use Rattle.std.specs.Cmp.Lexicographic.{pointwise}
use Rattle.agg_model.specs.Entity.{entity_number}
use Rattle.agg_model.proofs.EntityLaws.{entity_number-injective}
use Rattle.agg_model.specs.Place.{is_of}
use Rattle.agg_model.specs.ChangeList.{last_where}
use Rattle.agg_model.proofs.ArrangedLaws.{last_where-append, option_or-none}
use Rattle.agg_model.specs.Contents.{is_of_within}
use Rattle.agg_model.specs.Pairs.{hot_change}
use Rattle.row_epochs.specs.Seen.{is_seen, seen}
use Rattle.row_epochs.specs.Changes.{entity_of, act_of, change_of, changes_seen}
use Rattle.row_epochs.specs.Places.{place_at}
use Rattle.row_epochs.specs.Versions.{IsVersion, AreVersions}
use Rattle.row_epochs.proofs.RowWalks.{is_of_within-places}

both : (a b : Bool) → (cond a b false) ≡ true → (a ≡ true) × (b ≡ true)
both true b h = (refl, h)
both false b h = cc h

-- the rows before a place
abbrev pub rows_before : RowId → List Row → List Row
rows_before p rows = filter (λ row. is_before row.id p) rows

-- rows after an id are not before it
pub rows_before-none : (p low : RowId) (rows : List Row) → is_before low p ≡ false → ascends_after low rows ≡ true → rows_before p rows ≡ []
rows_before-none p low [] n s = refl
rows_before-none p low (row ∷ rows) n s =
    let parts = both _ _ s in
    let not_before : is_before row.id p ≡ false = not_then_not p low row.id n (before_not_back low row.id parts.0) in
    rw not_before (rows_before-none p row.id rows not_before parts.1)

last_or-some : (row : Row) (o : Option Row) → last_or row o ≡ None → ⊥
last_or-some row None e = cc e
last_or-some row (Some r) e = cc e

last_none-by : (p : RowId) (row : Row) (rows : List Row) (t : Bool) → cond t (last_or row (last_before p rows)) (last_before p rows) ≡ None → (last_before p rows ≡ None → rows_before p rows ≡ []) → cond t (row ∷ rows_before p rows) (rows_before p rows) ≡ []
last_none-by p row rows true e rest = absurd (last_or-some row (last_before p rows) e)
last_none-by p row rows false e rest = rest e

-- no row is found, so none is before
pub rows_before-none_found : (p : RowId) (rows : List Row) → last_before p rows ≡ None → rows_before p rows ≡ []
rows_before-none_found p [] e = refl
rows_before-none_found p (row ∷ rows) e = last_none-by p row rows (is_before row.id p) e (rows_before-none_found p rows)

-- the row that a look back finds is before the place, and behind the others
pub record IsLast (p : RowId) (rows : List Row) (r : Row) : Type 0 where
  pub before : is_before r.id p ≡ true
  pub others : rows_before p rows ≡ rows_before r.id rows ++ r ∷ []
  pub after : (low : RowId) → ascends_after low rows ≡ true → is_before low r.id ≡ true

last_by : (p : RowId) (row : Row) (rows : List Row) (r : Row) (t : Bool) (o : Option Row) → is_before row.id p ≡ t → last_before p rows ≡ o → ascends (row ∷ rows) ≡ true → cond t (last_or row o) o ≡ Some r
    → ((x : Row) → last_before p rows ≡ Some x → IsLast p rows x) → IsLast p (row ∷ rows) r
last_by p row rows r true None e found s is rest =
    let same : row ≡ r = cc is in
    let here : rows_before p (row ∷ rows) ≡ row ∷ [] = rw (e, rows_before-none_found p rows found) refl in
    let lower : rows_before row.id (row ∷ rows) ≡ [] = rw (before_itself row.id) (rows_before-none row.id row.id rows (before_itself row.id) s) in
    subst (λ (x : Row). IsLast p (row ∷ rows) x) same
    (record { before = e; others = here ∙ ap (λ (l : List Row). l ++ row ∷ []) (sym lower); after = λ low up. (both _ _ up).0 })
last_by p row rows r true (Some x) e found s is rest =
    let same : x ≡ r = cc is in
    let more = rest x found in
    let first : is_before row.id x.id ≡ true = more.after row.id s in
    subst (λ (y : Row). IsLast p (row ∷ rows) y) same
    (record {
      before = more.before;
      others = rw (e, first) (ap (λ (l : List Row). row ∷ l) more.others);
      after = λ low up. before_trans low row.id x.id (both _ _ up).0 first;
    })
last_by p row rows r false None e found s is rest = cc is
last_by p row rows r false (Some x) e found s is rest =
    let same : x ≡ r = cc is in
    let more = rest x found in
    let first : is_before row.id x.id ≡ true = more.after row.id s in
    let wrong : is_before row.id p ≡ true = before_trans row.id x.id p first more.before in
    cc (wrong, e)

pub rows_before-found : (p : RowId) (rows : List Row) (r : Row) → ascends rows ≡ true → last_before p rows ≡ Some r → IsLast p rows r
rows_before-found p [] r s e = cc e
rows_before-found p (row ∷ rows) r s e =
    last_by p row rows r (is_before row.id p) (last_before p rows) refl refl s e (λ x is. rows_before-found p rows x (ascends-after row.id rows s) is)

-- ---- the last change of a window

module _ (epoch : ℕ) (e : Entity) (k : List ℕ) (from to : ℕ) where
  abbrev pub last_of : List Row → Option Change
  last_of rows = last_where (is_of_within e k from to) (changes_seen epoch rows)

  pub hot_change-last : (rows : List Row) → hot_change (changes_seen epoch rows) e k from to ≡ last_of rows
  unfolding hot_change
  hot_change-last rows = refl

  last_of-drop-by : (row : Row) (rows : List Row) (t : Bool) → is_of_within e k from to (change_of row) ≡ false → last_where (is_of_within e k from to) (map change_of (cond t (row ∷ seen epoch rows) (seen epoch rows))) ≡ last_of rows
  last_of-drop-by row rows true out = ap (λ (u : Bool). option_or (last_of rows) (cond u (Some (change_of row)) None)) out ∙ option_or-none (last_of rows)
  last_of-drop-by row rows false out = refl

  -- a row outside the window doesn't matter
  last_of-drop : (row : Row) (rows : List Row) → is_of_within e k from to (change_of row) ≡ false → last_of (row ∷ rows) ≡ last_of rows
  last_of-drop row rows out = last_of-drop-by row rows (is_seen epoch row) out

  last_of-cons-by : (row : Row) (xs ys : List Row) (t : Bool) → last_of xs ≡ last_of ys → last_where (is_of_within e k from to) (map change_of (cond t (row ∷ seen epoch xs) (seen epoch xs))) ≡ last_where (is_of_within e k from to) (map change_of (cond t (row ∷ seen epoch ys) (seen epoch ys)))
  last_of-cons-by row xs ys true h = ap (λ o. option_or o (cond (is_of_within e k from to (change_of row)) (Some (change_of row)) None)) h
  last_of-cons-by row xs ys false h = h

  last_of-cons : (row : Row) (xs ys : List Row) → last_of xs ≡ last_of ys → last_of (row ∷ xs) ≡ last_of (row ∷ ys)
  last_of-cons row xs ys h = last_of-cons-by row xs ys (is_seen epoch row) h

  agree_by : (p : Row → Bool) (row : Row) (rows : List Row) (t : Bool) → (t ≡ false → is_of_within e k from to (change_of row) ≡ false) → last_of (filter p rows) ≡ last_of rows → last_of (cond t (row ∷ filter p rows) (filter p rows)) ≡ last_of (row ∷ rows)
  agree_by p row rows true out h = last_of-cons row (filter p rows) rows h
  agree_by p row rows false out h = h ∙ sym (last_of-drop row rows (out refl))

  -- rows that a test leaves out don't matter where none of them is of the window
  last_of-filter : (p : Row → Bool) (rows : List Row) → All (λ row. p row ≡ false → is_of_within e k from to (change_of row) ≡ false) rows → last_of (filter p rows) ≡ last_of rows
  last_of-filter p [] all = refl
  last_of-filter p (row ∷ rows) all =
      let P = λ (x : Row). p x ≡ false → is_of_within e k from to (change_of x) ≡ false in
      agree_by p row rows (p row) (All-head P row rows all) (last_of-filter p rows (All-tail P row rows all))

  last_of-none : (rows : List Row) → All (λ row. is_of_within e k from to (change_of row) ≡ false) rows → last_of rows ≡ None
  last_of-none [] all = refl
  last_of-none (row ∷ rows) all =
      let P = λ (x : Row). is_of_within e k from to (change_of x) ≡ false in
      last_of-drop row rows (All-head P row rows all) ∙ last_of-none rows (All-tail P row rows all)

  last_of-append : (xs ys : List Row) → last_of (xs ++ ys) ≡ option_or (last_of ys) (last_of xs)
  last_of-append xs ys =
      ap (λ (l : List Row). last_where (is_of_within e k from to) (map change_of l)) (filter-append (is_seen epoch) xs ys)
      ∙ ap (λ (l : List Change). last_where (is_of_within e k from to) l) (map-append change_of (seen epoch xs) (seen epoch ys))
      ∙ last_where-append (is_of_within e k from to) (changes_seen epoch xs) (changes_seen epoch ys)

  outside_by : (a b : Bool) → b ≡ false → (not a && b) ≡ false
  outside_by true b h = refl
  outside_by false b h = h

  under_by : (a b : Bool) → a ≡ true → (not a && b) ≡ false
  under_by true b h = refl
  under_by false b h = cc h

  abbrev low : RowId
  low = place_at e k from

  abbrev high : RowId
  high = place_at e k to

  -- what is still to be looked at: the rows before a place that isn't above the window
  pub record StillLast (rows : List Row) (p : RowId) : Type 0 where
    pub within : is_before high p ≡ false
    pub rest : last_of (rows_before p rows) ≡ last_of rows

  pub still_first : (last : ℕ) (rows : List Row) → All (IsVersion last) rows → StillLast rows high
  still_first last rows known = record {
    within = before_itself high;
    rest = last_of-filter (λ row. is_before row.id high) rows
        (λ i d below out. is_of_within-places e k from to _ (known i d below).entity ∙ outside_by _ _ out);
  }

  -- none is found, or one below the window
  pub still_none : (rows : List Row) (p : RowId) → StillLast rows p → last_before p rows ≡ None → last_of rows ≡ None
  still_none rows p still none = sym still.rest ∙ ap (λ (l : List Row). last_of l) (rows_before-none_found p rows none)

  -- what a row alone gives
  alone_by : (r : Row) (t u : Bool) → is_seen epoch r ≡ t → is_of_within e k from to (change_of r) ≡ u → last_of (r ∷ []) ≡ cond t (cond u (Some (change_of r)) None) None
  alone_by r true u e w = rw e (ap (λ (b : Bool). option_or None (cond b (Some (change_of r)) None)) w ∙ none_or u r)
    where
      none_or : (u : Bool) (r : Row) → option_or None (cond u (Some (change_of r)) None) ≡ cond u (Some (change_of r)) None
      none_or true r = refl
      none_or false r = refl
  alone_by r false u e w = rw e refl

  pub still_under : (last : ℕ) (rows : List Row) (p : RowId) (r : Row) → ascends rows ≡ true → All (IsVersion last) rows → r.id.entity ≤ 6 → StillLast rows p → last_before p rows ≡ Some r → is_before r.id low ≡ true → last_of rows ≡ None
  still_under last rows p r s known known_r still found under =
      let is = rows_before-found p rows r s found in
      let passed = filter_passes (λ (x : Row). is_before x.id r.id) rows in
      let fit = All-filter (λ (x : Row). is_before x.id r.id) (IsVersion last) rows known in
      let here : last_of (r ∷ []) ≡ None = alone_none r (is_of_within-places e k from to r known_r ∙ under_by _ _ under) in
      let others : last_of (rows_before r.id rows) ≡ None =
      last_of-none (rows_before r.id rows)
      (λ i d below. is_of_within-places e k from to _ (fit i d below).entity ∙ under_by _ _ (before_trans _ r.id low (passed i d below) under)) in
      sym still.rest
      ∙ ap (λ (l : List Row). last_of l) is.others
      ∙ last_of-append (rows_before r.id rows) (r ∷ [])
      ∙ (λ i. option_or (here i) (others i))
    where
      alone_none : (r : Row) → is_of_within e k from to (change_of r) ≡ false → last_of (r ∷ []) ≡ None
      alone_none r out = last_of-drop r [] out

  inside_by : (a b : Bool) → a ≡ false → b ≡ true → (not a && b) ≡ true
  inside_by true b h g = cc h
  inside_by false b h g = g

  -- the row that is found is seen
  pub still_seen : (rows : List Row) (p : RowId) (r : Row) → ascends rows ≡ true → r.id.entity ≤ 6 → StillLast rows p → last_before p rows ≡ Some r → is_before r.id low ≡ false → is_seen epoch r ≡ true → last_of rows ≡ Some (change_of r)
  still_seen rows p r s known_r still found above see =
      let is = rows_before-found p rows r s found in
      let top : is_before r.id high ≡ true = before_then_not r.id p high is.before still.within in
      let inside : is_of_within e k from to (change_of r) ≡ true = is_of_within-places e k from to r known_r ∙ inside_by _ _ above top in
      sym still.rest
      ∙ ap (λ (l : List Row). last_of l) is.others
      ∙ last_of-append (rows_before r.id rows) (r ∷ [])
      ∙ ap (λ o. option_or o (last_of (rows_before r.id rows))) (alone_by r true true see inside)

  -- it isn't, so it doesn't matter
  pub still_unseen : (rows : List Row) (p : RowId) (r : Row) → ascends rows ≡ true → StillLast rows p → last_before p rows ≡ Some r → is_seen epoch r ≡ false → StillLast rows r.id
  still_unseen rows p r s still found unseen =
      let is = rows_before-found p rows r s found in record {
        within = not_by (is_before high r.id) refl is;
        rest =
            sym (ap (λ (l : List Row). last_of l) is.others
            ∙ last_of-append (rows_before r.id rows) (r ∷ [])
            ∙ ap (λ o. option_or o (last_of (rows_before r.id rows))) (unseen_alone r unseen))
            ∙ still.rest;
      }
    where
      unseen_alone : (r : Row) → is_seen epoch r ≡ false → last_of (r ∷ []) ≡ None
      unseen_alone r un = ap (λ (t : Bool). last_where (is_of_within e k from to) (map change_of (cond t (r ∷ []) []))) un

      not_by : (t : Bool) → is_before high r.id ≡ t → IsLast p rows r → t ≡ false
      not_by true e is = let up : is_before high p ≡ true = before_trans high r.id p e is.before in cc (up, still.within)
      not_by false e is = refl

found_by : (P : Row → Type 0) (p : RowId) (row : Row) (rows : List Row) (r : Row) (t : Bool) (o : Option Row) → last_before p rows ≡ o → cond t (last_or row o) o ≡ Some r → P row → ((x : Row) → last_before p rows ≡ Some x → P x) → P r
found_by P p row rows r true None e is here rest = subst P (cc is) here
found_by P p row rows r true (Some x) e is here rest = subst P (cc is) (rest x e)
found_by P p row rows r false None e is here rest = cc is
found_by P p row rows r false (Some x) e is here rest = subst P (cc is) (rest x e)

-- what all rows have, the one that is found has
pub found_All : (P : Row → Type 0) (p : RowId) (rows : List Row) (r : Row) → All P rows → last_before p rows ≡ Some r → P r
found_All P p [] r all e = cc e
found_All P p (row ∷ rows) r all e =
    found_by P p row rows r (is_before row.id p) (last_before p rows) refl e (All-head P row rows all) (λ x is. found_All P p rows x (All-tail P row rows all) is)

pub found_form : (last : ℕ) (rows : List Row) (p : RowId) (r : Row) → All (IsVersion last) rows → last_before p rows ≡ Some r → IsVersion last r
found_form last rows p r all e = found_All (IsVersion last) p rows r all e
