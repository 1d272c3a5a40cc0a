-- The rows so far and those from a key on.
use Rattle.std.proofs.Common.{◌≡◌, ℕ, zero, suc, ◌≤◌, Bool, true, false, cond, List, [], ◌∷◌, ◌++◌, length, drop, Option, Some, None, refl, sym, ap, subst, ◌∙◌, arith, append-nil}
use Rattle.std.specs.Prelude.{slice_get, unwrap_or, is_some}
use Rattle.std.specs.Option.{option_map, option_to_list}
use Rattle.std.proofs.lemmas.List.{drop_all}
use Rattle.agg_model.specs.declared.change.Change.{Change}
use Rattle.agg_model.specs.declared.entity.Entity.{Entity}
use Rattle.agg_model.specs.declared.page.PageRow.{PageRow}
use Rattle.agg_model.specs.ChangeList.{ChangeList, IsChangeList, value_at, as_of}
use Rattle.agg_model.specs.Contents.{times}
use Rattle.agg_model.specs.Listed.{is_under, limited, range, history, index}
use Rattle.collate_step.specs.Groups.{GroupFiles}
use Rattle.window_laws.specs.Pages.{IsNext, behind_key, row_at, row_with}
use Rattle.window_laws.proofs.Listed.{range-open, range-some, range-ends, range-none, history-open, history-some, history-none}
use Rattle.window_reads.proofs.NumberWalks.{take-short, take-full}
use Rattle.window_pages.specs.declared.asked.Asked.{Asked}
use Rattle.window_pages.specs.declared.asked.Asked.TheVariants.{Values, Changes}
use Rattle.window_pages.specs.Looks.{Takes}
use Rattle.window_pages.specs.Standing.{StandFor}
use Rattle.window_pages.specs.Asking.{number_from, number_to, bound_of, row_for, rows_for}

-- ---- a page

abbrev pub page_at : ℕ → List PageRow → List PageRow × Option (List ℕ)
page_at limit rows = limited {A = PageRow} {B = List ℕ} (λ r. r.key) limit rows

drop-full : (n : ℕ) (xs ys : List PageRow) → length xs ≤ n → n ≤ length xs → drop n (xs ++ ys) ≡ ys
drop-full zero [] ys short long = refl
drop-full zero (x ∷ xs) ys short long = absurd (omega arith)
drop-full (suc n) [] ys short long = absurd (omega arith)
drop-full (suc n) (x ∷ xs) ys short long = drop-full n xs ys (omega arith) (omega arith)

-- no row is left
pub page-ended : (limit : ℕ) (rows rest all : List PageRow) → length rows ≤ limit → rest ≡ [] → rows ++ rest ≡ all → (rows, None) ≡ page_at limit all
page-ended limit rows rest all short none is =
    let same : rows ≡ all = sym (append-nil rows) ∙ ap (λ l. rows ++ l) (sym none) ∙ is in
    subst (λ l. (rows, None) ≡ page_at limit l) same
    (λ i. (sym (take-short limit rows short) i, option_map (λ r. r.key) (slice_get (sym (drop_all limit rows short) i) 0)))

-- a row is left for which there is no room
pub page-full : (limit : ℕ) (rows behind all : List PageRow) (row : PageRow) → length rows ≤ limit → limit ≤ length rows → rows ++ row ∷ behind ≡ all
    → (rows, Some row.key) ≡ page_at limit all
page-full limit rows behind all row short long is =
    subst (λ l. (rows, Some row.key) ≡ page_at limit l) is
    (λ i. (sym (take-full limit rows (row ∷ behind) short long) i, option_map (λ r. r.key) (slice_get (sym (drop-full limit rows (row ∷ behind) short long) i) 0)))

pub page-taken : (limit : ℕ) (rows now behind all : List PageRow) (row : Option PageRow) (key : List ℕ) → length rows ≤ limit → Takes limit rows row now (Some key)
    → rows ++ (option_to_list row ++ behind) ≡ all → (now, Some key) ≡ page_at limit all
page-taken limit rows now behind all None key short takes is = absurd cc
page-taken limit rows now behind all (Some row) key short takes is =
    (λ i. (takes.1.0 i, sym takes.1.1 i)) ∙ page-full limit rows behind all row short takes.0 is

pub taken-full : (limit : ℕ) (rows now behind all : List PageRow) (row : Option PageRow) (more : Option (List ℕ)) → length rows ≤ limit → Takes limit rows row now more → is_some more ≡ true
    → rows ++ (option_to_list row ++ behind) ≡ all → (now, more) ≡ page_at limit all
taken-full limit rows now behind all row None short takes some is = absurd cc
taken-full limit rows now behind all row (Some key) short takes some is = page-taken limit rows now behind all row key short takes is

pub taken-on : (limit : ℕ) (rows now : List PageRow) (row : Option PageRow) (more : Option (List ℕ)) → Takes limit rows row now more → is_some more ≡ false
    → (length now ≤ limit) × (now ≡ rows ++ option_to_list row)
taken-on limit rows now row None takes some = takes
taken-on limit rows now row (Some key) takes some = absurd cc

-- ---- from key to key

module _ (list : ChangeList) (e : Entity) where
  abbrev Next : Asked → List ℕ → Option (List ℕ) → Type 0
  Next q first next = IsNext (λ k. times list.changes e k (number_from q) (number_to q)) first next

  pub rows-none : (q : Asked) (first : List ℕ) → IsNext (λ k. times list.changes e k (number_from q) (number_to q)) first None → rows_for list e q (Some first) ≡ []
  rows-none (Values n to) first next = range-none list.changes e n to first next
  rows-none (Changes a b) first next = history-none list.changes e a b first next

  pub rows-over : (q : Asked) (first k : List ℕ) → IsNext (λ k. times list.changes e k (number_from q) (number_to q)) first (Some k) → is_under (bound_of q) k ≡ false
      → rows_for list e q (Some first) ≡ []
  rows-over (Values n to) first k next over = range-ends list.changes e n to first k next over
  rows-over (Changes a b) first k next over = absurd cc

  under-by : (t : Bool) (row rest : List PageRow) → t ≡ true → cond t row [] ++ rest ≡ row ++ rest
  under-by true row rest h = refl
  under-by false row rest h = cc

  pub rows-go : (q : Asked) (first k : List ℕ) → IsChangeList list → IsNext (λ k. times list.changes e k (number_from q) (number_to q)) first (Some k) → is_under (bound_of q) k ≡ true
      → rows_for list e q (Some first) ≡ row_for list e q k ++ rows_for list e q (Some (behind_key k))
  rows-go (Values n to) first k is next under =
      range-some list.changes e n to first k is.ascend next
      ∙ under-by (is_under to k) (row_with k (value_at list.changes e k n)) (rows_for list e (Values n to) (Some (behind_key k))) under
  rows-go (Changes a b) first k is next under = history-some list.changes e a b first k next

  moved : (q : Asked) (first : List ℕ) (a b : ℕ) (o p : Option (List ℕ)) → a ≡ number_from q → b ≡ number_to q → o ≡ p → IsNext (λ k. times list.changes e k a b) first o
      → IsNext (λ k. times list.changes e k (number_from q) (number_to q)) first p
  moved q first a b o p from to is next =
      subst (λ r. IsNext (λ k. times list.changes e k (number_from q) (number_to q)) first r) is
      (subst (λ n. IsNext (λ k. times list.changes e k n (number_to q)) first o) from
      (subst (λ n. IsNext (λ k. times list.changes e k a n) first o) to next))

  pub look-none : (q : Asked) (first : List ℕ) (a b : ℕ) (o : Option (List ℕ)) → a ≡ number_from q → b ≡ number_to q → o ≡ None → IsNext (λ k. times list.changes e k a b) first o
      → rows_for list e q (Some first) ≡ []
  look-none q first a b o from to is next = rows-none q first (moved q first a b o None from to is next)

  pub look-over : (q : Asked) (first k : List ℕ) (a b : ℕ) (o : Option (List ℕ)) → a ≡ number_from q → b ≡ number_to q → o ≡ Some k → IsNext (λ k. times list.changes e k a b) first o
      → is_under (bound_of q) k ≡ false → rows_for list e q (Some first) ≡ []
  look-over q first k a b o from to is next over = rows-over q first k (moved q first a b o (Some k) from to is next) over

  pub look-goes : (q : Asked) (first k : List ℕ) (a b : ℕ) (o : Option (List ℕ)) (row : Option PageRow) (behind : List ℕ) → IsChangeList list → a ≡ number_from q → b ≡ number_to q → o ≡ Some k
      → IsNext (λ k. times list.changes e k a b) first o → is_under (bound_of q) k ≡ true → option_to_list row ≡ row_for list e q k → behind ≡ behind_key k
      → rows_for list e q (Some first) ≡ option_to_list row ++ rows_for list e q (Some behind)
  look-goes q first k a b o row behind changes from to is next under the_row after =
      rows-go q first k changes (moved q first a b o (Some k) from to is next) under
      ∙ (λ i. sym the_row i ++ rows_for list e q (Some (sym after i)))

-- ---- a window that is later

pub stand-later : (list : ChangeList) (e : Entity) (groups : List GroupFiles) (size : ℕ) (told told' : Option (List Change)) (end end' at at' : ℕ) → told' ≡ told → end' ≡ end → at' ≡ at
    → StandFor list e groups told size end at → StandFor list e groups told' size end' at'
stand-later list e groups size told told' end end' at at' one two three stand =
    subst (λ o. StandFor list e groups o size end' at') (sym one) (subst (λ n. StandFor list e groups told size n at') (sym two) (subst (λ n. StandFor list e groups told size end n) (sym three) stand))

-- ---- where the rows begin

pub range-start : (list : ChangeList) (e : Entity) (n : ℕ) (to from : Option (List ℕ)) (start : List ℕ) → start ≡ unwrap_or from [] → range list.changes e n (Some start) to ≡ range list.changes e n from to
range-start list e n to None start is = ap (λ k. range list.changes e n (Some k) to) is ∙ sym (range-open list.changes e n to)
range-start list e n to (Some from) start is = ap (λ k. range list.changes e n (Some k) to) is

pub history-start : (list : ChangeList) (e : Entity) (a b : ℕ) (from : Option (List ℕ)) (start : List ℕ) → start ≡ unwrap_or from [] → history list.changes e a b (Some start) ≡ history list.changes e a b from
history-start list e a b None start is = ap (λ k. history list.changes e a b (Some k)) is ∙ sym (history-open list.changes e a b)
history-start list e a b (Some from) start is = ap (λ k. history list.changes e a b (Some k)) is

-- ---- the row of a key

abbrev pub one_row : List ℕ → Option (List ℕ) → PageRow
one_row k value = record { key = k; value = value }
