-- The rows that are asked for, from key to key.
use Rattle.std.specs.Prelude.{ℕ, List, Option, None}
use Rattle.agg_model.specs.declared.entity.Entity.{Entity}
use Rattle.agg_model.specs.declared.page.PageRow.{PageRow}
use Rattle.agg_model.specs.ChangeList.{ChangeList, value_at}
use Rattle.agg_model.specs.Contents.{times}
use Rattle.agg_model.specs.Listed.{range, history}
use Rattle.window_laws.specs.Pages.{row_with, row_at}
use Rattle.window_pages.specs.declared.asked.Asked.{Asked}
use Rattle.window_pages.specs.declared.asked.Asked.TheVariants.{Values, Changes}

-- the numbers of the changes whose keys have rows
abbrev pub number_from : Asked → ℕ
number_from (Values n to) = 0
number_from (Changes a b) = a

abbrev pub number_to : Asked → ℕ
number_to (Values n to) = n
number_to (Changes a b) = b

-- the bound that the keys are under
abbrev pub bound_of : Asked → Option (List ℕ)
bound_of (Values n to) = to
bound_of (Changes a b) = None

-- the row of a key, where it has one
abbrev pub row_for : ChangeList → Entity → Asked → List ℕ → List PageRow
row_for list e (Values n to) k = row_with k (value_at list.changes e k n)
row_for list e (Changes a b) k = row_at k (value_at list.changes e k a) (times list.changes e k a b)

-- all rows from a key on
abbrev pub rows_for : ChangeList → Entity → Asked → Option (List ℕ) → List PageRow
rows_for list e (Values n to) from = range list.changes e n from to
rows_for list e (Changes a b) from = history list.changes e a b from
