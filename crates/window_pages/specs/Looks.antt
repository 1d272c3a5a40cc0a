-- The rows from a key on, by what a look found there.
use Rattle.std.specs.Prelude.{◌≡◌, ℕ, ◌≤◌, List, [], ◌++◌, length, Option, Some, None, IfSome, true}
use Rattle.std.specs.Option.{option_map, option_to_list}
use Rattle.agg_model.specs.declared.entity.Entity.{Entity}
use Rattle.agg_model.specs.declared.page.PageRow.{PageRow}
use Rattle.agg_model.specs.ChangeList.{ChangeList}
use Rattle.agg_model.specs.Listed.{is_from}
use Rattle.window_pages.specs.declared.asked.Asked.{Asked}
use Rattle.window_pages.specs.declared.look.Looked.{Looked}
use Rattle.window_pages.specs.Asking.{rows_for}

-- none, or the row of the key, where it has one, and then those behind it
abbrev pub rows_behind : ChangeList → Entity → Asked → Option Looked → List PageRow
rows_behind list e q None = []
rows_behind list e q (Some found) = option_to_list found.row ++ rows_for list e q (Some found.behind)

-- and the least key above it isn't below the first one
pub record IsLooked (list : ChangeList) (e : Entity) (q : Asked) (first : List ℕ) (found : Option Looked) : Type 0 where
  pub rows : rows_for list e q (Some first) ≡ rows_behind list e q found
  pub from : IfSome found (λ f. is_from (Some first) f.behind ≡ true)

-- no row is left, and those so far and this one are the rows; or there is no room for it, and this is its key
abbrev pub Takes : ℕ → List PageRow → Option PageRow → List PageRow → Option (List ℕ) → Type 0
Takes limit before row now None = (length now ≤ limit) × (now ≡ before ++ option_to_list row)
Takes limit before row now (Some key) = (limit ≤ length before) × ((now ≡ before) × (option_map (λ r. r.key) row ≡ Some key))
