-- What has to be shown of rows once a batch has come, and what stands for the list without changes.
use Rattle.std.specs.Prelude.{◌≡◌, ℕ, ◌*◌, [], map, None, IsTrue}
use Rattle.std.specs.FinMap.{get}
use Rattle.agg_outside.specs.Files.{Files}
use Rattle.agg_outside.specs.Rows.{Held}
use Rattle.agg_model.specs.Arranged.{arranged}
use Rattle.agg_model.specs.ChangeList.{ChangeList}
use Rattle.merge_ranges.specs.declared.name.FileName.{FileName}
use Rattle.merge_ranges.specs.Name.{is_name, spelled}
use Rattle.agg_core.specs.Rows.{said_by, said_of}
use Rattle.agg_core.specs.Consistent.{kept_rows, changes_from, end_of_files}

-- the rows from the end of the files on are the list's changes there, one a change
abbrev pub HasKeptRows : Files → Held → ChangeList → Type 0
HasKeptRows files held list =
    map said_by (kept_rows files held list.size)
    ≡ map said_of (arranged (changes_from (end_of_files files * list.size) list.changes))

-- no name of the grammar is that of a file
abbrev pub HasNoFile : Files → Type 0
HasNoFile files = (name : FileName) → IsTrue (is_name name) → get files (spelled name) ≡ None

abbrev pub no_rows : Held
no_rows = record { rows = []; floor = 0 }

abbrev pub no_changes : ℕ → ChangeList
no_changes size = record { changes = []; next = 0; size = size }
