use Rattle.std.proofs.Common.{◌≤◌, List, Some, length}
use Rattle.agg_model.specs.ChangeList.{ChangeList}
use Rattle.collate_step.specs.Groups.{GroupFiles, IsDomain}
use Rattle.window_pages.specs.Asking.{rows_for}
use Rattle.window_pages.specs.Places.{places_from}
use Rattle.window_pages.specs.Standing.{StandFor, IsPartway}
use Rattle.std.proofs.Common.{◌≡◌}
use Rattle.window_pages.proofs.pages.page_on.Given as goal

-- the rows so far and those from the next key on are all rows, and no cursor stands behind it
abbrev pub invariant-loop-look : goal.invariant-loop-look
invariant-loop-look g l = record {
  later : g.W.Window.later l.initial.window l.window;
  short : length l.rows ≤ l.limit;
  left : (list : ChangeList) (groups : List GroupFiles) → StandFor list l.entity groups (g.W.Window.changes l.initial.window) l.size (g.W.Window.first_step l.initial.window) (g.W.Window.next_number l.initial.window)
      → IsDomain l.entity → l.initial.cursors ≡ places_from l.fn.start groups
      → IsPartway l.cursors groups l.first l.rows (rows_for list l.entity l.asked (Some l.first)) (rows_for list l.entity l.asked (Some l.fn.start));
}
