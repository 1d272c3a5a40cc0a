use Rattle.std.proofs.Common.{◌≡◌, false, is_some, List, ap, ◌∙◌}
use Rattle.agg_outside.specs.declared.rows.RowId.{RowId}
use Rattle.agg_outside.specs.declared.rows.Row.{Row}
use Rattle.memory_side.specs.declared.row_body.RowBody.{RowBody}
use Rattle.agg_outside.specs.Rows.{row_at, insert_row, remove_row}
use Rattle.memory_side.specs.RowTree.{rows_of}
use Rattle.memory_side.proofs.RowSlots.{rows_of-remove}
use Rattle.memory_side.proofs.RowAdds.{remove-insert}
use Rattle.memory_side.proofs.tree_adds.take_back.Goals as goal

pub returns-in-Insert : goal.returns-in-Insert
returns-in-Insert c = λ held add can is.
    let slots = c.args.rows.now.entries in
    let row = c.in-Insert.row in
    let fresh : is_some (row_at row.id held.rows) ≡ false = rw c.in-Insert.is at can in
    let made : rows_of slots ≡ insert_row row held.rows = rw c.in-Insert.is at is in
    ap (λ (l : List (RowId × RowBody)). rows_of l) c.remove-body.ensures.entries
    ∙ rows_of-remove row.id slots c.slots_in_order.ensures.slots
    ∙ ap (λ (l : List Row). remove_row row.id l) made
    ∙ remove-insert row held.rows fresh
