use Rattle.std.proofs.Common.{◌≡◌, IsTrue, false, is_some, List, ap, ◌∙◌}
use Rattle.std.specs.BTreeMap.{insert_entry}
use Rattle.agg_outside.specs.declared.rows.RowId.{RowId}
use Rattle.memory_side.specs.declared.row_body.RowBody.{RowBody}
use Rattle.agg_outside.specs.Rows.{id_cmp, row_at, insert_row}
use Rattle.memory_side.specs.RowTree.{rows_of, body_of, slots_ascend}
use Rattle.memory_side.proofs.RowSlots.{insert_full}
use Rattle.memory_side.proofs.RowAdds.{on_ok}
use Rattle.memory_side.proofs.tree_adds.add.Goals as goal

pub returns-in-Insert-clause-rows : goal.returns-in-Insert-clause-rows
returns-in-Insert-clause-rows c =
    let slots = c.args.rows.now.entries in
    let row = c.in-Insert.row in
    let fresh : is_some (row_at row.id (rows_of slots)) ≡ false = rw c.in-Insert.is at c.requires.can in
    rw c.in-Insert.is
    (on_ok c.put_row.result
    (c.put_row.new.tree.entries ≡ insert_entry id_cmp slots row.id (body_of row))
    (IsTrue (slots_ascend slots))
    (rows_of c.put_row.new.tree.entries ≡ insert_row row (rows_of slots))
    c.put_row.ensures.put c.put_row.ensures.ascend
    (λ put ascend. ap (λ (l : List (RowId × RowBody)). rows_of l) put ∙ insert_full row.id (body_of row) slots ascend fresh))
