use Rattle.std.proofs.Common.{◌≡◌, List, is_some, true, sym, ap, ◌∙◌}
use Rattle.std.specs.Map.{lookup}
use Rattle.std.specs.BTreeMap.{is_at}
use Rattle.agg_outside.specs.declared.rows.RowId.{RowId}
use Rattle.memory_side.specs.declared.row_body.RowBody.{RowBody}
use Rattle.agg_outside.specs.Rows.{id_cmp, row_at}
use Rattle.memory_side.specs.RowTree.{rows_of}
use Rattle.memory_side.proofs.RowSlots.{row_at-lookup, full_slot, set-kill, rows_of-remove}
use Rattle.memory_side.proofs.tree_writes.change.Goals as goal

pub kill-requires : goal.kill-requires
kill-requires c =
    let there : is_some (row_at c.in-Kill.id (rows_of c.args.rows.now.entries)) ≡ true = rw c.in-Kill.is at c.requires.can in
    sym (row_at-lookup c.in-Kill.id c.args.rows.now.entries) ∙ there

pub returns-in-Kill-clause-rows : goal.returns-in-Kill-clause-rows
returns-in-Kill-clause-rows c =
    let slots = c.args.rows.now.entries in
    let id = c.in-Kill.id in
    let there : is_some (row_at id (rows_of slots)) ≡ true = rw c.in-Kill.is at c.requires.can in
    let full = full_slot (lookup (is_at (id_cmp id)) slots) (sym (row_at-lookup id slots) ∙ there) in
    rw c.in-Kill.is
    (ap (λ (l : List (RowId × RowBody)). rows_of l) (c.kill.ensures.entries full.0 full.1)
    ∙ set-kill id c.in-Kill.epoch full.0 slots c.kill.ensures.ascend full.1)

pub returns-in-Remove-clause-rows : goal.returns-in-Remove-clause-rows
returns-in-Remove-clause-rows c =
    let slots = c.args.rows.now.entries in
    let id = c.in-Remove.id in
    rw c.in-Remove.is
    (ap (λ (l : List (RowId × RowBody)). rows_of l) c.remove-body.ensures.entries
    ∙ rows_of-remove id slots c.slots_in_order.ensures.slots)
