use Rattle.std.proofs.Common.{◌≡◌, List, [], ◌∷◌, ◌++◌, Some, sym, ap, ◌∙◌}
use Rattle.agg_outside.specs.declared.rows.RowId.{RowId}
use Rattle.agg_outside.specs.declared.rows.Row.{Row}
use Rattle.memory_side.specs.declared.row_body.RowBody.{RowBody}
use Rattle.memory_side.specs.RowTree.{row_with, rows_of}
use Rattle.memory_side.proofs.RowSlots.{last_row, last_row-push, last_row-range_before, rows_of-append}
use Rattle.memory_side.proofs.row_tree.last_row_before.Goals as goal

pub returns-in_ok-row-in-Some : goal.returns-in_ok-row-in-Some
returns-in_ok-row-in-Some c =
    let slots = c.args.rows.now.entries in
    let key = c.in-Some.key.now in
    let body = c.in-Some.body.now in
    let rest = c.next_back.new.self in
    let e : c.range-before.result ≡ rest ++ (key, body) ∷ [] = c.in-Some.ensures.steps in
    ap (λ (r : Row). Some r) c.in_ok-row-in-Some.ensures
    ∙ sym (last_row-push (rows_of rest) (row_with key body))
    ∙ ap (λ (l : List Row). last_row l) (sym (rows_of-append rest ((key, body) ∷ [])))
    ∙ ap (λ (l : List (RowId × RowBody)). last_row (rows_of l)) (sym e ∙ c.range-before.ensures.between tt)
    ∙ last_row-range_before c.args.id.now slots

pub returns-in-None : goal.returns-in-None
returns-in-None c =
    let e : c.range-before.result ≡ [] = c.in-None.ensures.steps.0 in
    ap (λ (l : List (RowId × RowBody)). last_row (rows_of l)) (sym e ∙ c.range-before.ensures.between tt)
    ∙ last_row-range_before c.args.id.now c.args.rows.now.entries
