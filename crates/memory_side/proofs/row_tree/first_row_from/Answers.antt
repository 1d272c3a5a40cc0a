use Rattle.std.proofs.Common.{◌≡◌, List, [], ◌∷◌, Some, slice_get, sym, ap, ◌∙◌}
use Rattle.agg_outside.specs.declared.rows.RowId.{RowId}
use Rattle.agg_outside.specs.declared.rows.Row.{Row}
use Rattle.memory_side.specs.declared.row_body.RowBody.{RowBody}
use Rattle.memory_side.specs.RowTree.{rows_of}
use Rattle.memory_side.proofs.RowSlots.{rows_of-range_from, first_from-rows_from}
use Rattle.memory_side.proofs.row_tree.first_row_from.Goals as goal

pub returns-in_ok-row-in-Some : goal.returns-in_ok-row-in-Some
returns-in_ok-row-in-Some c =
    let slots = c.args.rows.now.entries in
    let id = c.args.id.now in
    let e : c.range-from.result ≡ (c.in-Some.key.now, c.in-Some.body.now) ∷ c.next.new.self = c.in-Some.ensures.steps in
    ap (λ (r : Row). Some r) c.in_ok-row-in-Some.ensures
    ∙ ap (λ (l : List (RowId × RowBody)). slice_get (rows_of l) 0) (sym e ∙ c.range-from.ensures.between tt)
    ∙ ap (λ (l : List Row). slice_get l 0) (rows_of-range_from id slots)
    ∙ sym (first_from-rows_from id (rows_of slots))

pub returns-in-None : goal.returns-in-None
returns-in-None c =
    let slots = c.args.rows.now.entries in
    let id = c.args.id.now in
    let e : c.range-from.result ≡ [] = c.in-None.ensures.steps.0 in
    ap (λ (l : List (RowId × RowBody)). slice_get (rows_of l) 0) (sym e ∙ c.range-from.ensures.between tt)
    ∙ ap (λ (l : List Row). slice_get l 0) (rows_of-range_from id slots)
    ∙ sym (first_from-rows_from id (rows_of slots))
