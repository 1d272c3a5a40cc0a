use Rattle.std.proofs.Common.{◌≡◌, ◌<◌, ◌≤◌, ◌+◌, ◌∷◌, [], ◌++◌, List, true, length, take, sym, ap, subst, ◌∙◌, arith, take_all}
use Rattle.std.proofs.lemmas.List.{take_more}
use Rattle.std.specs.BTreeMap.{insert_entry}
use Rattle.agg_outside.specs.declared.rows.RowId.{RowId}
use Rattle.agg_outside.specs.declared.rows.Row.{Row}
use Rattle.memory_side.specs.declared.row_body.RowBody.{RowBody}
use Rattle.agg_outside.specs.Rows.{id_cmp}
use Rattle.agg_outside.specs.RowOrder.{all_before}
use Rattle.memory_side.specs.RowTree.{rows_of, body_of}
use Rattle.memory_side.proofs.RowSlots.{slots_of, slots_of-push, rows_of-slots_of, insert_last, before_each}
use Rattle.memory_side.proofs.row_tree.tree_of.Goals as goal

pub loop-row-preserved : goal.loop-row-preserved
loop-row-preserved c =
    let rows = c.args.rows.now in
    let i = c.loop-row.row-index in
    let row : Row = c.row-item.result in
    let slot : RowBody = body_of row in
    let lt : i < length rows = omega arith in
    let e : take (i + 1) rows ≡ take i rows ++ row ∷ [] = take_more rows i row lt ∙ ap (λ (r : Row). take i rows ++ r ∷ []) (sym c.row-item.is) in
    let before : all_before row.id (take i rows) ≡ true =
    subst (λ (r : Row). all_before r.id (take i rows) ≡ true) (sym c.row-item.is) (before_each rows i row c.requires lt) in
    c.in_ok-put_row.ensures.put
    ∙ ap (λ (l : List (RowId × RowBody)). insert_entry id_cmp l row.id slot) c.loop-row.invariant
    ∙ insert_last row.id slot (take i rows) before
    ∙ sym (slots_of-push (take i rows) row)
    ∙ ap (λ (l : List Row). slots_of l) (sym e)

pub returns : goal.returns
returns c =
    let rows = c.args.rows.now in
    let all : length rows ≤ c.loop-row.row-index = omega arith in
    ap (λ (l : List (RowId × RowBody)). rows_of l) c.loop-row.invariant
    ∙ ap (λ (l : List Row). rows_of (slots_of l)) (take_all c.loop-row.row-index rows all)
    ∙ rows_of-slots_of rows
