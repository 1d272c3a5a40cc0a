use Rattle.std.proofs.Common.{◌≡◌, List, [], ◌∷◌, ◌++◌, ◌<◌, ◌-◌, length, take, ap, ◌∙◌, arith, length-append}
use Rattle.agg_outside.specs.declared.rows.RowId.{RowId}
use Rattle.agg_outside.specs.declared.rows.Row.{Row}
use Rattle.memory_side.specs.declared.row_body.RowBody.{RowBody}
use Rattle.memory_side.specs.RowTree.{rows_of}
use Rattle.memory_side.proofs.RowSlots.{rows_of-range_from, taken_more}
use Rattle.memory_side.proofs.row_tree.some_rows_from.Goals as goal

pub loop-key-init : goal.loop-key-init
loop-key-init c =
    let slots = c.args.rows.now.entries in
    let id = c.args.id.now in
    let limit = c.args.limit in
    let e = c.into_iter-key-iterator.ensures.into_iter_gives ∙ c.range-key-items.ensures.between tt in
    let none : c.new-copies.result ≡ [] = c.new-copies.ensures in
    let whole : limit - 0 ≡ limit = omega arith in (
      tt,
      tt,
      rw none (omega arith),
      rw (none, whole) (ap (λ (l : List (RowId × RowBody)). take limit (rows_of l)) e ∙ ap (λ (l : List Row). take limit l) (rows_of-range_from id slots)),
    )

pub loop-key-preserved : goal.loop-key-preserved
loop-key-preserved c =
    let key = c.in-Some.key.now in
    let body = c.in-Some.body.now in
    let rest = c.next.new.self in
    let copies = c.loop-key.copies in
    let row : Row = c.in_ok-row.field-0 in
    let limit = c.args.limit in
    let e : c.loop-key.key-iterator ≡ (key, body) ∷ rest = c.in-Some.ensures.steps in
    let pushed : c.push.new.self ≡ copies ++ row ∷ [] = c.in_ok-push.ensures.ok in
    let is = c.in_ok-row.ensures in
    let room : length copies < limit = omega (arith, c.len.ensures) in
    let inv = rw e at c.loop-key.invariant.3 in (
      tt,
      tt,
      rw pushed (omega (arith, length-append copies (row ∷ []))),
      rw pushed
          (taken_more copies (rows_of rest) row limit room
          ∙ ap (λ (r : Row). copies ++ take (limit - length copies) (r ∷ rows_of rest)) is
          ∙ inv),
    )
