use Rattle.std.proofs.Common.{◌≡◌, List, take, sym, ap, ◌∙◌}
use Rattle.std.proofs.lemmas.List.{take_rest}
use Rattle.agg_outside.specs.declared.rows.Row.{Row}
use Rattle.agg_outside.specs.Rows.{rows_from}
use Rattle.agg_outside.specs.RowOrder.{rows_from-place}
use Rattle.memory_side.proofs.row_places.some_rows_from.Goals as goal

pub returns : goal.returns
returns c =
    let rows = c.args.rows.now in
    let id = c.args.id.now in
    let place = c.place_of-place.result in
    let e : c.front_of-front.result.now ≡ take c.args.limit (rows_from id rows) =
    c.front_of-front.ensures ∙ ap (λ (l : List Row). take c.args.limit l) (take_rest rows place ∙ sym (rows_from-place id rows place c.place_of-place.ensures)) in
    rw (← e) c.copy_rows.ensures
