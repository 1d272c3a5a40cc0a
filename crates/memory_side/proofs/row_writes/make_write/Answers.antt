use Rattle.std.proofs.Common.{◌<◌, IsSome, length, set, sym, ap, ◌∙◌, arith}
use Rattle.agg_outside.specs.declared.rows.Row.{Row}
use Rattle.agg_outside.specs.Rows.{row_at}
use Rattle.agg_outside.specs.RowOrder.{IsPlace, row_at-place, insert_row-place, kill_row-place, remove_row-place}
use Rattle.memory_side.proofs.row_writes.make_write.Goals as goal

pub index_mut-requires : goal.index_mut-requires
index_mut-requires c =
    let items = c.args.rows.now.items in
    let there : IsSome (row_at c.in-Kill.id items) = rw c.in-Kill.is at c.requires.can in
    let place : IsPlace c.in-Kill.id items c.place_of-place-in-Kill.result = rw c.deref-in-Kill.ensures.value at c.place_of-place-in-Kill.ensures in
    let at : c.place_of-place-in-Kill.result < length items = (row_at-place c.in-Kill.id items _ c.requires.in_order place there).0 in
    omega (arith, ap length c.deref-in-Kill.ensures.value, c.deref-in-Kill.ensures.len)

pub remove-row-requires : goal.remove-row-requires
remove-row-requires c =
    let items = c.args.rows.now.items in
    let there : IsSome (row_at c.in-Remove.id items) = rw c.in-Remove.is at c.requires.can in
    let place : IsPlace c.in-Remove.id items c.place_of-place-in-Remove.result = rw c.deref-in-Remove.ensures.value at c.place_of-place-in-Remove.ensures in
    let at : c.place_of-place-in-Remove.result < length items = (row_at-place c.in-Remove.id items _ c.requires.in_order place there).0 in
    omega (arith, ap length c.deref-in-Remove.ensures.value, c.deref-in-Remove.ensures.len)

pub returns-in-Ok-clause-rows : goal.returns-in-Ok-clause-rows
returns-in-Ok-clause-rows c =
    let items = c.args.rows.now.items in
    let place : IsPlace c.in-Insert.row.id items c.place_of-place.result = rw c.deref.ensures.value at c.place_of-place.ensures in
    rw c.in-Insert.is (c.in-Ok.ensures.items ∙ sym (insert_row-place c.in-Insert.row items c.place_of-place.result place))

pub returns-in-Kill-clause-rows : goal.returns-in-Kill-clause-rows
returns-in-Kill-clause-rows c =
    let items = c.args.rows.now.items in
    let at = c.place_of-place-in-Kill.result in
    let row : Row = c.index_mut.result.now in
    let there : IsSome (row_at c.in-Kill.id items) = rw c.in-Kill.is at c.requires.can in
    let place : IsPlace c.in-Kill.id items at = rw c.deref-in-Kill.ensures.value at c.place_of-place-in-Kill.ensures in
    rw c.in-Kill.is
    (ap (λ (x : Row). set items at (record x { killed = c.in-Kill.epoch })) c.index_mut.ensures.value
    ∙ sym (kill_row-place c.in-Kill.id c.in-Kill.epoch items at row c.requires.in_order place there))

pub returns-in-Remove-clause-rows : goal.returns-in-Remove-clause-rows
returns-in-Remove-clause-rows c =
    let items = c.args.rows.now.items in
    let there : IsSome (row_at c.in-Remove.id items) = rw c.in-Remove.is at c.requires.can in
    let place : IsPlace c.in-Remove.id items c.place_of-place-in-Remove.result = rw c.deref-in-Remove.ensures.value at c.place_of-place-in-Remove.ensures in
    rw c.in-Remove.is
    (c.remove-row.ensures.items ∙ sym (remove_row-place c.in-Remove.id items c.place_of-place-in-Remove.result c.requires.in_order place there))
