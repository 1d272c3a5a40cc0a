use Rattle.std.proofs.Common.{◌≡◌, List, true, sym, subst}
use Rattle.agg_outside.specs.declared.rows.Row.{Row}
use Rattle.agg_outside.specs.Rows.{Held, ascends, applied}
use Rattle.agg_outside.specs.RowOrder.{applied-ascends}
use Rattle.memory_side.specs.RowTree.{rows_of}
use Rattle.memory_side.proofs.RowAdds.{either}
use Rattle.memory_side.proofs.tree_writes.apply_all.Goals as goal

pub returns-then-only_add-clause-in_order : goal.returns-then-only_add-clause-in_order
returns-then-only_add-clause-in_order c =
    let writes = c.args.writes.now in
    let held : Held = record { rows = rows_of c.args.rows.now.entries; floor = c.args.floor.now } in
    let now = rows_of c.add_all.new.rows.entries in
    either c.add_all.result
    (now ≡ (applied writes held).rows)
    ((now ≡ held.rows) × (c.add_all.new.floor ≡ held.floor))
    (ascends now ≡ true)
    c.add_all.ensures.rows c.add_all.ensures.err
    (λ e. subst (λ (rows : List Row). ascends rows ≡ true) (sym e) (applied-ascends writes held c.requires.in_order c.requires.can))
    (λ e. subst (λ (rows : List Row). ascends rows ≡ true) (sym e.0) c.requires.in_order)

pub returns-then-add_none-clause-in_order : goal.returns-then-add_none-clause-in_order
returns-then-add_none-clause-in_order c =
    let writes = c.args.writes.now in
    let held : Held = record { rows = rows_of c.args.rows.now.entries; floor = c.args.floor.now } in
    subst (λ (rows : List Row). ascends rows ≡ true) (sym c.change_all.ensures.rows) (applied-ascends writes held c.requires.in_order c.requires.can)

pub returns-clause-in_order : goal.returns-clause-in_order
returns-clause-in_order c =
    let writes = c.args.writes.now in
    let held : Held = record { rows = rows_of c.args.rows.now.entries; floor = c.args.floor.now } in
    let now = rows_of c.apply_to_copy.new.rows.entries in
    either c.apply_to_copy.result
    (now ≡ (applied writes held).rows)
    ((now ≡ held.rows) × (c.apply_to_copy.new.floor ≡ held.floor))
    (ascends now ≡ true)
    c.apply_to_copy.ensures.rows c.apply_to_copy.ensures.err
    (λ e. subst (λ (rows : List Row). ascends rows ≡ true) (sym e) (applied-ascends writes held c.requires.in_order c.requires.can))
    (λ e. subst (λ (rows : List Row). ascends rows ≡ true) (sym e.0) c.requires.in_order)
