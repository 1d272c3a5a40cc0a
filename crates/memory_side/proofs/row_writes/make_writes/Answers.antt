use Rattle.std.proofs.Common.{◌≡◌, ◌∷◌, IsTrue, length, sym, ap, subst, ◌∙◌, arith}
use Rattle.std.specs.Vec.Iter.{into_iter_items}
use Rattle.agg_outside.specs.Rows.{Held, ascends, written, applied, CanApply}
use Rattle.agg_outside.specs.RowOrder.{written-ascends}
use Rattle.memory_side.proofs.row_writes.make_writes.Goals as goal

pub loop-write-preserved : goal.loop-write-preserved
loop-write-preserved c =
    let at = c.loop-write in
    let write = c.in-Some.write in
    let rest = into_iter_items c.next.new.self in
    let steps : into_iter_items at.write-iterator ≡ write ∷ rest = c.in-Some.ensures.steps.0 in
    let held : Held = record { rows = at.rows.items; floor = at.floor } in
    let can = rw steps at at.invariant.can in
    let left = rw steps at at.invariant.left in
    let room = ap length steps in
    let now : (record { rows = c.make_write.new.rows.items; floor = c.make_write.new.floor }) ≡ written write held =
    λ i. record { rows = c.make_write.ensures.rows i; floor = c.make_write.ensures.floor i } in
    record {
      in_order = subst (λ (h : Held). IsTrue (ascends h.rows)) (sym now) (written-ascends write held at.invariant.in_order can.0);
      can = subst (λ (h : Held). CanApply rest h) (sym now) can.1;
      room = let before = at.invariant.room in omega (arith, c.make_write.ensures.len, c.make_write.ensures.capacity);
      left = ap (λ (h : Held). applied rest h) now ∙ left;
    }
