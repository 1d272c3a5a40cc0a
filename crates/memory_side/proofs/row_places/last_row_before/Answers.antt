use Rattle.std.proofs.Common.{◌≡◌, ℕ, suc, ◌-◌, sym, subst, arith}
use Rattle.agg_outside.specs.RowOrder.{IsPlace, last_before-start, last_before-place}
use Rattle.memory_side.proofs.row_places.last_row_before.Goals as goal

pub returns-then-place-eq0 : goal.returns-then-place-eq0
returns-then-place-eq0 c =
    let place : IsPlace c.args.id.now c.args.rows.now 0 = rw c.if-place-eq0.true at c.place_of-place.ensures in
    sym (last_before-start c.args.id.now c.args.rows.now place)

pub returns : goal.returns
returns c =
    let e : c.place_of-place.result ≡ suc (c.place_of-place.result - 1) = omega arith in
    let place : IsPlace c.args.id.now c.args.rows.now (suc (c.place_of-place.result - 1)) =
    subst (λ (n : ℕ). IsPlace c.args.id.now c.args.rows.now n) e c.place_of-place.ensures in
    rw (last_before-place c.args.id.now c.args.rows.now (c.place_of-place.result - 1) place) c.row_at.ensures
