use Rattle.std.proofs.Common.{◌≡◌, ℕ, suc, ◌+◌, ◌<◌, ◌≤◌, List, true, false, is_err, refl, ◌∙◌, ap, sym, subst, arith, length, take, take_all, get_or}
use Rattle.std.specs.List.{list_all}
use Rattle.agg_outside.specs.declared.rows.RowWrite.{RowWrite}
use Rattle.agg_outside.specs.Rows.{Held, written, CanWrite, applied, CanApply}
use Rattle.memory_side.specs.RowTree.{rows_of, adds}
use Rattle.memory_side.proofs.RowAdds.{applied-more, can-more, can-front, adds-front, from_ok, from_err}
use Rattle.memory_side.proofs.tree_adds.add_all.Goals as goal

pub loop-i-init : goal.loop-i-init
loop-i-init c = record { rows = refl; floor = refl }

pub loop-i-preserved : goal.loop-i-preserved
loop-i-preserved c =
    let writes = c.args.writes.now in
    let i = c.loop-i.i in
    let write = c.index-writes-i.result in
    let held : Held = record { rows = rows_of c.args.rows.now.entries; floor = c.args.floor.now } in
    let at : Held = record { rows = rows_of c.loop-i.rows.entries; floor = c.loop-i.floor } in
    let front = applied (take i writes) held in
    let now : at ≡ front = λ k. record { rows = c.loop-i.invariant.rows k; floor = c.loop-i.invariant.floor k } in
    let lt : i < length writes = omega (arith, c.loop-i-test.true) in
    let item : get_or writes i write ≡ write = sym c.index-writes-i.is in
    let more : i + 1 ≡ suc i = omega arith in
    let ok : is_err c.add.result ≡ false = sym c.is_err.ensures.value ∙ c.if-is_err.false in
    let next : applied (take (i + 1) writes) held ≡ written write front =
    ap (λ (n : ℕ). applied (take n writes) held) more
    ∙ applied-more writes i write held lt
    ∙ ap (λ (w : RowWrite). written w front) item in
    record {
      rows =
          from_ok c.add.result (rows_of c.add.new.rows.entries ≡ (written write at).rows) ok c.add.ensures.rows
          ∙ ap (λ (h : Held). (written write h).rows) now
          ∙ ap (λ (h : Held). h.rows) (sym next);
      floor =
          from_ok c.add.result (c.add.new.floor ≡ (written write at).floor) ok c.add.ensures.floor
          ∙ ap (λ (h : Held). (written write h).floor) now
          ∙ ap (λ (h : Held). h.floor) (sym next);
    }

pub add-requires-clause-can : goal.add-requires-clause-can
add-requires-clause-can c =
    let writes = c.args.writes.now in
    let i = c.loop-i.i in
    let write = c.index-writes-i.result in
    let held : Held = record { rows = rows_of c.args.rows.now.entries; floor = c.args.floor.now } in
    let at : Held = record { rows = rows_of c.loop-i.rows.entries; floor = c.loop-i.floor } in
    let front = applied (take i writes) held in
    let now : at ≡ front = λ k. record { rows = c.loop-i.invariant.rows k; floor = c.loop-i.invariant.floor k } in
    let lt : i < length writes = omega (arith, c.loop-i-test.true) in
    let item : get_or writes i write ≡ write = sym c.index-writes-i.is in
    let can : CanWrite write front = subst (λ (w : RowWrite). CanWrite w front) item (can-more writes i write held lt c.requires.can) in
    subst (λ (h : Held). CanWrite write h) (sym now) can

pub returns-then-is_err-clause-err : goal.returns-then-is_err-clause-err
returns-then-is_err-clause-err c =
    let writes = c.args.writes.now in
    let i = c.loop-i.i in
    let held : Held = record { rows = rows_of c.args.rows.now.entries; floor = c.args.floor.now } in
    let made = c.first_writes-made.result.now in
    let e : made ≡ take i writes = c.first_writes-made.ensures in
    let err : is_err c.add.result ≡ true = sym c.is_err.ensures.value ∙ c.if-is_err.true in
    let all : list_all adds made ≡ true = subst (λ (ws : List RowWrite). list_all adds ws ≡ true) (sym e) (adds-front writes i c.requires.adds) in
    let can : CanApply made held = subst (λ (ws : List RowWrite). CanApply ws held) (sym e) (can-front writes i held c.requires.can) in
    let is : rows_of c.add.new.rows.entries ≡ (applied made held).rows =
    from_err c.add.result (rows_of c.add.new.rows.entries ≡ rows_of c.loop-i.rows.entries) err c.add.ensures.err
    ∙ c.loop-i.invariant.rows
    ∙ ap (λ (ws : List RowWrite). (applied ws held).rows) (sym e) in
    (c.take_all_back.ensures held all can is, refl)

pub returns-clause-rows : goal.returns-clause-rows
returns-clause-rows c =
    let writes = c.args.writes.now in
    let held : Held = record { rows = rows_of c.args.rows.now.entries; floor = c.args.floor.now } in
    let all : length writes ≤ c.loop-i.i = omega (arith, c.loop-i-test.false) in
    c.loop-i.invariant.rows ∙ ap (λ (ws : List RowWrite). (applied ws held).rows) (take_all c.loop-i.i writes all)

pub returns-clause-floor : goal.returns-clause-floor
returns-clause-floor c =
    let writes = c.args.writes.now in
    let held : Held = record { rows = rows_of c.args.rows.now.entries; floor = c.args.floor.now } in
    let all : length writes ≤ c.loop-i.i = omega (arith, c.loop-i-test.false) in
    c.loop-i.invariant.floor ∙ ap (λ (ws : List RowWrite). (applied ws held).floor) (take_all c.loop-i.i writes all)
