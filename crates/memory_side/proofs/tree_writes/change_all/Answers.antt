use Rattle.std.proofs.Common.{◌≡◌, ℕ, suc, ◌+◌, ◌<◌, ◌≤◌, List, refl, ◌∙◌, ap, sym, subst, arith, length, take, take_all, get_or}
use Rattle.agg_outside.specs.declared.rows.RowWrite.{RowWrite}
use Rattle.agg_outside.specs.Rows.{Held, written, CanWrite, applied}
use Rattle.memory_side.specs.RowTree.{rows_of}
use Rattle.memory_side.proofs.RowAdds.{applied-more, can-more}
use Rattle.memory_side.proofs.tree_writes.change_all.Goals as goal

pub loop-write-init : goal.loop-write-init
loop-write-init c = record { rows = refl; floor = refl }

pub loop-write-preserved : goal.loop-write-preserved
loop-write-preserved c =
    let writes = c.args.writes.now in
    let i = c.loop-write.write-index in
    let write = c.write-item.result in
    let held : Held = record { rows = rows_of c.args.rows.now.entries; floor = c.args.floor.now } in
    let at : Held = record { rows = rows_of c.loop-write.rows.entries; floor = c.loop-write.floor } in
    let front = applied (take i writes) held in
    let now : at ≡ front = λ k. record { rows = c.loop-write.invariant.rows k; floor = c.loop-write.invariant.floor k } in
    let lt : i < length writes = omega arith in
    let item : get_or writes i write ≡ write = sym c.write-item.is in
    let more : i + 1 ≡ suc i = omega arith in
    let next : applied (take (i + 1) writes) held ≡ written write front =
    ap (λ (n : ℕ). applied (take n writes) held) more
    ∙ applied-more writes i write held lt
    ∙ ap (λ (w : RowWrite). written w front) item in
    record {
      rows =
          c.change.ensures.rows
          ∙ ap (λ (h : Held). (written write h).rows) now
          ∙ ap (λ (h : Held). h.rows) (sym next);
      floor =
          c.change.ensures.floor
          ∙ ap (λ (h : Held). (written write h).floor) now
          ∙ ap (λ (h : Held). h.floor) (sym next);
    }

pub change-requires-clause-can : goal.change-requires-clause-can
change-requires-clause-can c =
    let writes = c.args.writes.now in
    let i = c.loop-write.write-index in
    let write = c.write-item.result in
    let held : Held = record { rows = rows_of c.args.rows.now.entries; floor = c.args.floor.now } in
    let at : Held = record { rows = rows_of c.loop-write.rows.entries; floor = c.loop-write.floor } in
    let front = applied (take i writes) held in
    let now : at ≡ front = λ k. record { rows = c.loop-write.invariant.rows k; floor = c.loop-write.invariant.floor k } in
    let lt : i < length writes = omega arith in
    let item : get_or writes i write ≡ write = sym c.write-item.is in
    let can : CanWrite write front = subst (λ (w : RowWrite). CanWrite w front) item (can-more writes i write held lt c.requires.can) in
    subst (λ (h : Held). CanWrite write h) (sym now) can

pub returns-clause-rows : goal.returns-clause-rows
returns-clause-rows c =
    let writes = c.args.writes.now in
    let held : Held = record { rows = rows_of c.args.rows.now.entries; floor = c.args.floor.now } in
    let all : length writes ≤ c.loop-write.write-index = omega arith in
    c.loop-write.invariant.rows ∙ ap (λ (ws : List RowWrite). (applied ws held).rows) (take_all c.loop-write.write-index writes all)

pub returns-clause-floor : goal.returns-clause-floor
returns-clause-floor c =
    let writes = c.args.writes.now in
    let held : Held = record { rows = rows_of c.args.rows.now.entries; floor = c.args.floor.now } in
    let all : length writes ≤ c.loop-write.write-index = omega arith in
    c.loop-write.invariant.floor ∙ ap (λ (ws : List RowWrite). (applied ws held).floor) (take_all c.loop-write.write-index writes all)
