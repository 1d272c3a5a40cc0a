use Rattle.std.proofs.Common.{◌≡◌, ℕ, suc, ◌-◌, ◌<◌, List, true, ◌∙◌, ap, sym, subst, arith, length, take, take_all, get_or}
use Rattle.agg_outside.specs.declared.rows.RowWrite.{RowWrite}
use Rattle.agg_outside.specs.Rows.{Held, written, CanWrite, applied}
use Rattle.memory_side.specs.RowTree.{adds}
use Rattle.memory_side.proofs.RowAdds.{applied-more, can-more, adds_at, none_taken}
use Rattle.memory_side.proofs.tree_adds.take_all_back.Goals as goal

pub loop-left-init : goal.loop-left-init
loop-left-init c =
    let writes = c.args.writes.now in
    record {
      within = omega arith;
      rows = λ held all can is. is ∙ ap (λ (ws : List RowWrite). (applied ws held).rows) (sym (take_all (length writes) writes (omega arith)));
    }

pub loop-left-preserved : goal.loop-left-preserved
loop-left-preserved c =
    let writes = c.args.writes.now in
    let i = c.loop-left.left - 1 in
    let write = c.index-writes-left.result in
    let lt : i < length writes = omega (arith, c.loop-left.invariant.within, c.loop-left-test.true) in
    let more : c.loop-left.left ≡ suc i = omega (arith, c.loop-left-test.true) in
    let item : get_or writes i write ≡ write = sym c.index-writes-left.is in
    record {
      within = omega (arith, lt);
      rows = λ held all can is.
          let front = applied (take i writes) held in
          let add : adds write ≡ true = subst (λ (w : RowWrite). adds w ≡ true) item (adds_at writes i write all lt) in
          let fresh : CanWrite write front = subst (λ (w : RowWrite). CanWrite w front) item (can-more writes i write held lt can) in
          c.take_back.ensures front add fresh
          (c.loop-left.invariant.rows held all can is
          ∙ ap (λ (n : ℕ). (applied (take n writes) held).rows) more
          ∙ ap (λ (h : Held). h.rows) (applied-more writes i write held lt)
          ∙ ap (λ (w : RowWrite). (written w front).rows) item);
    }

pub returns : goal.returns
returns c = λ held all can is.
    let writes = c.args.writes.now in
    let none : c.loop-left.left ≡ 0 = omega (arith, c.loop-left-test.false) in
    c.loop-left.invariant.rows held all can is
    ∙ ap (λ (n : ℕ). (applied (take n writes) held).rows) none
    ∙ ap (λ (h : Held). h.rows) (none_taken writes held)
