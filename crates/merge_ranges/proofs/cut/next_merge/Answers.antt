use Rattle.std.proofs.Common.{◌+◌, suc, cond, find, Some, None, Option, ◌≡◌, sym, ◌∙◌, ap, arith}
use Rattle.agg_model.specs.declared.entity.Range.{Range}
use Rattle.merge_ranges.specs.Cut.{canon, canon_from, next_merge_of, is_to_merge}
use Rattle.merge_ranges.proofs.CutLaws.{canon_from-most, answer-union, answer-settled}
use Rattle.merge_ranges.proofs.Walks.{find-step, range_at}
use Rattle.merge_ranges.proofs.cut.next_merge.Goals as goal
use Rattle.merge_ranges.proofs.cut.next_merge.Goals.{Then-is_free}

-- the whole canonical cut is before the walk
pub loop-from-init : goal.loop-from-init
unfolding canon next_merge_of
loop-from-init c = record {
  within = omega arith;
  left = λ most h.
      ap (find (is_to_merge c.args.cut.now c.args.busy.now))
      (canon_from-most most c.end-end.result 0 c.end-end.result h (omega arith) ∙ ap canon c.end-end.ensures);
}

pub overflow_add-range : goal.overflow_add-range
overflow_add-range c = omega (arith, c.longest.ensures.within)

found : (c : Then-is_free) → ◌≡◌ {A = Option Range} (Some (range_at c.loop-from.from c.longest.result)) (next_merge_of c.args.cut.now c.args.busy.now)
found c =
    let p = is_to_merge c.args.cut.now c.args.busy.now in
    let from = c.loop-from.from in
    let end = c.end-end.result in
    let range = range_at from c.longest.result in
    sym (find-step p end from end c.longest.result c.loop-from-test.true c.longest.ensures.exact
    ∙ ap (λ t. cond t (Some range) (find p (canon_from end (from + c.longest.result) end))) (sym c.is_free.ensures ∙ c.if-is_free.true))
    ∙ c.loop-from.invariant.left (suc end) (omega arith)

pub returns-then-is_free : goal.returns-then-is_free
returns-then-is_free c = record {
  exact = found c;
  union = answer-union c.args.cut.now c.args.busy.now _ c.requires (found c);
  settled = answer-settled c.args.cut.now c.args.busy.now _ c.requires (found c);
}

pub loop-from-preserved : goal.loop-from-preserved
loop-from-preserved c =
    let p = is_to_merge c.args.cut.now c.args.busy.now in
    let from = c.loop-from.from in
    let end = c.end-end.result in
    record {
      within = omega (arith, c.longest.ensures.within);
      left = λ most h.
          ap (find p) (canon_from-most most (c.longest.result + most) (from + c.longest.result) end h (omega arith))
          ∙ sym (find-step p (c.longest.result + most) from end c.longest.result c.loop-from-test.true c.longest.ensures.exact
          ∙ ap (λ t. cond t (Some (range_at from c.longest.result)) (find p (canon_from (c.longest.result + most) (from + c.longest.result) end)))
          (sym c.is_free.ensures ∙ c.if-is_free.false))
          ∙ c.loop-from.invariant.left (suc (c.longest.result + most)) (omega arith);
    }

pub returns-clause-settled : goal.returns-clause-settled
returns-clause-settled c =
    answer-settled c.args.cut.now c.args.busy.now None c.requires (c.loop-from.invariant.left 0 (omega arith))
