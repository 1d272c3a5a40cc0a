use Rattle.std.proofs.Common.{◌+◌, ◌++◌, ◌∷◌, [], suc, ◌∙◌, ap, arith}
use Rattle.merge_ranges.specs.Cut.{canon, canon_from}
use Rattle.merge_ranges.proofs.CutLaws.{canon_from-most}
use Rattle.merge_ranges.proofs.Walks.{cut-step, range_at}
use Rattle.merge_ranges.proofs.cut.canon_cut.Goals as goal

pub loop-from-init : goal.loop-from-init
unfolding canon
loop-from-init c = record {
  within = omega arith;
  left = λ most h. ap (λ l. l ++ canon_from most 0 c.args.m) c.new-cut.ensures ∙ canon_from-most most c.args.m 0 c.args.m h (omega arith);
}

pub loop-from-preserved : goal.loop-from-preserved
loop-from-preserved c =
    let from = c.loop-from.from in
    record {
      within = omega (arith, c.longest.ensures.within);
      left = λ most h.
          ap (λ l. l ++ canon_from most (from + c.longest.result) c.args.m) c.in_ok-push.ensures.ok
          ∙ ap (λ l. (c.loop-from.cut ++ range_at from c.longest.result ∷ []) ++ l)
          (canon_from-most most (c.longest.result + most) (from + c.longest.result) c.args.m h (omega arith))
          ∙ cut-step c.loop-from.cut (c.longest.result + most) from c.args.m c.longest.result c.loop-from-test.true c.longest.ensures.exact
          ∙ c.loop-from.invariant.left (suc (c.longest.result + most)) (omega arith);
    }
